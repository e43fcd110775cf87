-- The Expected trades of a call reach the greatest volume: under `uniform` the greatest executable volume, under `maximum` the
-- least cut.
use Rattle.std.proofs.Common.{◌≡◌, ◌≤◌, ◌<◌, ℕ, List, [], ◌∷◌, refl, sym, ◌∙◌, arith, All}
use Rattle.std.specs.Prelude.{◌^◌}
use Rattle.std.proofs.lemmas.List.Elements.{All-head}
use Rattle.audit_base.specs.declared.orders.Order.{Order}
use Rattle.audit_base.specs.declared.orders.Deal.{Deal}
use Rattle.audit_base.specs.declared.orders.Cut.{Cut}
use Rattle.audit_base.specs.Orders.{order_past_end, limit_at, IsOrderList, OrdersInRange}
use Rattle.audit_base.specs.Deals.{volume, DealsInRange}
use Rattle.audit_base.specs.Calls.{IsMatchingDeal, Matching, OnePrice, ConformsUniform, ConformsMaximum, IsGreatestVolume, IsGreatestUniformVolume}
use Rattle.audit_base.specs.Bounds.{executable_volume, IsLeastCut, IsGreatestExecutableVolume}
use Rattle.audit_base.specs.Units.{uniform_units, maximum_units, if_both_uncancelled}
use Rattle.audit_base.specs.Expected.{uniform_deals, IsExpectedUniform, maximum_deals, IsExpectedMaximum}
use Rattle.audit_base.proofs.PairDealLemmas.{pair_deals-are}
use Rattle.audit_base.proofs.VolumeLemmas.{volume-le-demand, volume-le-supply, cut-greatest}
use Rattle.call_laws.proofs.CallLemmas.{Reaches, fills-reach}
use Rattle.call_laws.proofs.UniformLemmas.{uniform-fills}
use Rattle.call_laws.proofs.MaximumLemmas.{maximum-fills}

-- the volume of a matching of one price is at most the executable volume there
pub volume-le-uniform : (orders : List Order) (deals : List Deal) (p : ℕ) → Matching orders deals → All (λ d. d.price ≡ p) deals → volume deals ≤ executable_volume orders p
volume-le-uniform orders deals p m one = omega (arith, volume-le-demand orders deals m p one, volume-le-supply orders deals m p one)

module _ (orders : List Order) (c : Cut) (list : IsOrderList orders) (ranges : OrdersInRange orders) where
  module _ (best : IsGreatestExecutableVolume orders c) where
    abbrev uniform : List Deal
    uniform = uniform_deals orders c.volume c.price

    pub uniform-reaches : Reaches orders uniform c.volume
    uniform-reaches =
        let at : executable_volume orders c.price ≡ c.volume = best.reached.holds.1 in
        fills-reach orders list (uniform_units orders c.volume) (λ bid ask. c.price) c.volume (uniform-fills orders list c.price c.volume (omega arith) (omega arith))

    -- a price at which a matching of one price has a deal is below 10^18
    one_price-most : (others : List Deal) → Matching orders others → OnePrice others → volume others ≤ c.volume
    one_price-most [] m one = omega arith
    one_price-most (d ∷ ds) m one =
        let k = All-head (IsMatchingDeal orders) d ds m.kept in
        let price : d.price ≡ one.price = All-head (λ e. e.price ≡ one.price) d ds one.each in
        let under : limit_at orders d.bid < 10 ^ 18 = (ranges d.bid order_past_end k.bid_stands.inside).priced in
        omega (arith, volume-le-uniform orders (d ∷ ds) one.price m one.each, best.greatest one.price (omega (arith, k.limits.most)))

    pub uniform-conforms : ConformsUniform orders uniform
    uniform-conforms = record {
      matching = uniform-reaches.matching;
      fair = uniform-reaches.fair;
      one_price = record { price = c.price; each = λ n e lt. ((pair_deals-are orders (if_both_uncancelled orders (uniform_units orders c.volume)) (λ bid ask. c.price)).each n e lt).at };
      greatest = λ others r m one. omega (arith, uniform-reaches.reached, one_price-most others m one);
    }

    pub uniform-greatest : IsGreatestUniformVolume orders c.volume
    uniform-greatest = let u = uniform-conforms in record { deals = uniform; ranges = uniform-reaches.ranges ranges; matching = u.matching; one_price = u.one_price; greatest = u.greatest; reached = uniform-reaches.reached }

    pub uniform-expected : IsExpectedUniform orders uniform
    uniform-expected = record { most = c.volume; bound = c.price; greatest = uniform-greatest; is_bound = best.reached; pairs = refl }

    pub uniform-ranges : DealsInRange uniform
    uniform-ranges = uniform-reaches.ranges ranges

  module _ (least : IsLeastCut orders c) where
    abbrev maximum : List Deal
    maximum = maximum_deals orders c.volume

    pub maximum-reaches : Reaches orders maximum c.volume
    maximum-reaches = fills-reach orders list (maximum_units orders c.volume) (λ bid ask. limit_at orders ask) c.volume (maximum-fills orders list ranges c.volume least.least)

    pub maximum-conforms : ConformsMaximum orders maximum
    maximum-conforms = record {
      matching = maximum-reaches.matching;
      fair = maximum-reaches.fair;
      greatest = cut-greatest orders maximum c.price (maximum-reaches.reached ∙ sym (least.reached.holds.1));
    }

    pub maximum-greatest : IsGreatestVolume orders c.volume
    maximum-greatest = let m = maximum-conforms in record { deals = maximum; ranges = maximum-reaches.ranges ranges; matching = m.matching; greatest = m.greatest; reached = maximum-reaches.reached }

    pub maximum-expected : IsExpectedMaximum orders maximum
    maximum-expected = record { most = c.volume; greatest = maximum-greatest; pairs = refl }

    pub maximum-ranges : DealsInRange maximum
    maximum-ranges = maximum-reaches.ranges ranges
