-- The lots of both sides of a call, and the Expected trades that their pairs are.
use Rattle.std.proofs.Common.{◌≡◌, ◌<◌, ◌+◌, ◌-◌, ℕ, List, length, reverse, ap, sym, ◌∙◌, arith, All, subst}
use Rattle.std.specs.Prelude.{min, max}
use Rattle.std.proofs.lemmas.List.{get_or_default, length-reverse}
use Rattle.audit_base.specs.declared.terms.Side.TheVariants.{Buy, Sell}
use Rattle.audit_base.specs.declared.orders.Order.{Order}
use Rattle.audit_base.specs.declared.orders.Deal.{Deal}
use Rattle.audit_base.specs.Orders.{quantity_at}
use Rattle.audit_base.specs.Deals.{IsDealList}
use Rattle.audit_base.specs.Units.{total_quantity_ahead, uniform_units, maximum_units}
use Rattle.audit_base.specs.Expected.{uniform_deals, maximum_deals}
use Rattle.call_laws.proofs.UnitLemmas.{uniform-overlap, maximum-overlap}
use Rattle.rank_order.specs.declared.ranking.RankedSides.{RankedSides}
use Rattle.unit_pairs.specs.declared.lots.Lot.{Lot}
use Rattle.unit_pairs.specs.declared.lots.SideLots.{SideLots}
use Rattle.unit_pairs.specs.declared.numbering.DealPrice.TheVariants.{Same, AskLimit}
use Rattle.unit_pairs.specs.Lots.{lot_past_end}
use Rattle.unit_pairs.specs.Meeting.{AreLotSides}
use Rattle.unit_pairs.specs.Numbering.{AreLotDeals}
use Rattle.unit_pairs.specs.Sides.{AreSideLots}
use Rattle.unit_pairs.proofs.UnitLemmas.{Follow, lots-apart, lots-follow, total-reversed, lots-reversed, follow-reversed, ranks-fit}
use Rattle.unit_pairs.proofs.DealLemmas.{deals-expected, deals-listed}

up-to : (v x y : ℕ) → min v (min x y) ≡ min x (min v y)
up-to v x y = omega arith

down-from : (v x : ℕ) → v - x ≡ v - min v x
down-from v x = omega arith

mirrored : (v a q b r : ℕ) → min v (min (v - a) (b + r)) - max (v - (a + q)) b ≡ min (v - a) (min v (b + r)) - max (v - min v (a + q)) b
mirrored v a q b r = rw (up-to v (v - a) (b + r)) (ap (λ (n : ℕ). min (v - a) (min v (b + r)) - max n b) (down-from v (a + q)))

module _ (orders : List Order) (sides : RankedSides) (volume : ℕ) (lots : SideLots) (h : AreSideLots orders sides volume lots) where
  abbrev bids : List ℕ
  bids = sides.bids.items

  abbrev asks : List ℕ
  asks = sides.asks.items

  abbrev bid_lots : List Lot
  bid_lots = lots.bids.items

  abbrev ask_lots : List Lot
  ask_lots = lots.asks.items

  bids-follow : Follow orders Buy (total_quantity_ahead orders Buy) (λ i. min volume (total_quantity_ahead orders Buy i + quantity_at orders i)) bid_lots
  bids-follow = lots-follow orders h.order_list Buy bids h.ranked.bids volume bid_lots h.of_bids h.bids_whole

  asks-follow : Follow orders Sell (total_quantity_ahead orders Sell) (λ i. min volume (total_quantity_ahead orders Sell i + quantity_at orders i)) ask_lots
  asks-follow = lots-follow orders h.order_list Sell asks h.ranked.asks volume ask_lots h.of_asks h.asks_whole

  -- the asks are orders
  pub asks-inside : All (λ l. l.order < length orders) ask_lots
  asks-inside k d lt = subst (λ (l : Lot). l.order < length orders) (sym (get_or_default ask_lots k d lot_past_end lt)) (asks-follow.stands k lt).inside

  -- there are at most as many lots as orders
  pub both-sides : AreLotSides bid_lots ask_lots
  both-sides = record {
    bids_are = lots-apart orders h.order_list Buy bids h.ranked.bids volume bid_lots h.of_bids;
    asks_are = lots-apart orders h.order_list Sell asks h.ranked.asks volume ask_lots h.of_asks;
    same_volume = h.bids_whole ∙ sym h.asks_whole;
    fits_indices = omega (arith, ranks-fit orders h.order_list bids asks h.ranked.bids h.ranked.asks, h.of_bids.bounded, h.of_asks.bounded, h.order_list.fits_indices);
  }

  module _ (price : ℕ) (deals : List Deal) (made : AreLotDeals orders (Same price) bid_lots ask_lots deals) where
    uniform-is : (bid ask : ℕ) → uniform_units orders volume bid ask
        ≡ min (min volume (total_quantity_ahead orders Buy bid + quantity_at orders bid)) (min volume (total_quantity_ahead orders Sell ask + quantity_at orders ask)) - max (total_quantity_ahead orders Buy bid) (total_quantity_ahead orders Sell ask)
    uniform-is bid ask = omega (arith, uniform-overlap orders volume bid ask)

    pub uniform-expected : deals ≡ uniform_deals orders volume price
    uniform-expected = deals-expected orders (uniform_units orders volume) (Same price) bid_lots ask_lots
        (total_quantity_ahead orders Buy) (λ i. min volume (total_quantity_ahead orders Buy i + quantity_at orders i)) (total_quantity_ahead orders Sell) (λ i. min volume (total_quantity_ahead orders Sell i + quantity_at orders i))
        uniform-is bids-follow asks-follow made.pairs made.are made.in_order deals made.numbered

    pub uniform-listed : IsDealList orders deals
    uniform-listed =
        let count : length deals ≡ length made.pairs = made.numbered.count in
        deals-listed orders (uniform_units orders volume) (Same price) bid_lots ask_lots
        (total_quantity_ahead orders Buy) (λ i. min volume (total_quantity_ahead orders Buy i + quantity_at orders i)) (total_quantity_ahead orders Sell) (λ i. min volume (total_quantity_ahead orders Sell i + quantity_at orders i))
        uniform-is bids-follow asks-follow made.pairs made.are made.in_order deals made.numbered (omega (arith, made.bounded, both-sides.fits_indices))

  -- The same with the lots of the bids from the last to the first.
  module _ (turned : List Lot) (is : turned ≡ reverse bid_lots) where
    pub turned-sides : AreLotSides turned ask_lots
    turned-sides = subst (λ (lots : List Lot). AreLotSides lots ask_lots) (sym is) (record {
      bids_are = lots-reversed bid_lots both-sides.bids_are;
      asks_are = both-sides.asks_are;
      same_volume = total-reversed bid_lots ∙ both-sides.same_volume;
      fits_indices = omega (arith, both-sides.fits_indices, length-reverse bid_lots);
    })

    turned-follow : Follow orders Buy (λ i. volume - min volume (total_quantity_ahead orders Buy i + quantity_at orders i)) (λ i. volume - total_quantity_ahead orders Buy i) turned
    turned-follow = subst (Follow orders Buy (λ i. volume - min volume (total_quantity_ahead orders Buy i + quantity_at orders i)) (λ i. volume - total_quantity_ahead orders Buy i)) (sym is)
        (follow-reversed orders Buy (total_quantity_ahead orders Buy) (λ i. min volume (total_quantity_ahead orders Buy i + quantity_at orders i)) volume bid_lots h.bids_whole bids-follow)

    module _ (deals : List Deal) (made : AreLotDeals orders AskLimit turned ask_lots deals) where
      maximum-is : (bid ask : ℕ) → maximum_units orders volume bid ask
          ≡ min (volume - total_quantity_ahead orders Buy bid) (min volume (total_quantity_ahead orders Sell ask + quantity_at orders ask)) - max (volume - min volume (total_quantity_ahead orders Buy bid + quantity_at orders bid)) (total_quantity_ahead orders Sell ask)
      maximum-is bid ask = maximum-overlap orders volume bid ask ∙ mirrored volume (total_quantity_ahead orders Buy bid) (quantity_at orders bid) (total_quantity_ahead orders Sell ask) (quantity_at orders ask)

      pub maximum-expected : deals ≡ maximum_deals orders volume
      maximum-expected = deals-expected orders (maximum_units orders volume) AskLimit turned ask_lots
          (λ i. volume - min volume (total_quantity_ahead orders Buy i + quantity_at orders i)) (λ i. volume - total_quantity_ahead orders Buy i) (total_quantity_ahead orders Sell) (λ i. min volume (total_quantity_ahead orders Sell i + quantity_at orders i))
          maximum-is turned-follow asks-follow made.pairs made.are made.in_order deals made.numbered

      pub maximum-listed : IsDealList orders deals
      maximum-listed =
          let count : length deals ≡ length made.pairs = made.numbered.count in
          deals-listed orders (maximum_units orders volume) AskLimit turned ask_lots
          (λ i. volume - min volume (total_quantity_ahead orders Buy i + quantity_at orders i)) (λ i. volume - total_quantity_ahead orders Buy i) (total_quantity_ahead orders Sell) (λ i. min volume (total_quantity_ahead orders Sell i + quantity_at orders i))
          maximum-is turned-follow asks-follow made.pairs made.are made.in_order deals made.numbered (omega (arith, made.bounded, turned-sides.fits_indices))
