-- Deals that conform have a certificate that agrees.
use Rattle.std.proofs.Common.{◌≡◌, ◌≤◌, ◌+◌, ℕ, zero, suc, List, [], ◌∷◌, ◌++◌, length, get_or, true, Option, Some, refl, sym, ap, ◌∙◌, arith, append_assoc, append-nil, subst}
use Rattle.std.specs.Prelude.{map, option_map}
use Rattle.std.specs.List.{range_with_len}
use Rattle.std.proofs.lemmas.List.FromFn.{length-map-range_with_len, get_or-map-range_with_len}
use Rattle.audit_base.specs.declared.terms.VolumeRule.{VolumeRule}
use Rattle.audit_base.specs.declared.terms.Rule.{Rule}
use Rattle.audit_base.specs.declared.terms.Rule.TheVariants as rule
use Rattle.audit_base.specs.declared.terms.VolumeRule.TheVariants as of_volume
use Rattle.audit_base.specs.declared.terms.Side.{Side}
use Rattle.audit_base.specs.declared.terms.Side.TheVariants.{Buy, Sell}
use Rattle.audit_base.specs.declared.orders.Order.{Order}
use Rattle.audit_base.specs.declared.orders.Deal.{Deal}
use Rattle.audit_base.specs.Names.{is_name}
use Rattle.audit_base.specs.Orders.{place_at, IsOrderList, OrdersInRange}
use Rattle.audit_base.specs.Deals.{traded, volume, DealsInRange, AreTotals}
use Rattle.audit_base.specs.Calls.{Matching, Fair}
use Rattle.audit_base.specs.Rules.{Conforms}
use Rattle.audit_base.specs.RuleKinds.{rule_of_volume, volume_rule}
use Rattle.call_laws.specs.Laws.{ShortOrdersDoNotMeet}
use Rattle.call_laws.specs.Optimum.{MaximumReachesLeastCut}
use Rattle.call_laws.specs.Existence.{LeastCutExists}
use Rattle.call_laws.proofs.ConformLemmas.{conforms-fair}
use Rattle.audit_certificate.specs.declared.counting.Counts.{Counts}
use Rattle.audit_certificate.specs.Laws.{CertificateCompleteness}
use Rattle.audit_certificate.specs.Texts.{head_text, bound_text, last_text, order_line_text}
use Rattle.audit_certificate.specs.Bounds.{above_short_bids, IsCertificatePrice}
use Rattle.audit_certificate.specs.Counting.{AreCounts}
use Rattle.audit_certificate.specs.Certifying.{written_text}
use Rattle.audit_certificate.specs.LastOrders.{last_trading}
use Rattle.audit_certificate.specs.OrderLines.{order_lines_upto}
use Rattle.audit_certificate.specs.Agreement.{IsLastOf, OnePriceIfUniform, IsLeastPrice, IsCertificate, IsCertificateUnder, Agrees, AgreesUnder, order_lines_text, certificate_text}
use Rattle.audit_certificate.proofs.LastLemmas.{last-is, fair-filled}
use Rattle.audit_certificate.proofs.PriceLemmas.{least-is}
use Rattle.audit_certificate.proofs.WrittenLemmas.{agrees-written}

one-price : (the_rule : VolumeRule) (orders : List Order) (deals : List Deal) → Conforms (rule_of_volume the_rule) orders deals → OnePriceIfUniform the_rule deals
one-price of_volume.Uniform orders deals conforms = conforms.one_price
one-price of_volume.Maximum orders deals conforms = tt

-- The certificate of deals that conform.

module _ (reaches : MaximumReachesLeastCut) (apart : ShortOrdersDoNotMeet) (the_rule : VolumeRule) (symbol : List ℕ) (orders : List Order) (deals : List Deal) (named : is_name symbol ≡ true)
    (list : IsOrderList orders) (ranges : OrdersInRange orders) (deal_ranges : DealsInRange deals) (conforms : Conforms (rule_of_volume the_rule) orders deals)
    (traded_by : List ℕ) (totals : AreTotals orders deals traded_by) (price : ℕ) (price_is : IsCertificatePrice the_rule orders traded_by price) where
  both : Matching orders deals × Fair orders deals
  both = conforms-fair the_rule orders deals conforms

  abbrev last_on : Side → Option ℕ
  last_on side = last_trading orders traded_by side (length orders)

  last : (side : Side) → IsLastOf orders deals side (last_on side)
  last side = last-is orders traded_by side list deals totals (last_on side) refl (fair-filled orders traded_by side list deals totals both.1 (last_on side) refl)

  least : IsLeastPrice the_rule orders (volume deals) price
  least = least-is reaches apart the_rule orders deals traded_by price list ranges deal_ranges conforms totals price_is

  abbrev text : List ℕ
  text = certificate_text the_rule symbol orders deals price (last_on Buy) (last_on Sell)

  pub certificate : IsCertificate the_rule symbol orders deals text
  certificate = record { price = price; bid = last_on Buy; ask = last_on Sell; least = least; last_bid = last Buy; last_ask = last Sell; text_is = refl }

  pub agrees : Agrees the_rule symbol orders deals text
  agrees = agrees-written the_rule symbol orders deals price (last_on Buy) (last_on Sell) (record {
    named = named;
    head = record { text_is = refl; kept = both.0.kept; one_price = one-price the_rule orders deals conforms };
    in_range = least.holds.0;
    shows = least.holds.1;
    last_bid = last Buy;
    last_ask = last Sell;
    within = both.0.within;
  })

-- The law.

pub completeness : MaximumReachesLeastCut → ShortOrdersDoNotMeet → LeastCutExists → CertificateCompleteness
completeness reaches apart exists the_rule symbol orders deals named list ranges deal_ranges conforms = (
  certificate_text the_rule symbol orders deals found.0 (last_trading orders all Buy (length orders)) (last_trading orders all Sell (length orders)),
  certificate reaches apart the_rule symbol orders deals named list ranges deal_ranges conforms all totals found.0 found.1,
  agrees reaches apart the_rule symbol orders deals named list ranges deal_ranges conforms all totals found.0 found.1,
)
  where
    all : List ℕ
    all = map (traded deals) (range_with_len 0 (length orders))

    totals : AreTotals orders deals all
    totals = record {
      count = length-map-range_with_len (traded deals) 0 (length orders);
      each = λ i lt. let e : 0 + i ≡ i = omega arith in get_or-map-range_with_len (traded deals) 0 (length orders) i i 0 lt e;
    }

    price-exists : (r : VolumeRule) → (price : ℕ) × IsCertificatePrice r orders all price
    price-exists of_volume.Uniform = (above_short_bids orders all (length orders), refl)
    price-exists of_volume.Maximum = let c = exists orders in (c.0.price, record { volume = c.0.volume; least = c.1 })

    found : (price : ℕ) × IsCertificatePrice the_rule orders all price
    found = price-exists the_rule

-- The text that is written.

abbrev order_line : List Order → List Deal → ℕ → List ℕ
order_line orders deals i = order_line_text (place_at orders i) (traded deals i) ++ 10 ∷ []

order-snoc : (orders : List Order) (deals : List Deal) (from n : ℕ) → order_lines_text orders deals from (suc n) ≡ order_lines_text orders deals from n ++ order_line orders deals (from + n)
order-snoc orders deals from zero = append-nil (order_line orders deals from) ∙ ap (order_line orders deals) (let e : from ≡ from + 0 = omega arith in e)
order-snoc orders deals from (suc n) =
    let e : from + 1 + n ≡ from + suc n = omega arith in
    ap (λ (t : List ℕ). order_line orders deals from ++ t) (order-snoc orders deals (from + 1) n)
    ∙ sym (append_assoc (order_line orders deals from) (order_lines_text orders deals (from + 1) n) (order_line orders deals (from + 1 + n)))
    ∙ ap (λ (i : ℕ). order_lines_text orders deals from (suc n) ++ order_line orders deals i) e

lines-are : (orders : List Order) (deals : List Deal) (traded_by : List ℕ) → AreTotals orders deals traded_by → (n : ℕ) → n ≤ length orders → order_lines_upto orders traded_by n ≡ order_lines_text orders deals 0 n
unfolding order_lines_upto
lines-are orders deals traded_by totals zero le = refl
lines-are orders deals traded_by totals (suc n) le =
    let e : n ≡ 0 + n = omega arith in
    append_assoc (order_lines_upto orders traded_by n) (order_line_text (place_at orders n) (get_or traded_by n 0)) (10 ∷ [])
    ∙ (λ i. lines-are orders deals traded_by totals n (omega arith) i ++ (order_line_text (place_at orders n) (totals.each n (omega arith) i) ++ 10 ∷ []))
    ∙ ap (λ (i : ℕ). order_lines_text orders deals 0 n ++ order_line orders deals i) e
    ∙ sym (order-snoc orders deals 0 n)

-- what is written is the certificate
written-is : (the_rule : VolumeRule) (symbol : List ℕ) (orders : List Order) (deals : List Deal) (counts : Counts) (price : ℕ) → AreCounts orders deals counts
    → written_text the_rule symbol orders counts price ≡ certificate_text the_rule symbol orders deals price (last_trading orders counts.traded.items Buy (length orders)) (last_trading orders counts.traded.items Sell (length orders))
written-is the_rule symbol orders deals counts price are =
    (λ i. head_text the_rule symbol ++ 10 ∷ [] ++ (bound_text price (are.volume_is i) ++ 10 ∷ [])
    ++ (last_text Buy (option_map (place_at orders) (last_trading orders counts.traded.items Buy (length orders))) ++ 10 ∷ [])
    ++ (last_text Sell (option_map (place_at orders) (last_trading orders counts.traded.items Sell (length orders))) ++ 10 ∷ [])
    ++ lines-are orders deals counts.traded.items are.totals (length orders) (omega arith) i)

-- The same for one of the five rules that asks for the greatest volume.

named-rule : (rule : Rule) (the_rule : VolumeRule) → volume_rule rule ≡ Some the_rule → rule ≡ rule_of_volume the_rule
named-rule rule.Uniform the_rule e = ap rule_of_volume (some-same of_volume.Uniform the_rule e)
  where
    some-same : (a b : VolumeRule) → Some a ≡ Some b → a ≡ b
    some-same a b e = cc
named-rule rule.Maximum the_rule e = ap rule_of_volume (some-same of_volume.Maximum the_rule e)
  where
    some-same : (a b : VolumeRule) → Some a ≡ Some b → a ≡ b
    some-same a b e = cc
named-rule rule.Matching the_rule e = absurd (cc)
named-rule rule.Fair the_rule e = absurd (cc)
named-rule rule.Continuous the_rule e = absurd (cc)

-- the text is the certificate, and agrees
pub record IsMade (rule : Rule) (symbol : List ℕ) (orders : List Order) (deals : List Deal) (text : List ℕ) : Type 0 where
  pub certificate : IsCertificateUnder rule symbol orders deals text
  pub agrees : AgreesUnder rule symbol orders deals text

pub made : MaximumReachesLeastCut → ShortOrdersDoNotMeet → (rule : Rule) (the_rule : VolumeRule) (symbol : List ℕ) (orders : List Order) (deals : List Deal) → volume_rule rule ≡ Some the_rule → is_name symbol ≡ true
    → IsOrderList orders → OrdersInRange orders → DealsInRange deals → Conforms rule orders deals → (counts : Counts) → AreCounts orders deals counts → (price : ℕ) → IsCertificatePrice the_rule orders counts.traded.items price
    → (text : List ℕ) → text ≡ written_text the_rule symbol orders counts price → IsMade rule symbol orders deals text
made reaches apart rule the_rule symbol orders deals rule_is named list ranges deal_ranges conforms counts are price price_is text text_is =
    let same = text_is ∙ written-is the_rule symbol orders deals counts price are in
    let as_asked : Conforms (rule_of_volume the_rule) orders deals = subst (λ (r : Rule). Conforms r orders deals) (named-rule rule the_rule rule_is) conforms in
    record {
      certificate = rw rule_is (subst (IsCertificate the_rule symbol orders deals) (sym same) (certificate reaches apart the_rule symbol orders deals named list ranges deal_ranges as_asked counts.traded.items are.totals price price_is));
      agrees = rw rule_is (subst (Agrees the_rule symbol orders deals) (sym same) (agrees reaches apart the_rule symbol orders deals named list ranges deal_ranges as_asked counts.traded.items are.totals price price_is));
    }
