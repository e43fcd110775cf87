-- The first offence of a call is there exactly where the rule fails: no fault of a deal means Matching and OnePrice, no short
-- order passed over means Fair, and the other way round.
use Rattle.std.proofs.Common.{◌≡◌, ◌≤◌, ◌<◌, ◌+◌, ℕ, zero, suc, List, [], ◌∷◌, length, take, get_or, Bool, true, false, Option, Some, None, refl, sym, ap, ◌∙◌, arith, inl, inr, All, subst, add-one}
use Rattle.std.specs.Prelude.{not, ◌&&◌, ◌==◌, nat_lt, is_some}
use Rattle.std.specs.Option.{option_or}
use Rattle.std.proofs.lemmas.Bool.{cases_eq, cases_lt, and_parts, and_from, or_cases, ltb-true, ltb-false, le-ltb, lt-ltb, eqb-true, eq-eqb, not-false, not_from_true, both_ways, cond-false, false_from_ne_true, or_from, ne_eqb}
use Rattle.std.proofs.lemmas.List.{take_all}
use Rattle.std.proofs.lemmas.List.Sums.{sum_by_more, sum_by_more_le, sum_by-take-le}
use Rattle.audit_base.specs.declared.terms.Side.{Side}
use Rattle.audit_base.specs.declared.terms.Side.TheVariants.{Buy, Sell}
use Rattle.audit_base.specs.declared.orders.Order.{Order}
use Rattle.audit_base.specs.declared.orders.Deal.{Deal}
use Rattle.audit_base.specs.declared.findings.Finding.{Finding}
use Rattle.audit_base.specs.Least.{only_if}
use Rattle.audit_base.specs.Orders.{order_at, side_at, quantity_at, is_uncancelled_on, IsUncancelledOn}
use Rattle.audit_base.specs.Priority.{better, Better}
use Rattle.audit_base.specs.Deals.{deal_past_end, deal_at, names_order, quantity_traded_by, traded, NamesOrders, DealInRange}
use Rattle.audit_base.specs.Calls.{IsMatchingDeal, Matching, Fair, OnePrice}
use Rattle.audit_base.specs.CallOffences.{is_cancelled, keeps_limits, call_inactive_finding, call_limit_finding, uniform_price_finding, bid_quantity_finding, ask_quantity_finding, matching_finding, matching_offence, is_short, is_outranked_by_short, bid_priority_finding, ask_priority_finding, fair_offence}
use Rattle.audit_base.proofs.OrderLemmas.{stands-test, test-stands}
use Rattle.audit_base.proofs.LeastLemmas.{option_or-parts, none-below, least-none, any-none, none-any}
use Rattle.audit_base.proofs.SumLemmas.{some_part}
use Rattle.audit_base.proofs.DealLemmas.{part-bid, part-ask, test-limits, limits-test}

pub get_or-default : {X : Type 0} (xs : List X) (k : ℕ) (d e : X) → k < length xs → get_or xs k d ≡ get_or xs k e
get_or-default [] k d e lt = absurd (omega arith)
get_or-default (x ∷ xs) zero d e lt = refl
get_or-default (x ∷ xs) (suc k) d e lt = get_or-default xs k d e (omega arith)

-- a fact on each deal, by its index
pub All-deals : (P : Deal → Type 0) (deals : List Deal) → ((k : ℕ) → k < length deals → P (deal_at deals k)) → All P deals
All-deals P deals h = λ k d lt. subst P (get_or-default deals k deal_past_end d lt) (h k lt)

pub only-none : {A : Type 0} (b : Bool) (x : A) → only_if b x ≡ None → b ≡ false
only-none true x e = cc
only-none false x e = refl

pub none-only : {A : Type 0} (b : Bool) (x : A) → b ≡ false → only_if b x ≡ None
none-only true x e = cc
none-only false x e = refl

pub option_or-none_both : {A : Type 0} (o p : Option A) → o ≡ None → p ≡ None → option_or o p ≡ None
option_or-none_both None p e f = f
option_or-none_both (Some x) p e f = cc

is_none-cancelled : (o : Option ℕ) → is_some o ≡ false → o ≡ None
is_none-cancelled None e = refl
is_none-cancelled (Some x) e = cc

is_some-cancelled : (o : Option ℕ) → o ≡ None → is_some o ≡ false
is_some-cancelled None e = refl
is_some-cancelled (Some x) e = cc

-- what the first deals trade, one deal further
pub traded_more : (deals : List Deal) (k i : ℕ) → k < length deals → traded (take (k + 1) deals) i ≡ traded (take k deals) i + quantity_traded_by i (deal_at deals k)
traded_more deals k i lt = sum_by_more (quantity_traded_by i) deals k deal_past_end lt

pub part-away : (i : ℕ) (d : Deal) → names_order i d ≡ false → quantity_traded_by i d ≡ 0
part-away i d e = cond-false (names_order i d) d.quantity 0 e

-- what one deal of a matching keeps, as tests
pub record IsFaultless (uniform : Bool) (orders : List Order) (deals : List Deal) (k : ℕ) : Type 0 where
  pub bid_live : is_cancelled orders (deal_at deals k).bid ≡ false
  pub ask_live : is_cancelled orders (deal_at deals k).ask ≡ false
  pub limits : keeps_limits orders (deal_at deals k) ≡ true
  pub price : uniform ≡ true → (deal_at deals k).price ≡ (deal_at deals 0).price
  pub bid_within : traded (take (k + 1) deals) (deal_at deals k).bid ≤ quantity_at orders (deal_at deals k).bid
  pub ask_within : traded (take (k + 1) deals) (deal_at deals k).ask ≤ quantity_at orders (deal_at deals k).ask

price-parts : (uniform same : Bool) → (uniform && not same) ≡ false → uniform ≡ true → same ≡ true
price-parts true true e t = refl
price-parts true false e t = cc
price-parts false same e t = cc

price-none : (uniform same : Bool) → (uniform ≡ true → same ≡ true) → (uniform && not same) ≡ false
price-none true true h = refl
price-none true false h = let e = h refl in cc
price-none false same h = refl

pub fault-none : (uniform : Bool) (orders : List Order) (deals : List Deal) (k : ℕ) → matching_finding uniform orders deals k ≡ None → IsFaultless uniform orders deals k
unfolding call_inactive_finding call_limit_finding uniform_price_finding bid_quantity_finding ask_quantity_finding
fault-none uniform orders deals k e =
    let d = deal_at deals k in
    let a = option_or-parts _ _ e in
    let b = option_or-parts _ _ a.1 in
    let c = option_or-parts _ _ b.1 in
    let f = option_or-parts _ _ c.1 in
    let g = option_or-parts _ _ f.1 in
    let live = option_or-parts _ _ a.0 in
    let live' = option_or-parts _ _ live.1 in
    record {
      bid_live = only-none _ _ live.0;
      ask_live = only-none _ _ live'.0;
      limits = not-false _ (only-none _ _ b.0);
      price = λ t. eqb-true _ _ (price-parts uniform ((deal_at deals k).price == (deal_at deals 0).price) (only-none _ _ c.0) t);
      bid_within = ltb-false _ _ (only-none _ _ f.0);
      ask_within = ltb-false _ _ (only-none _ _ g.0);
    }

pub none-fault : (uniform : Bool) (orders : List Order) (deals : List Deal) (k : ℕ) → IsFaultless uniform orders deals k → matching_finding uniform orders deals k ≡ None
unfolding call_inactive_finding call_limit_finding uniform_price_finding bid_quantity_finding ask_quantity_finding
none-fault uniform orders deals k h =
    option_or-none_both _ _ (option_or-none_both _ _ (none-only _ _ h.bid_live) (option_or-none_both _ _ (none-only _ _ h.ask_live) refl))
    (option_or-none_both _ _ (none-only _ _ (not_from_true _ h.limits))
    (option_or-none_both _ _ (none-only _ _ (price-none uniform ((deal_at deals k).price == (deal_at deals 0).price) (λ t. eq-eqb _ _ (h.price t))))
    (option_or-none_both _ _ (none-only _ _ (le-ltb _ _ h.bid_within)) (option_or-none_both _ _ (none-only _ _ (le-ltb _ _ h.ask_within)) refl))))

within_first : (orders : List Order) (deals : List Deal) → ((k : ℕ) → k < length deals → IsFaultless false orders deals k) → (i n : ℕ) → n ≤ length deals → traded (take n deals) i ≤ quantity_at orders i
within_first orders deals h i zero le = omega arith
within_first orders deals h i (suc n) le =
    let f = h n (omega arith) in
    let rest = within_first orders deals h i n (omega arith) in
    let d = deal_at deals n in
    let most : traded (take (n + 1) deals) i ≤ quantity_at orders i = elim (cases_eq d.bid i) [
      | inl e ↦ subst (λ x. traded (take (n + 1) deals) x ≤ quantity_at orders x) e f.bid_within
      | inr nb ↦ elim (cases_eq d.ask i) [
        | inl e ↦ subst (λ x. traded (take (n + 1) deals) x ≤ quantity_at orders x) e f.ask_within
        | inr na ↦
            let away : names_order i d ≡ false = or_from _ _ (ne_eqb d.bid i nb) (ne_eqb d.ask i na) in
            omega (arith, traded_more deals n i (omega arith), part-away i d away, rest)
      ]
    ] in
    subst (λ m. traded (take m deals) i ≤ quantity_at orders i) (add-one n) most

forget-uniform : (uniform : Bool) (orders : List Order) (deals : List Deal) (k : ℕ) → IsFaultless uniform orders deals k → IsFaultless false orders deals k
forget-uniform uniform orders deals k h = record { bid_live = h.bid_live; ask_live = h.ask_live; limits = h.limits; price = λ t. cc; bid_within = h.bid_within; ask_within = h.ask_within }

module _ (uniform : Bool) (orders : List Order) (deals : List Deal) where
  -- no fault at any deal
  pub faultless : matching_offence uniform orders deals ≡ None → (k : ℕ) → k < length deals → IsFaultless uniform orders deals k
  faultless e k lt = fault-none uniform orders deals k (none-below (matching_finding uniform orders deals) (length deals) e k lt)

  pub faultless-keeps : All (NamesOrders orders) deals → (k : ℕ) → k < length deals → IsFaultless uniform orders deals k → IsMatchingDeal orders (deal_at deals k)
  faultless-keeps named k lt h =
      let d = deal_at deals k in
      let n = named k deal_past_end lt in
      record {
        bid_stands = record { inside = n.bid_inside; of_side = n.buys; uncancelled = is_none-cancelled _ h.bid_live };
        ask_stands = record { inside = n.ask_inside; of_side = n.sells; uncancelled = is_none-cancelled _ h.ask_live };
        limits = test-limits orders d h.limits;
      }

  -- where the first part of First offence finds nothing, the deals are a matching, and under `uniform` have one price
  pub no_offence-matching : All (NamesOrders orders) deals → matching_offence uniform orders deals ≡ None → Matching orders deals
  no_offence-matching named e =
      let each = faultless e in
      record {
        kept = All-deals (IsMatchingDeal orders) deals (λ k lt. faultless-keeps named k lt (each k lt));
        within = λ i lt. subst (λ ds. traded ds i ≤ quantity_at orders i) (take_all (length deals) deals (omega arith))
            (within_first orders deals (λ k below. forget-uniform uniform orders deals k (each k below)) i (length deals) (omega arith));
      }

  pub no_offence-one_price : uniform ≡ true → matching_offence uniform orders deals ≡ None → OnePrice deals
  no_offence-one_price t e = record { price = (deal_at deals 0).price; each = All-deals (λ d. d.price ≡ (deal_at deals 0).price) deals (λ k lt. (faultless e k lt).price t) }

  -- and a matching, under `uniform` of one price, has no offence of the first part
  pub matching-faultless : Matching orders deals → (uniform ≡ true → OnePrice deals) → (k : ℕ) → k < length deals → IsFaultless uniform orders deals k
  matching-faultless m one k lt =
      let d = deal_at deals k in
      let kept = m.kept k deal_past_end lt in
      let bid_in = m.within d.bid kept.bid_stands.inside in
      let ask_in = m.within d.ask kept.ask_stands.inside in
      record {
        bid_live = is_some-cancelled _ kept.bid_stands.uncancelled;
        ask_live = is_some-cancelled _ kept.ask_stands.uncancelled;
        limits = limits-test orders d kept.limits;
        price = λ t. let o = one t in o.each k deal_past_end lt ∙ sym (o.each 0 deal_past_end (omega arith));
        bid_within = omega (arith, sum_by-take-le (quantity_traded_by d.bid) deals (k + 1), bid_in);
        ask_within = omega (arith, sum_by-take-le (quantity_traded_by d.ask) deals (k + 1), ask_in);
      }

  pub matching-no_offence : Matching orders deals → (uniform ≡ true → OnePrice deals) → matching_offence uniform orders deals ≡ None
  matching-no_offence m one = least-none (matching_finding uniform orders deals) (length deals) (λ k lt. none-fault uniform orders deals k (matching-faultless m one k lt))

module _ (orders : List Order) (deals : List Deal) where
  not_short : (side : Side) (i j : ℕ) → IsUncancelledOn orders side i → Better orders i j → is_outranked_by_short orders deals side j ≡ false → quantity_at orders i ≤ traded deals i
  unfolding is_outranked_by_short
  not_short side i j s b none =
      elim (cases_lt (traded deals i) (quantity_at orders i)) [
        | inr le ↦ le
        | inl lt ↦ absurd (both_ways _ (none-any (λ k. is_short orders deals side k && better (order_at orders k) (order_at orders j)) (length orders) none i s.inside)
            (and_from _ _ (and_from _ _ (stands-test orders side i s) (lt-ltb _ _ lt)) b))
      ]

  abbrev IsFairDeal : Deal → Type 0
  IsFairDeal d = IsMatchingDeal orders d × (is_outranked_by_short orders deals Buy d.bid ≡ false) × (is_outranked_by_short orders deals Sell d.ask ≡ false)

  fair_deal : (k : ℕ) → IsMatchingDeal orders (deal_at deals k) → option_or (bid_priority_finding orders deals k) (ask_priority_finding orders deals k) ≡ None → IsFairDeal (deal_at deals k)
  unfolding bid_priority_finding ask_priority_finding
  fair_deal k kept e =
      let parts = option_or-parts (bid_priority_finding orders deals k) (ask_priority_finding orders deals k) e in
      (kept, only-none _ _ parts.0, only-none _ _ parts.1)

  -- where the second part finds nothing, the matching is fair
  pub no_offence-fair : Matching orders deals → fair_offence orders deals ≡ None → Fair orders deals
  no_offence-fair m e =
      let f : ℕ → Option Finding = λ k. option_or (bid_priority_finding orders deals k) (ask_priority_finding orders deals k) in
      let none : All IsFairDeal deals = All-deals IsFairDeal deals (λ k lt. fair_deal k (m.kept k deal_past_end lt) (none-below f (length deals) e k lt)) in
      record {
        fills = λ side i j s t b some.
            let found = some_part IsFairDeal (names_order j) (λ (d : Deal). d.quantity) deals none some in
            let d = found.0 in
            let kept = found.1.0 in
            let most = m.within i s.inside in
            elim (or_cases (d.bid == j) (d.ask == j) found.2) [
              | inl eb ↦
                  let e : d.bid ≡ j = eqb-true d.bid j eb in
                  let buys : side ≡ Buy = sym t.of_side ∙ ap (side_at orders) (sym e) ∙ kept.bid_stands.of_side in
                  let free : is_outranked_by_short orders deals side j ≡ false = rw (buys, ← e) found.1.1 in
                  let full = not_short side i j s b free in
                  omega arith
              | inr ea ↦
                  let e : d.ask ≡ j = eqb-true d.ask j ea in
                  let sells : side ≡ Sell = sym t.of_side ∙ ap (side_at orders) (sym e) ∙ kept.ask_stands.of_side in
                  let free : is_outranked_by_short orders deals side j ≡ false = rw (sells, ← e) found.1.2 in
                  let full = not_short side i j s b free in
                  omega arith
            ];
      }

  -- and a fair list of deals has no offence of the second part: where a short order is better than one that trades, the deals aren't fair
  none_passed_over : Fair orders deals → (side : Side) (j : ℕ) → IsUncancelledOn orders side j → 0 < traded deals j → is_outranked_by_short orders deals side j ≡ false
  unfolding is_outranked_by_short
  none_passed_over f side j t some = any-none (λ i. is_short orders deals side i && better (order_at orders i) (order_at orders j)) (length orders) (λ i lt.
      false_from_ne_true _ (λ over.
      let parts = and_parts (is_short orders deals side i) (better (order_at orders i) (order_at orders j)) over in
      let short = and_parts (is_uncancelled_on side (order_at orders i)) (nat_lt (traded deals i) (quantity_at orders i)) parts.0 in
      let below = ltb-true (traded deals i) (quantity_at orders i) short.1 in
      let full = f.fills side i j (test-stands orders side i lt short.0) t parts.1 some in
      omega arith))

  pub fair-no_offence : All DealInRange deals → Matching orders deals → Fair orders deals → fair_offence orders deals ≡ None
  unfolding bid_priority_finding ask_priority_finding
  fair-no_offence ranges m f = least-none (λ k. option_or (bid_priority_finding orders deals k) (ask_priority_finding orders deals k)) (length deals) (λ k lt.
      let d = deal_at deals k in
      let kept = m.kept k deal_past_end lt in
      let quantity = (ranges k deal_past_end lt).sized.some in
      let bid_part : quantity_traded_by d.bid d ≡ d.quantity = part-bid d in
      let ask_part : quantity_traded_by d.ask d ≡ d.quantity = part-ask d in
      let bid_least : quantity_traded_by d.bid d ≤ traded deals d.bid = omega (arith, sum_by_more_le (quantity_traded_by d.bid) deals k deal_past_end lt) in
      let ask_least : quantity_traded_by d.ask d ≤ traded deals d.ask = omega (arith, sum_by_more_le (quantity_traded_by d.ask) deals k deal_past_end lt) in
      option_or-none_both _ _ (none-only _ _ (none_passed_over f Buy d.bid kept.bid_stands (omega arith)))
      (none-only _ _ (none_passed_over f Sell d.ask kept.ask_stands (omega arith))))
