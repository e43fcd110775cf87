-- The least price that passes line 2.
use Rattle.std.proofs.Common.{◌≡◌, ◌⊎◌, ◌≤◌, ◌<◌, ◌+◌, ◌^◌, ℕ, zero, suc, List, length, get_or, Bool, true, false, cond, refl, sym, ap, ◌∙◌, arith, inl, inr, subst, sum_by}
use Rattle.std.specs.Prelude.{max, nat_lt, nat_le, ◌&&◌}
use Rattle.std.proofs.Math.Nat.{le-max_left, le-max_right}
use Rattle.std.proofs.lemmas.Bool.{cases_Bool, cases_eq, cases_lt, and_parts, and_from, or_left, cond-true, cond-false, lt-ltb, le-leb, ltb-true, leb-true}
use Rattle.std.proofs.lemmas.List.{take_all}
use Rattle.audit_base.specs.declared.terms.VolumeRule.{VolumeRule}
use Rattle.audit_base.specs.declared.terms.VolumeRule.TheVariants as of_volume
use Rattle.audit_base.specs.declared.terms.Side.{Side}
use Rattle.audit_base.specs.declared.terms.Side.TheVariants.{Buy, Sell}
use Rattle.audit_base.specs.declared.orders.Order.{Order}
use Rattle.audit_base.specs.declared.orders.Deal.{Deal}
use Rattle.audit_base.specs.declared.orders.Cut.{Cut}
use Rattle.audit_base.specs.Sums.{sum_below}
use Rattle.audit_base.specs.Orders.{order_past_end, order_at, side_at, quantity_at, limit_at, same_side, is_uncancelled_on, IsUncancelledOn, IsOrderList, OrdersInRange}
use Rattle.audit_base.specs.Priority.{Better}
use Rattle.audit_base.specs.RuleKinds.{rule_of_volume}
use Rattle.audit_base.specs.Deals.{traded, volume, DealsInRange, AreTotals}
use Rattle.audit_base.specs.Calls.{Matching, Fair, ConformsMaximum}
use Rattle.audit_base.specs.Bounds.{demand_of_order, supply_below_of_order, demand, supply_below}
use Rattle.audit_base.specs.Rules.{Conforms}
use Rattle.audit_base.proofs.SumLemmas.{below-le, below-list}
use Rattle.audit_base.proofs.OrderLemmas.{stands-test, test-stands, same_side-is}
use Rattle.audit_base.proofs.PriorityLemmas.{outranks-better}
use Rattle.audit_base.proofs.VolumeLemmas.{volume-le-cut}
use Rattle.call_laws.specs.Laws.{ShortOrdersDoNotMeet}
use Rattle.call_laws.specs.Optimum.{MaximumReachesLeastCut}
use Rattle.call_laws.proofs.ConformLemmas.{conforms-fair}
use Rattle.call_laws.proofs.FairLemmas.{trades-stands, side-volume, share, share-own}
use Rattle.call_laws.proofs.ShortLemmas.{IsShort, is-short}
use Rattle.audit_certificate.specs.Agreement.{IsLeastPrice}
use Rattle.audit_certificate.specs.Bounds.{above_if_short, above_short_bids, IsLeastCutPrice, IsCertificatePrice}

-- Under `maximum` it is the price of the least cut.

least-maximum : MaximumReachesLeastCut → (orders : List Order) (deals : List Deal) (price : ℕ) → IsOrderList orders → OrdersInRange orders → ConformsMaximum orders deals → IsLeastCutPrice orders price
    → IsLeastPrice of_volume.Maximum orders (volume deals) price
least-maximum reaches orders deals price list ranges conforms is =
    let c : Cut = record { price = price; volume = is.volume } in
    let made = reaches orders c list ranges is.least in
    let at_least : is.volume ≤ volume deals = (let le = conforms.greatest _ made.2 made.0.matching in let e = made.1 in omega arith) in
    let at_most : volume deals ≤ is.volume = (let le = volume-le-cut orders deals conforms.matching price in let e = is.least.reached.holds.1 in omega arith) in
    let same : is.volume ≡ volume deals = omega arith in
    record {
      holds = (is.least.reached.holds.0, is.least.reached.holds.1 ∙ same);
      none_below = λ q lt shows. is.least.reached.none_below q lt (shows.0, shows.1 ∙ sym same);
    }

-- Under `uniform` it is one unit above the best bid that is not fully traded.

-- a sum of greater terms, one of them strictly
below-lt : (f g : ℕ → ℕ) (n k : ℕ) → k < n → ((i : ℕ) → i < n → f i ≤ g i) → f k < g k → sum_below f n < sum_below g n
below-lt f g zero k inside le lt = absurd (omega arith)
below-lt f g (suc n) k inside le lt = elim (cases_eq k n) [
  | inl e ↦
      let last : f n < g n = subst (λ (i : ℕ). f i < g i) e lt in
      let rest : sum_below f n ≤ sum_below g n = below-le f g n (λ i below. le i (omega arith)) in
      omega arith
  | inr ne ↦
      let last : f n ≤ g n = le n (omega arith) in
      let rest : sum_below f n < sum_below g n = below-lt f g n k (omega (arith, ne)) (λ i below. le i (omega arith)) lt in
      omega arith
]

indexed : (f : Order → ℕ) (orders : List Order) → sum_below (λ i. f (order_at orders i)) (length orders) ≡ sum_by f orders
indexed f orders = below-list f orders order_past_end (length orders) (omega arith) ∙ ap (sum_by f) (take_all (length orders) orders (omega arith))

zero-or : (b : Bool) (x y : ℕ) → (b ≡ true → x ≤ y) → cond b x 0 ≤ y
zero-or true x y h = h refl
zero-or false x y h = omega arith

-- the price above the short bids of the first n orders, as a greatest number
pub record IsAbove (orders : List Order) (deals : List Deal) (n price : ℕ) : Type 0 where
  pub above : (i : ℕ) → i < n → IsShort orders deals Buy i → limit_at orders i < price
  pub reached : (price ≡ 0) ⊎ ((i : ℕ) × (i < n) × IsShort orders deals Buy i × (limit_at orders i + 1 ≡ price))

module _ (orders : List Order) (deals : List Deal) (traded_by : List ℕ) (totals : AreTotals orders deals traded_by) where
  one-short : (i : ℕ) → i < length orders → IsShort orders deals Buy i → above_if_short (order_at orders i) (get_or traded_by i 0) ≡ limit_at orders i + 1
  one-short i lt s = cond-true _ (limit_at orders i + 1) 0 (and_from _ _ (stands-test orders Buy i s.stands) (lt-ltb (get_or traded_by i 0) (quantity_at orders i) (omega (arith, totals.each i lt, s.below))))

  short-one : (i : ℕ) → i < length orders → (above_if_short (order_at orders i) (get_or traded_by i 0) ≡ 0) ⊎ (IsShort orders deals Buy i × (above_if_short (order_at orders i) (get_or traded_by i 0) ≡ limit_at orders i + 1))
  short-one i lt = elim (cases_Bool (is_uncancelled_on Buy (order_at orders i) && nat_lt (get_or traded_by i 0) (quantity_at orders i))) [
    | inr off ↦ inl (cond-false _ (limit_at orders i + 1) 0 off)
    | inl on ↦
        let parts = and_parts (is_uncancelled_on Buy (order_at orders i)) (nat_lt (get_or traded_by i 0) (quantity_at orders i)) on in
        let less = ltb-true (get_or traded_by i 0) (quantity_at orders i) parts.1 in
        inr (record { stands = test-stands orders Buy i lt parts.0; below = omega (arith, totals.each i lt, less) }, cond-true _ (limit_at orders i + 1) 0 on)
  ]

  above-is : (n : ℕ) → n ≤ length orders → IsAbove orders deals n (above_short_bids orders traded_by n)
  unfolding above_short_bids
  above-is zero le = record { above = λ i lt s. absurd (omega arith); reached = inl refl }
  above-is (suc n) le =
      let before = above-is n (omega arith) in
      let here : ℕ = above_if_short (order_at orders n) (get_or traded_by n 0) in
      let rest : ℕ = above_short_bids orders traded_by n in
      let left = le-max_left here rest in
      let right = le-max_right here rest in
      record {
        above = λ i lt s. elim (cases_eq i n) [
          | inl e ↦ let at : limit_at orders n < max here rest = (let s' : IsShort orders deals Buy n = subst (IsShort orders deals Buy) e s in omega (arith, one-short n (omega arith) s')) in
              subst (λ (k : ℕ). limit_at orders k < max here rest) (sym e) at
          | inr ne ↦ let b = before.above i (omega (arith, ne)) s in omega arith
        ];
        reached = elim (cases_lt here rest) [
          | inl less ↦
              let same : max here rest ≡ rest = omega arith in
              elim before.reached [
                | inl none ↦ inl (same ∙ none)
                | inr some ↦ inr (some.0, omega (arith, some.1), some.2, some.3 ∙ sym same)
              ]
          | inr most ↦
              let same : max here rest ≡ here = omega arith in
              elim (short-one n (omega arith)) [
                | inl none ↦ inl (same ∙ none)
                | inr some ↦ inr (n, omega arith, some.0, sym some.1 ∙ sym same)
              ]
        ];
      }

  module _ (the_rule : VolumeRule) (apart : ShortOrdersDoNotMeet) (list : IsOrderList orders) (ranges : OrdersInRange orders) (deal_ranges : DealsInRange deals) (conforms : Conforms (rule_of_volume the_rule) orders deals) where
    abbrev P : ℕ
    P = above_short_bids orders traded_by (length orders)

    both : Matching orders deals × Fair orders deals
    both = conforms-fair the_rule orders deals conforms

    is-above : IsAbove orders deals (length orders) P
    is-above = above-is (length orders) (omega arith)

    -- an order that is not short is fully traded
    full : (side : Side) (i : ℕ) → IsUncancelledOn orders side i → (IsShort orders deals side i → ⊥) → quantity_at orders i ≤ traded deals i
    full side i s not_short = elim (cases_lt (traded deals i) (quantity_at orders i)) [
      | inl less ↦ absurd (not_short (record { stands = s; below = less }))
      | inr ge ↦ ge
    ]

    demand-most : demand orders P ≤ volume deals
    demand-most =
        let le : sum_below (λ i. demand_of_order P (order_at orders i)) (length orders) ≤ sum_below (share orders deals Buy) (length orders) =
        below-le (λ i. demand_of_order P (order_at orders i)) (share orders deals Buy) (length orders) (λ i lt. zero-or (is_uncancelled_on Buy (order_at orders i) && nat_le P (limit_at orders i)) (quantity_at orders i) (share orders deals Buy i) (λ t.
        let parts = and_parts (is_uncancelled_on Buy (order_at orders i)) (nat_le P (limit_at orders i)) t in
        let s = test-stands orders Buy i lt parts.0 in
        let high = leb-true P (limit_at orders i) parts.1 in
        let q = full Buy i s (λ short. let low = is-above.above i lt short in absurd (omega arith)) in
        omega (arith, share-own orders deals Buy i s.of_side))) in
        omega (arith, le, indexed (demand_of_order P) orders, side-volume orders deals both.0.kept Buy)

    supply-most : supply_below orders P ≤ volume deals
    supply-most =
        let le : sum_below (λ i. supply_below_of_order P (order_at orders i)) (length orders) ≤ sum_below (share orders deals Sell) (length orders) =
        below-le (λ i. supply_below_of_order P (order_at orders i)) (share orders deals Sell) (length orders) (λ i lt. zero-or (is_uncancelled_on Sell (order_at orders i) && nat_lt (limit_at orders i) P) (quantity_at orders i) (share orders deals Sell i) (λ t.
        let parts = and_parts (is_uncancelled_on Sell (order_at orders i)) (nat_lt (limit_at orders i) P) t in
        let s = test-stands orders Sell i lt parts.0 in
        let low = ltb-true (limit_at orders i) P parts.1 in
        let q = full Sell i s (λ short. elim is-above.reached [
          | inl none ↦ absurd (omega arith)
          | inr some ↦ let less = apart the_rule orders deals ranges deal_ranges conforms some.0 i (is-short orders deals Buy some.0 some.2) (is-short orders deals Sell i short) in let e = some.3 in absurd (omega arith)
        ]) in
        omega (arith, share-own orders deals Sell i s.of_side))) in
        omega (arith, le, indexed (supply_below_of_order P) orders, side-volume orders deals both.0.kept Sell)

    -- up to the limit of a short bid the demand is above the volume
    demand-above : (q b : ℕ) → IsShort orders deals Buy b → q ≤ limit_at orders b → volume deals < demand orders q
    demand-above q b short low =
        let each : (i : ℕ) → i < length orders → share orders deals Buy i ≤ demand_of_order q (order_at orders i) = (λ i lt. elim (cases_lt 0 (share orders deals Buy i)) [
          | inr none ↦ omega arith
          | inl some ↦
              let t = trading i some in
              let s = t.0 in
              elim (cases_lt (limit_at orders i) q) [
                | inl under ↦
                    let over : Better orders b i = outranks-better Buy (order_at orders b) (order_at orders i) short.stands.of_side s.of_side (or_left _ _ (lt-ltb (limit_at orders i) (limit_at orders b) (omega arith))) in
                    let filled = both.1.fills Buy b i short.stands s over t.1 in
                    let less = short.below in
                    absurd (omega arith)
                | inr high ↦
                    let is : demand_of_order q (order_at orders i) ≡ quantity_at orders i = wanted-is q i s high in
                    omega (arith, both.0.within i lt, share-own orders deals Buy i s.of_side)
              ]
        ]) in
        let there : demand_of_order q (order_at orders b) ≡ quantity_at orders b = wanted-is q b short.stands low in
        let lt : sum_below (share orders deals Buy) (length orders) < sum_below (λ i. demand_of_order q (order_at orders i)) (length orders) =
        below-lt (share orders deals Buy) (λ i. demand_of_order q (order_at orders i)) (length orders) b short.stands.inside each (omega (arith, share-own orders deals Buy b short.stands.of_side, short.below)) in
        omega (arith, lt, indexed (demand_of_order q) orders, side-volume orders deals both.0.kept Buy)
      where
        wanted-is : (q i : ℕ) → IsUncancelledOn orders Buy i → q ≤ limit_at orders i → demand_of_order q (order_at orders i) ≡ quantity_at orders i
        wanted-is q i s high = cond-true _ (quantity_at orders i) 0 (and_from _ _ (stands-test orders Buy i s) (le-leb q (limit_at orders i) high))

        trading : (i : ℕ) → 0 < share orders deals Buy i → IsUncancelledOn orders Buy i × (0 < traded deals i)
        trading i some = elim (cases_Bool (same_side Buy (side_at orders i))) [
          | inr off ↦ let none : share orders deals Buy i ≡ 0 = cond-false _ (traded deals i) 0 off in absurd (omega arith)
          | inl on ↦
              let sided : side_at orders i ≡ Buy = same_side-is Buy (side_at orders i) on in
              let trades : 0 < traded deals i = omega (arith, share-own orders deals Buy i sided) in
              (subst (λ (side : Side). IsUncancelledOn orders side i) sided (trades-stands orders deals both.0.kept i trades), trades)
        ]

    in-range : P ≤ 10 ^ 18
    in-range = elim is-above.reached [
      | inl none ↦ omega arith
      | inr some ↦ let priced = (ranges some.0 order_past_end some.1).priced in let e = some.3 in omega arith
    ]

    pub least-uniform : IsLeastPrice of_volume.Uniform orders (volume deals) P
    least-uniform = record {
      holds = (in-range, (demand-most, supply-most));
      none_below = λ q lt shows. elim is-above.reached [
        | inl none ↦ absurd (omega arith)
        | inr some ↦ let above = demand-above q some.0 some.2 (let e = some.3 in omega arith) in let most = shows.1.0 in absurd (omega arith)
      ];
    }

-- the price that is written is the least
pub least-is : MaximumReachesLeastCut → ShortOrdersDoNotMeet → (the_rule : VolumeRule) (orders : List Order) (deals : List Deal) (traded_by : List ℕ) (price : ℕ)
    → IsOrderList orders → OrdersInRange orders → DealsInRange deals → Conforms (rule_of_volume the_rule) orders deals → AreTotals orders deals traded_by → IsCertificatePrice the_rule orders traded_by price
    → IsLeastPrice the_rule orders (volume deals) price
least-is reaches apart of_volume.Uniform orders deals traded_by price list ranges deal_ranges conforms totals is =
    subst (IsLeastPrice of_volume.Uniform orders (volume deals)) (sym is) (least-uniform orders deals traded_by totals of_volume.Uniform apart list ranges deal_ranges conforms)
least-is reaches apart of_volume.Maximum orders deals traded_by price list ranges deal_ranges conforms totals is = least-maximum reaches orders deals price list ranges conforms is
