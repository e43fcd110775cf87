-- Lines 3 and 4.
use Rattle.std.proofs.Common.{◌≡◌, ◌⊎◌, ℕ, zero, suc, ◌+◌, ◌<◌, ◌≤◌, List, length, get_or, Bool, true, false, cond, Option, None, Some, Result, Ok, Err, refl, sym, ap, ◌∙◌, arith, inl, inr, subst, add-one, IfOk, IsTrue, ◌↔◌}
use Rattle.std.specs.Prelude.{IfSome, ◌==◌, ◌&&◌, not, nat_lt, option_map}
use Rattle.std.proofs.lemmas.Bool.{cases_Bool, cases_eq, cases_lt, and_parts, and_from, or_cases, or_left, or_right, cond_both, both_ways, ltb-true, lt-ltb, eqb-true, eq-eqb, false≢true}
use Rattle.audit_base.specs.declared.terms.Side.{Side}
use Rattle.audit_base.specs.declared.orders.Order.{Order}
use Rattle.audit_base.specs.declared.orders.Deal.{Deal}
use Rattle.audit_base.specs.Orders.{order_at, side_at, quantity_at, place_at, is_uncancelled_on, IsUncancelledOn, IsOrderList}
use Rattle.audit_base.specs.Priority.{better, Better}
use Rattle.audit_base.specs.Deals as deals_of
use Rattle.audit_base.specs.Calls.{Fair}
use Rattle.audit_base.proofs.OrderLemmas.{stands-test, test-stands}
use Rattle.audit_base.proofs.PriorityLemmas.{Better-strict, Better-onward, Better-one_way, Better-total}
use Rattle.audit_base.specs.Deals.{AreTotals}
use Rattle.audit_certificate.specs.Texts.{last_text}
use Rattle.audit_certificate.specs.Agreement.{IsLastOf}
use Rattle.audit_certificate.specs.LastOrders.{IsOrderOn, trades_on, worse_of, later_of, last_trading, is_filled_ahead, AreFilledAhead, DecidesLastLine}

abbrev traded_in : List Deal → ℕ → ℕ
traded_in deals i = deals_of.traded deals i

-- the last of the first n orders that trades
pub record IsLastSoFar (orders : List Order) (traded : List ℕ) (side : Side) (n : ℕ) (last : Option ℕ) : Type 0 where
  pub same : last ≡ last_trading orders traded side n
  pub on : IfSome last (IsOrderOn orders side)

pub last-none : (orders : List Order) (traded : List ℕ) (side : Side) → IsLastSoFar orders traded side 0 None
unfolding last_trading
last-none orders traded side = record { same = refl; on = tt }

pub last-more : (orders : List Order) (traded : List ℕ) (side : Side) (n : ℕ) (last next : Option ℕ) → next ≡ later_of orders traded side last n → IfSome next (IsOrderOn orders side)
    → IsLastSoFar orders traded side n last → IsLastSoFar orders traded side (n + 1) next
unfolding last_trading
last-more orders traded side n last next next_is on so_far = record {
  same = next_is ∙ ap (λ (l : Option ℕ). later_of orders traded side l n) so_far.same ∙ ap (last_trading orders traded side) (sym (add-one n));
  on = on;
}

-- The last order that trades is the worst of them.

pub if_ok-weaker : {T E : Type 0} (r : Result T E) (P Q : T → Type 0) → ((t : T) → P t → Q t) → IfOk r P → IfOk r Q
if_ok-weaker (Ok t) P Q f h = f t h
if_ok-weaker (Err e) P Q f h = h

module _ (orders : List Order) (traded : List ℕ) (side : Side) (list : IsOrderList orders) where
  record IsWorst (n last : ℕ) : Type 0 where
    below : last < n
    trades : trades_on orders traded side last ≡ true
    others : (i : ℕ) → i < n → trades_on orders traded side i ≡ true → (i ≡ last) ⊎ Better orders i last

  abbrev IsWorstUpto : ℕ → Option ℕ → Type 0
  IsWorstUpto n None = (i : ℕ) → i < n → trades_on orders traded side i ≡ false
  IsWorstUpto n (Some last) = IsWorst n last

  on-side : (i : ℕ) → i < length orders → trades_on orders traded side i ≡ true → side_at orders i ≡ side
  on-side i lt t = (test-stands orders side i lt ((and_parts (is_uncancelled_on side (order_at orders i)) _ t).0)).of_side

  worst-first : (n : ℕ) → trades_on orders traded side n ≡ true → ((i : ℕ) → i < n → trades_on orders traded side i ≡ false) → IsWorst (suc n) n
  worst-first n here none = record {
    below = omega arith;
    trades = here;
    others = λ i lt t. elim (cases_eq i n) [
      | inl e ↦ inl e
      | inr ne ↦ absurd (both_ways _ (none i (omega (arith, ne))) t)
    ];
  }

  worst-next : (n last : ℕ) → n < length orders → trades_on orders traded side n ≡ true → IsWorst n last
      → IsWorst (suc n) (cond (better (order_at orders last) (order_at orders n)) n last)
  worst-next n last inside here so_far = cond_both (better (order_at orders last) (order_at orders n)) n last (IsWorst (suc n))
      (λ over. record {
        below = omega arith;
        trades = here;
        others = λ i lt t. elim (cases_eq i n) [
          | inl e ↦ inl e
          | inr ne ↦ elim (so_far.others i (omega (arith, ne)) t) [
            | inl same ↦ inr (subst (λ (k : ℕ). Better orders k n) (sym same) over)
            | inr above ↦ inr (Better-onward orders i last n above over)
          ]
        ];
      })
      (λ under. let below = so_far.below in record {
        below = omega arith;
        trades = so_far.trades;
        others = λ i lt t. elim (cases_eq i n) [
          | inl e ↦ inr (subst (λ (k : ℕ). Better orders k last) (sym e) (elim (Better-total orders list last n (omega arith) inside (on-side last (omega arith) so_far.trades ∙ sym (on-side n inside here)) (λ same. absurd (omega arith))) [
            | inl over ↦ absurd (both_ways _ under over)
            | inr above ↦ above
          ]))
          | inr ne ↦ so_far.others i (omega (arith, ne)) t
        ];
      })

  worst-more : (n : ℕ) (last : Option ℕ) → n < length orders → IsWorstUpto n last → IsWorstUpto (suc n) (later_of orders traded side last n)
  worst-more n last inside so_far = cond_both (trades_on orders traded side n) (Some (worse_of orders last n)) last (IsWorstUpto (suc n)) (λ here. trading last so_far here) (λ off. idle last so_far off)
    where
      trading : (l : Option ℕ) → IsWorstUpto n l → trades_on orders traded side n ≡ true → IsWorst (suc n) (worse_of orders l n)
      trading None none here = worst-first n here none
      trading (Some l) worst here = worst-next n l inside here worst

      idle : (l : Option ℕ) → IsWorstUpto n l → trades_on orders traded side n ≡ false → IsWorstUpto (suc n) l
      idle None none off = λ i lt. elim (cases_eq i n) [
        | inl e ↦ subst (λ (k : ℕ). trades_on orders traded side k ≡ false) (sym e) off
        | inr ne ↦ none i (omega (arith, ne))
      ]
      idle (Some l) worst off = let below = worst.below in record {
        below = omega arith;
        trades = worst.trades;
        others = λ i lt t. elim (cases_eq i n) [
          | inl e ↦ absurd (both_ways _ off (subst (λ (k : ℕ). trades_on orders traded side k ≡ true) e t))
          | inr ne ↦ worst.others i (omega (arith, ne)) t
        ];
      }

  worst : (n : ℕ) → n ≤ length orders → IsWorstUpto n (last_trading orders traded side n)
  unfolding last_trading
  worst zero le = λ i lt. absurd (omega arith)
  worst (suc n) le = worst-more n (last_trading orders traded side n) (omega arith) (worst n (omega arith))

  abbrev found : Option ℕ
  found = last_trading orders traded side (length orders)

  whole : IsWorstUpto (length orders) found
  whole = worst (length orders) (omega arith)

  -- The same in the words of the deals that the numbers are of.
  module _ (deals : List Deal) (totals : AreTotals orders deals traded) where
    trading-test : (i : ℕ) → IsUncancelledOn orders side i → 0 < traded_in deals i → trades_on orders traded side i ≡ true
    trading-test i s some = and_from _ _ (stands-test orders side i s) (lt-ltb 0 (get_or traded i 0) (omega (arith, totals.each i s.inside)))

    test-trading : (i : ℕ) → i < length orders → trades_on orders traded side i ≡ true → IsUncancelledOn orders side i × (0 < traded_in deals i)
    test-trading i lt t =
        let parts = and_parts (is_uncancelled_on side (order_at orders i)) (nat_lt 0 (get_or traded i 0)) t in
        let some = ltb-true 0 (get_or traded i 0) parts.1 in
        (test-stands orders side i lt parts.0, omega (arith, totals.each i lt))

    none-trades : (i : ℕ) → IsUncancelledOn orders side i → trades_on orders traded side i ≡ false → traded_in deals i ≡ 0
    none-trades i s off = elim (cases_lt 0 (traded_in deals i)) [
      | inl some ↦ absurd (both_ways _ off (trading-test i s some))
      | inr none ↦ omega arith
    ]

    filled-is : (last i : ℕ) → IsUncancelledOn orders side i → Better orders i last → is_filled_ahead orders traded side last i ≡ true → traded_in deals i ≡ quantity_at orders i
    filled-is last i s over filled = elim (or_cases (not (is_uncancelled_on side (order_at orders i) && better (order_at orders i) (order_at orders last))) (get_or traded i 0 == quantity_at orders i) filled) [
      | inl away ↦ absurd (both_ways _ (ap not (and_from _ _ (stands-test orders side i s) over)) away)
      | inr full ↦ sym (totals.each i s.inside) ∙ eqb-true (get_or traded i 0) (quantity_at orders i) full
    ]

    is-filled : (last i : ℕ) → i < length orders → (IsUncancelledOn orders side i → Better orders i last → traded_in deals i ≡ quantity_at orders i) → is_filled_ahead orders traded side last i ≡ true
    is-filled last i lt full = elim (cases_Bool (is_uncancelled_on side (order_at orders i) && better (order_at orders i) (order_at orders last))) [
      | inr away ↦ or_left _ _ (ap not away)
      | inl ahead ↦
          let parts = and_parts (is_uncancelled_on side (order_at orders i)) (better (order_at orders i) (order_at orders last)) ahead in
          or_right _ _ (eq-eqb (get_or traded i 0) (quantity_at orders i) (totals.each i lt ∙ full (test-stands orders side i lt parts.0) parts.1))
    ]

    -- with the better ones filled it is the last that trades
    pub last-is : (l : Option ℕ) → l ≡ found → AreFilledAhead orders traded side l → IsLastOf orders deals side l
    last-is None l_is filled = λ i s. none-trades i s ((subst (IsWorstUpto (length orders)) (sym l_is) whole) i s.inside)
    last-is (Some l) l_is filled =
        let worst_is : IsWorst (length orders) l = subst (IsWorstUpto (length orders)) (sym l_is) whole in
        let trading = test-trading l worst_is.below worst_is.trades in
        record {
          stands = trading.0;
          trades = trading.1;
          better = λ i s over. filled-is l i s over (filled i s.inside);
          worse = λ i s under. elim (cases_lt 0 (traded_in deals i)) [
            | inr none ↦ omega arith
            | inl some ↦ elim (worst_is.others i s.inside (trading-test i s some)) [
              | inl same ↦ absurd (Better-strict orders l (subst (λ (k : ℕ). Better orders l k) same under))
              | inr over ↦ absurd (Better-one_way orders i l over under)
            ]
          ];
        }

    -- no other order is
    pub last-once : (l : Option ℕ) → IsLastOf orders deals side l → l ≡ found
    last-once l is = same l found is whole
      where
        same : (l f : Option ℕ) → IsLastOf orders deals side l → IsWorstUpto (length orders) f → l ≡ f
        same None None is worst = refl
        same None (Some f) is worst = let t = test-trading f worst.below worst.trades in let none = is f t.0 in absurd (omega (arith, t.1))
        same (Some l) None is none = absurd (both_ways _ (none l is.stands.inside) (trading-test l is.stands is.trades))
        same (Some l) (Some f) is worst = elim (worst.others l is.stands.inside (trading-test l is.stands is.trades)) [
          | inl e ↦ ap (λ (k : ℕ). Some k) e
          | inr over ↦ let t = test-trading f worst.below worst.trades in let none = is.worse f t.0 over in absurd (omega (arith, t.1))
        ]

    -- in a fair list of deals the better ones are filled
    pub fair-filled : Fair orders deals → (l : Option ℕ) → l ≡ found → AreFilledAhead orders traded side l
    fair-filled fair None l_is = tt
    fair-filled fair (Some l) l_is =
        let worst_is : IsWorst (length orders) l = subst (IsWorstUpto (length orders)) (sym l_is) whole in
        let trading = test-trading l worst_is.below worst_is.trades in
        λ i lt. is-filled l i lt (λ s over. fair.fills side i l s trading.0 over trading.1)

    pub last-filled : (l : Option ℕ) → IsLastOf orders deals side l → AreFilledAhead orders traded side l
    last-filled None is = tt
    last-filled (Some l) is = λ i lt. is-filled l i lt (is.better i)

-- whether the line is that of the last order
pub tells-last : (orders : List Order) (traded : List ℕ) (side : Side) (line : List ℕ) (l : Option ℕ) (place : Option ℕ) {E : Type 0} (result : Result Bool E) → l ≡ last_trading orders traded side (length orders)
    → place ≡ option_map (place_at orders) l → AreFilledAhead orders traded side l → IfOk result (λ same. IsTrue same ↔ (line ≡ last_text side place))
    → IfOk result (DecidesLastLine orders traded side line)
tells-last orders traded side line l place result l_is place_is filled ok = if_ok-weaker result (λ same. IsTrue same ↔ (line ≡ last_text side place)) (DecidesLastLine orders traded side line)
    (λ same tells deals list totals. (
      λ t. record { last = l; is_last = last-is orders traded side list deals totals l l_is filled; text_is = tells.0 t ∙ ap (last_text side) place_is },
      λ is. tells.1 (is.text_is ∙ ap (λ (k : Option ℕ). last_text side (option_map (place_at orders) k)) (last-once orders traded side list deals totals is.last is.is_last ∙ sym l_is) ∙ ap (last_text side) (sym place_is)),
    )) ok

-- and where a better order is not filled no line is
pub tells-none : (orders : List Order) (traded : List ℕ) (side : Side) (line : List ℕ) (l : Option ℕ) → l ≡ last_trading orders traded side (length orders)
    → (AreFilledAhead orders traded side l → ⊥) → DecidesLastLine orders traded side line false
tells-none orders traded side line l l_is unfilled deals list totals = (
  λ t. absurd (false≢true t),
  λ is. absurd (unfilled (subst (AreFilledAhead orders traded side) (last-once orders traded side list deals totals is.last is.is_last ∙ sym l_is) (last-filled orders traded side list deals totals is.last is.is_last))),
)
