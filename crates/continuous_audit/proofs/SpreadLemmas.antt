-- After a record only its own order can meet one of the other side, and it meets the best if any.
use Rattle.std.proofs.Common.{◌≡◌, ◌≢◌, ◌<◌, ◌≤◌, ℕ, suc, List, [], ◌∷◌, length, true, false, Some, None, refl, sym, ap, ◌∙◌, arith, inl, inr, subst}
use Rattle.std.specs.Prelude.{nat_lt, nat_le, ◌==◌, ◌&&◌}
use Rattle.std.proofs.lemmas.Bool.{cases_eq, cases_lt, both_ways, lt-ltb, leb-true, le-leb, eq-eqb, eqb-true, and_parts, and_from, or_left, or_right, or_cases, false_from_ne_true}
use Rattle.std.proofs.lemmas.List.Elements.{All-head, All-contains}
use Rattle.audit_base.specs.declared.terms.Side.{Side}
use Rattle.audit_base.specs.declared.terms.Side.TheVariants.{Buy, Sell}
use Rattle.audit_base.specs.declared.terms.Which.TheVariants as which
use Rattle.audit_base.specs.declared.findings.Property.TheVariants as property
use Rattle.audit_base.specs.declared.orders.Order.{Order}
use Rattle.audit_base.specs.declared.orders.Deal.{Deal}
use Rattle.audit_base.specs.Least.{any_below}
use Rattle.audit_base.specs.Orders.{order_at, side_at, limit_at, place_at, same_side, other_side, IsOrderList}
use Rattle.audit_base.specs.Priority.{better, outranks, Better, best_order}
use Rattle.audit_base.specs.Expected.{limits_meet}
use Rattle.audit_base.specs.Continuous.{traded_before, uncancelled_before, rests_before_in_ledger, left_before_in_ledger, active_after_in_ledger}
use Rattle.audit_base.specs.ContinuousOffences.{active_after_on_side, active_orders_meet, spread_finding, traded_shown_after}
use Rattle.audit_base.specs.Shows.{finding_at_record, show_if_found}
use Rattle.audit_base.proofs.SumLemmas.{AllPairs-head, Contains-cases}
use Rattle.audit_base.proofs.OrderLemmas.{same_place, same_side-is, is-same_side, side-other}
use Rattle.audit_base.proofs.LeastLemmas.{any-at, any-found}
use Rattle.audit_base.proofs.OffenceLemmas.{none-only}
use Rattle.audit_base.proofs.PriorityLemmas.{better-outranks, bid-outranks, ask-outranks, Better-strict, Better-one_way, is-best}
use Rattle.audit_base.proofs.ContinuousOffenceLemmas.{traded-more}
use Rattle.order_book.specs.declared.books.Resting.{Resting}
use Rattle.order_book.specs.Books.{IsAheadInBook, best_resting}
use Rattle.continuous_audit.specs.Holding.{IsListOfAmounts, IsUncrossedBefore, IsRestingOn, ask_of_two, bid_of_two, is_active_after_own, meets_first, resting_left_before, resting_with_amount}
use Rattle.continuous_laws.proofs.StepLemmas.{rests-parts}
use Rattle.continuous_laws.proofs.ExistLemmas.{rests-from}
use Rattle.continuous_audit.proofs.RestLemmas.{resting_left-parts, resting_left-is, uncancelled-back}
use Rattle.continuous_audit.proofs.HeadLemmas.{ahead-better}

-- what is better meets all that the other meets
pub better-meets : (side : Side) (o p : Order) (l : ℕ) → o.side ≡ side → better o p ≡ true → limits_meet side p.limit l ≡ true → limits_meet side o.limit l ≡ true
better-meets Buy o p l s b m =
    let over : outranks Buy o p ≡ true = subst (λ (t : Side). outranks t o p ≡ true) s (better-outranks o p b) in
    let le = leb-true l p.limit m in
    elim (bid-outranks o p over) [ inl more ↦ le-leb l o.limit (omega arith) | inr same ↦ let e = same.0 in le-leb l o.limit (omega arith) ]
better-meets Sell o p l s b m =
    let over : outranks Sell o p ≡ true = subst (λ (t : Side). outranks t o p ≡ true) s (better-outranks o p b) in
    let le = leb-true p.limit l m in
    elim (ask-outranks o p over) [ inl more ↦ le-leb o.limit l (omega arith) | inr same ↦ let e = same.0 in le-leb o.limit l (omega arith) ]

pub meets-back : (side : Side) (a b : ℕ) → limits_meet side a b ≡ true → limits_meet (other_side side) b a ≡ true
meets-back Buy a b m = m
meets-back Sell a b m = m

pub meets-twice : (side : Side) (a b : ℕ) → limits_meet (other_side side) b a ≡ true → limits_meet side a b ≡ true
meets-twice Buy a b m = m
meets-twice Sell a b m = m

-- an active order is at the place or before it
pub active-place : (orders : List Order) (deals : List Deal) (i x : ℕ) → active_after_in_ledger orders (traded_before orders deals) i x ≡ true → place_at orders x ≤ i
unfolding active_after_in_ledger
active-place orders deals i x t = elim (or_cases (rests_before_in_ledger orders (traded_before orders deals) (suc i) x) ((place_at orders x == i) && uncancelled_before (order_at orders x).cancelled (suc i) && nat_lt 0 (left_before_in_ledger orders (traded_before orders deals) (suc i) x)) t) [
  | inl r ↦ let at = (rests-parts orders (traded_before orders deals) (suc i) x r).earlier in omega arith
  | inr here ↦
      let outer = and_parts ((place_at orders x == i) && uncancelled_before (order_at orders x).cancelled (suc i)) (nat_lt 0 (left_before_in_ledger orders (traded_before orders deals) (suc i) x)) here in
      let inner = and_parts (place_at orders x == i) (uncancelled_before (order_at orders x).cancelled (suc i)) outer.0 in
      let e : place_at orders x ≡ i = eqb-true _ _ inner.0 in
      omega arith
]

module _ (orders : List Order) (list : IsOrderList orders) (deals : List Deal) (p : ℕ) where
  abbrev past : ℕ → ℕ → ℕ
  past = traded_before orders deals

  -- two active orders of both sides that meet
  pub record Crossing (b a : ℕ) : Type 0 where
    pub bid_inside : b < length orders
    pub ask_inside : a < length orders
    pub buys : side_at orders b ≡ Buy
    pub sells : side_at orders a ≡ Sell
    pub bid_active : active_after_in_ledger orders past p b ≡ true
    pub ask_active : active_after_in_ledger orders past p a ≡ true
    pub meet : limit_at orders a ≤ limit_at orders b

  crossing-found : active_orders_meet orders deals p ≡ true → (b : ℕ) × (a : ℕ) × Crossing b a
  unfolding active_orders_meet
  crossing-found t =
      let row = any-found (λ b. any_below (λ a. active_after_on_side orders deals p Buy b && active_after_on_side orders deals p Sell a && nat_le (limit_at orders a) (limit_at orders b)) (length orders)) (length orders) t in
      let b = row.0 in
      let cell = any-found (λ a. active_after_on_side orders deals p Buy b && active_after_on_side orders deals p Sell a && nat_le (limit_at orders a) (limit_at orders b)) (length orders) row.2 in
      let a = cell.0 in
      let outer = and_parts (active_after_on_side orders deals p Buy b && active_after_on_side orders deals p Sell a) (nat_le (limit_at orders a) (limit_at orders b)) cell.2 in
      let both = and_parts (active_after_on_side orders deals p Buy b) (active_after_on_side orders deals p Sell a) outer.0 in
      let on_b = and_parts (same_side Buy (side_at orders b)) (active_after_in_ledger orders past p b) both.0 in
      let on_a = and_parts (same_side Sell (side_at orders a)) (active_after_in_ledger orders past p a) both.1 in (
        b,
        a,
        record {
          bid_inside = row.1;
          ask_inside = cell.1;
          buys = same_side-is Buy _ on_b.0;
          sells = same_side-is Sell _ on_a.0;
          bid_active = on_b.1;
          ask_active = on_a.1;
          meet = leb-true (limit_at orders a) (limit_at orders b) outer.1;
        },
      )

  crossing-meets : (b a : ℕ) → Crossing b a → active_orders_meet orders deals p ≡ true
  unfolding active_orders_meet
  crossing-meets b a c =
      any-at (λ b. any_below (λ a. active_after_on_side orders deals p Buy b && active_after_on_side orders deals p Sell a && nat_le (limit_at orders a) (limit_at orders b)) (length orders)) (length orders) b c.bid_inside
      (any-at (λ a. active_after_on_side orders deals p Buy b && active_after_on_side orders deals p Sell a && nat_le (limit_at orders a) (limit_at orders b)) (length orders) a c.ask_inside
      (and_from _ _ (and_from _ _ (and_from _ _ (is-same_side Buy _ (sym c.buys)) c.bid_active) (and_from _ _ (is-same_side Sell _ (sym c.sells)) c.ask_active)) (le-leb _ _ c.meet)))

  rests-active : (x : ℕ) → rests_before_in_ledger orders past (suc p) x ≡ true → active_after_in_ledger orders past p x ≡ true
  unfolding active_after_in_ledger
  rests-active x t = or_left _ _ t

  module _ (n : ℕ) (n_inside : n < length orders) (n_place : place_at orders n ≡ p) where
    active-now : is_active_after_own orders past n ≡ true → active_after_in_ledger orders past p n ≡ true
    unfolding active_after_in_ledger
    active-now t =
        let parts = and_parts (uncancelled_before (order_at orders n).cancelled (suc (place_at orders n))) (nat_lt 0 (left_before_in_ledger orders past (suc (place_at orders n)) n)) t in
        or_right (rests_before_in_ledger orders past (suc p) n) _ (and_from _ _ (and_from _ _ (eq-eqb _ _ n_place) (subst (λ q. uncancelled_before (order_at orders n).cancelled (suc q) ≡ true) n_place parts.0))
        (subst (λ q. nat_lt 0 (left_before_in_ledger orders past (suc q) n) ≡ true) n_place parts.1))

    now-active : active_after_in_ledger orders past p n ≡ true → is_active_after_own orders past n ≡ true
    unfolding active_after_in_ledger
    now-active t = elim (or_cases (rests_before_in_ledger orders past (suc p) n) ((place_at orders n == p) && uncancelled_before (order_at orders n).cancelled (suc p) && nat_lt 0 (left_before_in_ledger orders past (suc p) n)) t) [
      | inl r ↦
          let at = rests-parts orders past (suc p) n r in
          let more = at.has_left in
          and_from _ _ (subst (λ q. uncancelled_before (order_at orders n).cancelled (suc q) ≡ true) (sym n_place) at.stands_yet)
          (subst (λ q. nat_lt 0 (left_before_in_ledger orders past (suc q) n) ≡ true) (sym n_place) (lt-ltb 0 (left_before_in_ledger orders past (suc p) n) (omega arith)))
      | inr here ↦
          let outer = and_parts ((place_at orders n == p) && uncancelled_before (order_at orders n).cancelled (suc p)) (nat_lt 0 (left_before_in_ledger orders past (suc p) n)) here in
          let inner = and_parts (place_at orders n == p) (uncancelled_before (order_at orders n).cancelled (suc p)) outer.0 in
          and_from _ _ (subst (λ q. uncancelled_before (order_at orders n).cancelled (suc q) ≡ true) (sym n_place) inner.1) (subst (λ q. nat_lt 0 (left_before_in_ledger orders past (suc q) n) ≡ true) (sym n_place) outer.1)
    ]

    -- any other active order rests, before the record and after it
    others-rest : (x : ℕ) → x < length orders → x ≢ n → active_after_in_ledger orders past p x ≡ true → (rests_before_in_ledger orders past (suc p) x ≡ true) × (rests_before_in_ledger orders past p x ≡ true)
    unfolding active_after_in_ledger
    others-rest x lt ne t = elim (or_cases (rests_before_in_ledger orders past (suc p) x) ((place_at orders x == p) && uncancelled_before (order_at orders x).cancelled (suc p) && nat_lt 0 (left_before_in_ledger orders past (suc p) x)) t) [
      | inl r ↦
          let at = rests-parts orders past (suc p) x r in
          let away : place_at orders x ≢ p = λ e. ne (same_place orders list x n lt n_inside (e ∙ sym n_place)) in
          let earlier = at.earlier in
          let more = at.has_left in (
            r,
            rests-from orders past p x (record {
              life = at.life;
              earlier = omega (arith, away);
              stands_yet = uncancelled-back (order_at orders x).cancelled p (suc p) (omega arith) at.stands_yet;
              has_left = omega (arith, traded-more orders deals p x);
            }),
          )
      | inr here ↦
          let outer = and_parts ((place_at orders x == p) && uncancelled_before (order_at orders x).cancelled (suc p)) (nat_lt 0 (left_before_in_ledger orders past (suc p) x)) here in
          let inner = and_parts (place_at orders x == p) (uncancelled_before (order_at orders x).cancelled (suc p)) outer.0 in
          absurd (ne (same_place orders list x n lt n_inside (eqb-true _ _ inner.0 ∙ sym n_place)))
    ]

    module _ (apart : IsUncrossedBefore orders past p) where
      -- orders of both sides that meet and are active: one is that of the record
      rest-apart : (x y : ℕ) (s : Side) → x < length orders → y < length orders → side_at orders x ≡ s → side_at orders y ≡ other_side s → rests_before_in_ledger orders past p x ≡ true → rests_before_in_ledger orders past p y ≡ true
          → limits_meet s (limit_at orders x) (limit_at orders y) ≡ true → ⊥
      rest-apart x y Buy hx hy sx sy rx ry m = let lt = apart x y hx hy sx sy rx ry in let le = leb-true (limit_at orders y) (limit_at orders x) m in omega arith
      rest-apart x y Sell hx hy sx sy rx ry m = let lt = apart y x hy hx sy sx ry rx in let le = leb-true (limit_at orders x) (limit_at orders y) m in omega arith

      -- the same by the side of the order of the record
      record Met (s : Side) (x y : ℕ) : Type 0 where
        x_inside : x < length orders
        y_inside : y < length orders
        x_side : side_at orders x ≡ s
        y_side : side_at orders y ≡ other_side s
        x_active : active_after_in_ledger orders past p x ≡ true
        y_active : active_after_in_ledger orders past p y ≡ true
        meet : limits_meet s (limit_at orders x) (limit_at orders y) ≡ true

      to-met : (s : Side) (b a : ℕ) → Crossing b a → Met s (bid_of_two s b a) (ask_of_two s b a)
      to-met Buy b a c = record { x_inside = c.bid_inside; y_inside = c.ask_inside; x_side = c.buys; y_side = c.sells; x_active = c.bid_active; y_active = c.ask_active; meet = le-leb _ _ c.meet }
      to-met Sell b a c = record { x_inside = c.ask_inside; y_inside = c.bid_inside; x_side = c.sells; y_side = c.buys; x_active = c.ask_active; y_active = c.bid_active; meet = le-leb _ _ c.meet }

      from-met : (s : Side) (x y : ℕ) → Met s x y → Crossing (bid_of_two s x y) (ask_of_two s x y)
      from-met Buy x y m = record { bid_inside = m.x_inside; ask_inside = m.y_inside; buys = m.x_side; sells = m.y_side; bid_active = m.x_active; ask_active = m.y_active; meet = leb-true _ _ m.meet }
      from-met Sell x y m = record { bid_inside = m.y_inside; ask_inside = m.x_inside; buys = m.y_side; sells = m.x_side; bid_active = m.y_active; ask_active = m.x_active; meet = leb-true _ _ m.meet }

      module _ (s : Side) (n_side : side_at orders n ≡ s) (ys : List Resting) (holds : IsListOfAmounts orders (other_side s) (resting_left_before orders past (suc p)) ys) where
        abbrev amount : ℕ → ℕ
        amount = resting_left_before orders past (suc p)

        other-apart : (y : ℕ) → side_at orders y ≡ other_side s → y ≢ n
        other-apart y of e = side-other s (sym n_side ∙ sym (ap (side_at orders) e) ∙ of)

        -- of two that meet, the one of the side of the record is its order
        met-here : (x y : ℕ) → Met s x y → (x ≡ n) × (rests_before_in_ledger orders past (suc p) y ≡ true)
        met-here x y m =
            let y_rests = others-rest y m.y_inside (other-apart y m.y_side) m.y_active in
            elim (cases_eq x n) [
              | inl e ↦ (e, y_rests.0)
              | inr ne ↦ absurd (rest-apart x y s m.x_inside m.y_inside m.x_side m.y_side (others-rest x m.x_inside ne m.x_active).1 y_rests.1 m.meet)
            ]

        -- the first of the book, and every other one that rests on this side is worse
        record IsFirst (h : Resting) : Type 0 where
          inside : h.index < length orders
          of_side : side_at orders h.index ≡ other_side s
          limit_is : h.limit ≡ limit_at orders h.index
          rests_on : rests_before_in_ledger orders past (suc p) h.index ≡ true
          others : (y : ℕ) → y < length orders → side_at orders y ≡ other_side s → rests_before_in_ledger orders past (suc p) y ≡ true → y ≢ h.index → Better orders h.index y

        first-is : (h : Resting) (zs : List Resting) → IsListOfAmounts orders (other_side s) amount (h ∷ zs) → IsFirst h
        first-is h zs held =
            let part : IsRestingOn orders (other_side s) amount h = All-head (IsRestingOn orders (other_side s) amount) h zs held.only in
            record {
              inside = part.inside;
              of_side = part.of_side;
              limit_is = ap (λ (r : Resting). r.limit) part.is;
              rests_on = (resting_left-parts orders past (suc p) h.index part.some).0;
              others = λ y inside of r ne.
                  let c = held.each y inside of (resting_left-is orders past (suc p) y r).1 in
                  elim (Contains-cases h zs (resting_with_amount orders amount y) c) [
                    | inl e ↦ absurd (ne (sym (ap (λ (r : Resting). r.index) e)))
                    | inr later ↦
                        let ahead : IsAheadInBook (other_side s) h (resting_with_amount orders amount y) = All-contains (IsAheadInBook (other_side s) h) zs (resting_with_amount orders amount y) (AllPairs-head (IsAheadInBook (other_side s)) h zs held.ranked) later in
                        ahead-better orders list (other_side s) h.index y (amount h.index) (amount y) part.inside inside part.of_side of (subst (λ (r : Resting). IsAheadInBook (other_side s) r (resting_with_amount orders amount y)) part.is ahead)
                  ];
            }

        first-of : (zs : List Resting) → ys ≡ zs → (y : ℕ) → y < length orders → side_at orders y ≡ other_side s → rests_before_in_ledger orders past (suc p) y ≡ true → limits_meet s (limit_at orders n) (limit_at orders y) ≡ true
            → meets_first s (limit_at orders n) (best_resting zs) ≡ true
        first-of [] e y inside of r m =
            let held : IsListOfAmounts orders (other_side s) amount [] = subst (IsListOfAmounts orders (other_side s) amount) e holds in
            let lt = (held.each y inside of (resting_left-is orders past (suc p) y r).1).1 in
            absurd (omega arith)
        first-of (h ∷ zs) e y inside of r m =
            let f = first-is h zs (subst (IsListOfAmounts orders (other_side s) amount) e holds) in
            let here : limits_meet s (limit_at orders n) (limit_at orders h.index) ≡ true = elim (cases_eq y h.index) [
              | inl same ↦ subst (λ k. limits_meet s (limit_at orders n) (limit_at orders k) ≡ true) same m
              | inr ne ↦ meets-twice s (limit_at orders n) (limit_at orders h.index) (better-meets (other_side s) (order_at orders h.index) (order_at orders y) (limit_at orders n) f.of_side (f.others y inside of r ne)
                  (meets-back s (limit_at orders n) (limit_at orders y) m))
            ] in
            subst (λ l. limits_meet s (limit_at orders n) l ≡ true) (sym f.limit_is) here

        -- the order of the record is active and meets the first h
        module _ (h : Resting) (zs : List Resting) (e : ys ≡ h ∷ zs) (t : is_active_after_own orders past n ≡ true) (m : limits_meet s (limit_at orders n) h.limit ≡ true) where
          f : IsFirst h
          f = first-is h zs (subst (IsListOfAmounts orders (other_side s) amount) e holds)

          met-first : Met s n h.index
          met-first = record {
            x_inside = n_inside;
            y_inside = f.inside;
            x_side = n_side;
            y_side = f.of_side;
            x_active = active-now t;
            y_active = rests-active h.index f.rests_on;
            meet = subst (λ l. limits_meet s (limit_at orders n) l ≡ true) f.limit_is m;
          }

          on-side : (side : Side) (x : ℕ) → active_after_on_side orders deals p side x ≡ true → (side_at orders x ≡ side) × (active_after_in_ledger orders past p x ≡ true)
          on-side side x u = let parts = and_parts (same_side side (side_at orders x)) (active_after_in_ledger orders past p x) u in (same_side-is side _ parts.0, parts.1)

          best-own : best_order orders (active_after_on_side orders deals p s) ≡ Some n
          best-own = is-best orders list (active_after_on_side orders deals p s) s (λ x lt u. (on-side s x u).0) n (record {
            inside = n_inside;
            passes = and_from _ _ (is-same_side s _ (sym n_side)) (active-now t);
            none_better = λ x lt u over. elim (cases_eq x n) [
              | inl same ↦ Better-strict orders n (subst (λ k. Better orders k n) same over)
              | inr ne ↦
                  let is = on-side s x u in
                  let both = others-rest x lt ne is.1 in
                  let h-rests = others-rest h.index f.inside (other-apart h.index f.of_side) (rests-active h.index f.rests_on) in
                  rest-apart x h.index s lt f.inside is.0 f.of_side both.1 h-rests.1 (better-meets s (order_at orders x) (order_at orders n) (limit_at orders h.index) is.0 over met-first.meet)
            ];
          })

          best-other : best_order orders (active_after_on_side orders deals p (other_side s)) ≡ Some h.index
          best-other = is-best orders list (active_after_on_side orders deals p (other_side s)) (other_side s) (λ x lt u. (on-side (other_side s) x u).0) h.index (record {
            inside = f.inside;
            passes = and_from _ _ (is-same_side (other_side s) _ (sym f.of_side)) (rests-active h.index f.rests_on);
            none_better = λ x lt u over. elim (cases_eq x h.index) [
              | inl same ↦ Better-strict orders h.index (subst (λ k. Better orders k h.index) same over)
              | inr ne ↦
                  let is = on-side (other_side s) x u in
                  Better-one_way orders h.index x (f.others x lt is.0 (others-rest x lt (other-apart x is.0) is.1).0 ne) over
            ];
          })

          shown : (side : Side) → best_order orders (active_after_on_side orders deals p side) ≡ Some n → best_order orders (active_after_on_side orders deals p (other_side side)) ≡ Some h.index
              → spread_finding orders deals p ≡ Some (finding_at_record property.Spread which.Orders p (show_if_found orders (traded_shown_after orders deals p) (Some (bid_of_two side n h.index))) (show_if_found orders (traded_shown_after orders deals p) (Some (ask_of_two side n h.index))))
          unfolding spread_finding
          shown Buy own other = rw (crossing-meets (bid_of_two s n h.index) (ask_of_two s n h.index) (from-met s n h.index met-first), own, other) refl
          shown Sell own other = rw (crossing-meets (bid_of_two s n h.index) (ask_of_two s n h.index) (from-met s n h.index met-first), own, other) refl

          pub spread-shown : spread_finding orders deals p ≡ Some (finding_at_record property.Spread which.Orders p (show_if_found orders (traded_shown_after orders deals p) (Some (bid_of_two s n h.index))) (show_if_found orders (traded_shown_after orders deals p) (Some (ask_of_two s n h.index))))
          spread-shown = shown s best-own best-other

        -- the order of the record isn't active or meets not the first: no two orders meet
        module _ (clear : (is_active_after_own orders past n && meets_first s (limit_at orders n) (best_resting ys)) ≡ false) where
          none-met : (x y : ℕ) → Met s x y → ⊥
          none-met x y m =
              let here = met-here x y m in
              let t : is_active_after_own orders past n ≡ true = now-active (subst (λ k. active_after_in_ledger orders past p k ≡ true) here.0 m.x_active) in
              let meet = first-of ys refl y m.y_inside m.y_side here.1 (subst (λ k. limits_meet s (limit_at orders k) (limit_at orders y) ≡ true) here.0 m.meet) in
              both_ways _ clear (and_from _ _ t meet)

          pub spread-clear : spread_finding orders deals p ≡ None
          unfolding spread_finding
          spread-clear = none-only _ _ (false_from_ne_true _ (λ u. let c = crossing-found u in none-met (bid_of_two s c.0 c.1) (ask_of_two s c.0 c.1) (to-met s c.0 c.1 c.2)))

          pub apart-after : IsUncrossedBefore orders past (suc p)
          apart-after b a hb ha buys sells rb ra = elim (cases_lt (limit_at orders b) (limit_at orders a)) [
            | inl lt ↦ lt
            | inr le ↦ absurd (none-met (bid_of_two s b a) (ask_of_two s b a) (to-met s b a (record { bid_inside = hb; ask_inside = ha; buys = buys; sells = sells; bid_active = rests-active b rb; ask_active = rests-active a ra; meet = le })))
          ]
