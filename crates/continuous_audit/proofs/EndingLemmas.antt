-- The books without the orders that are ended before a place.
use Rattle.std.proofs.Common.{◌≡◌, ◌≢◌, ◌<◌, ◌≤◌, ◌+◌, ℕ, zero, suc, List, [], ◌∷◌, length, Bool, true, false, cond, Option, Some, None, refl, sym, ap, ◌∙◌, arith, inl, inr, subst, All, get_or, is_lt, IsPermutation, IsSorted, add-one}
use Rattle.std.specs.Prelude.{nat_le, ◌==◌, ◌&&◌, ◌||◌, Contains}
use Rattle.std.specs.Cmp.{IsStrictWeakOrder}
use Rattle.std.proofs.lemmas.Bool.{cases_Bool, cases_eq, cases_lt, both_ways, eq-eqb, ne_eqb, eqb-true, le-leb, leb-true, and_parts, and_from, and_left, and_right, or_right, cond-true, cond-false, false_from_ne_true}
use Rattle.std.proofs.lemmas.Bool.Decides.{nat_tests}
use Rattle.std.proofs.lemmas.Cmp.{nat_cmp_total, on_total, then_total}
use Rattle.std.proofs.lemmas.List.Elements.{All-nil, All-append, All-cons, Contains-append_left, Contains-append_right}
use Rattle.std.proofs.lemmas.List.Sorted.{All-permutation, Contains-permutation, sorted_far, ranks_by}
use Rattle.audit_base.specs.declared.terms.Side.{Side}
use Rattle.audit_base.specs.declared.terms.Side.TheVariants.{Buy, Sell}
use Rattle.audit_base.specs.declared.orders.Order.{Order}
use Rattle.audit_base.specs.Orders.{order_at, side_at, limit_at}
use Rattle.audit_base.specs.Continuous.{uncancelled_before}
use Rattle.audit_base.proofs.SumLemmas.{Contains-front}
use Rattle.audit_base.proofs.OrderLemmas.{not_both_sides}
use Rattle.audit_base.proofs.LeastLemmas.{any-at, any-none, cases_Option}
use Rattle.audit_base.proofs.OffenceLemmas.{get_or-default}
use Rattle.audit_base.specs.Priority.{better_limit}
use Rattle.order_book.specs.declared.books.Resting.{Resting}
use Rattle.order_book.specs.Books.{BookSide, has_index_and_limit, book_with_order, with_order, without_order}
use Rattle.continuous_audit.specs.declared.endings.OrderEnd.{OrderEnd}
use Rattle.continuous_audit.specs.declared.books.Books.{Books}
use Rattle.continuous_audit.specs.Books.{AreBooksOfAmounts, books_without_order, resting_count}
use Rattle.continuous_audit.specs.Endings.{AreEndings, IsEnding, amount_without, ending_at, ending_cmp, endings_of, endings_below, ending_index_at, is_ended_between, ending_past_end, ending_place_at}
use Rattle.continuous_audit.proofs.HoldLemmas.{hold-same, hold-without}

-- the books without one order
module _ (orders : List Order) (amount amount' : ℕ → ℕ) (j : ℕ) (none : amount' j ≡ 0) (same : (k : ℕ) → k ≢ j → amount' k ≡ amount k) where
  without-one : (s : Side) → side_at orders j ≡ s → (b : Books) → AreBooksOfAmounts orders amount b → AreBooksOfAmounts orders amount' (books_without_order s j (limit_at orders j) b)
  without-one Buy e b h = record {
    bid_side = h.bid_side;
    ask_side = h.ask_side;
    bids = hold-without orders Buy amount amount' j (λ k lt of ne. same k ne) b.bids.resting h.bids none;
    asks = hold-same orders Sell amount amount' b.asks.resting (λ k lt of. same k (λ at. not_both_sides (sym e ∙ ap (side_at orders) (sym at) ∙ of))) h.asks;
  }
  without-one Sell e b h = record {
    bid_side = h.bid_side;
    ask_side = h.ask_side;
    bids = hold-same orders Buy amount amount' b.bids.resting (λ k lt of. same k (λ at. not_both_sides (sym of ∙ ap (side_at orders) at ∙ e))) h.bids;
    asks = hold-without orders Sell amount amount' j (λ k lt of ne. same k ne) b.asks.resting h.asks none;
  }

pub hold-amounts : (orders : List Order) (amount amount' : ℕ → ℕ) (b : Books) → ((k : ℕ) → k < length orders → amount' k ≡ amount k) → AreBooksOfAmounts orders amount b → AreBooksOfAmounts orders amount' b
hold-amounts orders amount amount' b same h = record {
  bid_side = h.bid_side;
  ask_side = h.ask_side;
  bids = hold-same orders Buy amount amount' b.bids.resting (λ k lt of. same k lt) h.bids;
  asks = hold-same orders Sell amount amount' b.asks.resting (λ k lt of. same k lt) h.asks;
}

-- from the first on, before any
pub standing-first : (orders : List Order) (endings : List OrderEnd) (from : ℕ) (amount : ℕ → ℕ) (b : Books) → AreBooksOfAmounts orders amount b → AreBooksOfAmounts orders (amount_without endings from from amount) b
standing-first orders endings from amount b h = hold-amounts orders amount (amount_without endings from from amount) b (λ k lt. cond-false (is_ended_between endings from from k) 0 (amount k) (any-none (λ i. nat_le from i && (ending_index_at endings i == k)) from (λ i below.
    and_left (nat_le from i) (ending_index_at endings i == k) (false_from_ne_true _ (λ t. let le = leb-true from i t in omega arith))))) h

-- one further
pub standing-more : (orders : List Order) (endings : List OrderEnd) (from at : ℕ) (amount : ℕ → ℕ) (b : Books) → from ≤ at → AreBooksOfAmounts orders (amount_without endings from at amount) b
    → AreBooksOfAmounts orders (amount_without endings from (suc at) amount) (books_without_order (side_at orders (ending_index_at endings at)) (ending_index_at endings at) (limit_at orders (ending_index_at endings at)) b)
standing-more orders endings from at amount b le h =
    let j = ending_index_at endings at in
    let reached : nat_le from at ≡ true = le-leb from at le in
    without-one orders (amount_without endings from at amount) (amount_without endings from (suc at) amount) j
    (cond-true (is_ended_between endings from (suc at) j) 0 (amount j) (or_right (is_ended_between endings from at j) (nat_le from at && (j == j)) (and_from _ _ reached (eq-eqb j j refl))))
    (λ k ne.
    let off : (nat_le from at && (j == k)) ≡ false = and_right (nat_le from at) (j == k) (ne_eqb j k (λ e. ne (sym e))) in
    ap (λ (t : Bool). cond t 0 (amount k)) (or-off (is_ended_between endings from at k) (nat_le from at && (j == k)) off))
    (side_at orders j) refl b h
  where
    or-off : (a b : Bool) → b ≡ false → (a || b) ≡ a
    or-off true b e = refl
    or-off false b e = e

-- the same, in the words of the code
pub standing-read : (orders : List Order) (endings : List OrderEnd) (from at : ℕ) (amount : ℕ → ℕ) (b after : Books) (o : Order) → from ≤ at → ending_index_at endings at < length orders → o ≡ order_at orders (ending_index_at endings at)
    → after ≡ books_without_order o.side (ending_index_at endings at) o.limit b → AreBooksOfAmounts orders (amount_without endings from at amount) b → AreBooksOfAmounts orders (amount_without endings from (at + 1) amount) after
standing-read orders endings from at amount b after o le inside here e h =
    let same : after ≡ books_without_order (side_at orders (ending_index_at endings at)) (ending_index_at endings at) (limit_at orders (ending_index_at endings at)) b = e ∙ ap (λ (x : Order). books_without_order x.side (ending_index_at endings at) x.limit b) here in
    subst (λ (n : ℕ). AreBooksOfAmounts orders (amount_without endings from n amount) after) (sym (add-one at)) (subst (AreBooksOfAmounts orders (amount_without endings from (suc at) amount)) (sym same) (standing-more orders endings from at amount b le h))

-- All that are ended, sorted.

module _ (orders : List Order) where
  ending-is : (i : ℕ) (c : Option ℕ) → i < length orders → (order_at orders i).cancelled ≡ c → All (IsEnding orders) (ending_at i c)
  ending-is i None lt e = All-nil (IsEnding orders)
  ending-is i (Some place) lt e = All-cons (IsEnding orders) (record { place = place; index = i }) [] (record { inside = lt; is = e }) (All-nil (IsEnding orders))

  upto-only : (n : ℕ) → n ≤ length orders → All (IsEnding orders) (endings_below orders n)
  upto-only zero le = All-nil (IsEnding orders)
  upto-only (suc n) le = All-append (IsEnding orders) (endings_below orders n) (endings_of n (order_at orders n)) (upto-only n (omega arith)) (ending-is n (order_at orders n).cancelled (omega arith) refl)

  upto-each : (n k c : ℕ) → k < n → (order_at orders k).cancelled ≡ Some c → Contains (endings_below orders n) (record { place = c; index = k })
  upto-each zero k c lt e = absurd (omega arith)
  upto-each (suc n) k c lt e = elim (cases_eq k n) [
    | inl same ↦
        let is : endings_of n (order_at orders n) ≡ record { place = c; index = k } ∷ [] = ap (ending_at n) (ap (λ (j : ℕ). (order_at orders j).cancelled) (sym same) ∙ e) ∙ ap (λ (j : ℕ). record { place = c; index = j } ∷ []) (sym same) in
        Contains-append_right (endings_below orders n) (endings_of n (order_at orders n)) (record { place = c; index = k }) (subst (λ (xs : List OrderEnd). Contains xs (record { place = c; index = k })) (sym is) (Contains-front (record { place = c; index = k }) []))
    | inr ne ↦ Contains-append_left (endings_below orders n) (endings_of n (order_at orders n)) (record { place = c; index = k }) (upto-each n k c (omega (arith, ne)) e)
  ]

  weak : IsStrictWeakOrder (λ (a b : OrderEnd). is_lt (ending_cmp a b))
  weak = ranks_by (then_total (on_total (λ (e : OrderEnd). e.place) nat_cmp_total) (on_total (λ (e : OrderEnd). e.index) nat_cmp_total)) (λ (e : OrderEnd). e)

  pub are-endings : (endings : List OrderEnd) → IsPermutation (endings_below orders (length orders)) endings → IsSorted ending_cmp endings → AreEndings orders endings
  are-endings endings moved in_order = record {
    only = All-permutation (IsEnding orders) (endings_below orders (length orders)) endings moved (upto-only (length orders) (omega arith));
    each = λ k c lt e. Contains-permutation (endings_below orders (length orders)) endings (record { place = c; index = k }) moved (upto-each (length orders) k c lt e);
    rising = λ i j d lt below. not-above (get_or endings i d) (get_or endings j d) (sorted_far (λ (a b : OrderEnd). is_lt (ending_cmp a b)) weak endings in_order i j d (omega arith) below);
  }
    where
      not-above : (a b : OrderEnd) → is_lt (ending_cmp b a) ≡ false → a.place ≤ b.place
      not-above a b h = elim (cases_lt b.place a.place) [
        | inr le ↦ le
        | inl lt ↦ let t : is_lt (ending_cmp b a) ≡ true = grind (arith, nat_tests) in absurd (both_ways _ h t)
      ]

  -- from the first that is ended at p or later, up to the first that is ended at q or later: what
  -- no record below q ends
  module _ (endings : List OrderEnd) (are : AreEndings orders endings) (from at p q : ℕ) (amount : ℕ → ℕ) where
    later : (i j : ℕ) → i ≤ j → j < length endings → ending_place_at endings i ≤ ending_place_at endings j
    later i j le below = elim (cases_eq i j) [
      | inl e ↦ let same : ending_place_at endings i ≡ ending_place_at endings j = ap (ending_place_at endings) e in omega arith
      | inr ne ↦ are.rising i j ending_past_end (omega (arith, ne)) below
    ]

    pub standing-is : ((i : ℕ) → i < from → i < length endings → ending_place_at endings i < p) → ((i : ℕ) → from ≤ i → i < at → ending_place_at endings i < q) → at ≤ length endings → (at < length endings → q ≤ ending_place_at endings at)
        → ((k : ℕ) → k < length orders → uncancelled_before (order_at orders k).cancelled p ≡ false → amount k ≡ 0)
        → (k : ℕ) → k < length orders → amount_without endings from at amount k ≡ cond (uncancelled_before (order_at orders k).cancelled q) (amount k) 0
    standing-is early between whole next gone k inside = elim (cases_Option (order_at orders k).cancelled) [
      | inl free ↦
          let stays : is_ended_between endings from at k ≡ false = any-none (λ i. nat_le from i && (ending_index_at endings i == k)) at (λ i below. false_from_ne_true _ (λ t.
          let parts = and_parts (nat_le from i) (ending_index_at endings i == k) t in
          let ending = are.only i ending_past_end (omega arith) in
          let index : ending_index_at endings i ≡ k = eqb-true _ _ parts.1 in
          let some : (order_at orders k).cancelled ≡ Some (ending_place_at endings i) = ap (λ (j : ℕ). (order_at orders j).cancelled) (sym index) ∙ ending.is in
          absurd (cc))) in
          cond-false (is_ended_between endings from at k) 0 (amount k) stays ∙ sym (ap (λ (c : Option ℕ). cond (uncancelled_before c q) (amount k) 0) free)
      | inr ends ↦
          let c = ends.0 in
          let e : (order_at orders k).cancelled ≡ Some c = ends.1 in
          elim (cases_lt c q) [
            | inl before ↦
                let off : uncancelled_before (order_at orders k).cancelled q ≡ false = ap (λ (o : Option ℕ). uncancelled_before o q) e ∙ false_from_ne_true _ (λ t. let le = leb-true q c t in omega arith) in
                let nothing : cond (uncancelled_before (order_at orders k).cancelled q) (amount k) 0 ≡ 0 = cond-false _ (amount k) 0 off in
                let has = are.each k c inside e in
                let i = has.0 in
                let here : get_or endings i ending_past_end ≡ record { place = c; index = k } = get_or-default endings i ending_past_end (record { place = c; index = k }) has.1 ∙ has.2 in
                let place_is : ending_place_at endings i ≡ c = ap (λ (x : OrderEnd). x.place) here in
                let index_is : ending_index_at endings i ≡ k = ap (λ (x : OrderEnd). x.index) here in
                let below : i < at = elim (cases_lt i at) [
                  | inl lt ↦ lt
                  | inr ge ↦ let in_list = has.1 in let far = next (omega arith) in let up = later at i ge has.1 in absurd (omega arith)
                ] in
                elim (cases_lt i from) [
                  | inl old ↦
                      let early_place = early i old has.1 in
                      let was : uncancelled_before (order_at orders k).cancelled p ≡ false = ap (λ (o : Option ℕ). uncancelled_before o p) e ∙ false_from_ne_true _ (λ t. let le = leb-true p c t in omega arith) in
                      let z = gone k inside was in
                      both_zero (is_ended_between endings from at k) (amount k) z ∙ sym nothing
                  | inr new ↦
                      let t : is_ended_between endings from at k ≡ true = any-at (λ i. nat_le from i && (ending_index_at endings i == k)) at i below (and_from _ _ (le-leb from i new) (eq-eqb _ _ index_is)) in
                      cond-true (is_ended_between endings from at k) 0 (amount k) t ∙ sym nothing
                ]
            | inr after ↦
                let on : uncancelled_before (order_at orders k).cancelled q ≡ true = ap (λ (o : Option ℕ). uncancelled_before o q) e ∙ le-leb q c after in
                let stays : is_ended_between endings from at k ≡ false = any-none (λ i. nat_le from i && (ending_index_at endings i == k)) at (λ i below. false_from_ne_true _ (λ t.
                let parts = and_parts (nat_le from i) (ending_index_at endings i == k) t in
                let ending = are.only i ending_past_end (omega arith) in
                let index : ending_index_at endings i ≡ k = eqb-true _ _ parts.1 in
                let some : Some c ≡ Some (ending_place_at endings i) = sym e ∙ ap (λ (j : ℕ). (order_at orders j).cancelled) (sym index) ∙ ending.is in
                let same : c ≡ ending_place_at endings i = cc in
                let early_place = between i (leb-true from i parts.0) below in
                omega arith)) in
                cond-false (is_ended_between endings from at k) 0 (amount k) stays ∙ sym (cond-true _ (amount k) 0 on)
          ]
    ]
      where
        both_zero : (b : Bool) (m : ℕ) → m ≡ 0 → cond b 0 m ≡ 0
        both_zero true m e = refl
        both_zero false m e = e

-- taking one out leaves no more
shorter-without : (i l : ℕ) (xs : List Resting) → length (without_order i l xs) ≤ length xs
shorter-without i l [] = omega arith
shorter-without i l (x ∷ xs) = elim (cases_Bool (has_index_and_limit i l x)) [
  | inl t ↦ rw t (omega arith)
  | inr f ↦ rw f (omega (arith, shorter-without i l xs))
]

pub fewer-without : (side : Side) (i l : ℕ) (b : Books) → resting_count (books_without_order side i l b) ≤ resting_count b
fewer-without Buy i l b = omega (arith, shorter-without i l b.bids.resting)
fewer-without Sell i l b = omega (arith, shorter-without i l b.asks.resting)

-- the same, in the words of the code
pub fewer-read : (side : Side) (i l : ℕ) (old new : Books) → new ≡ books_without_order side i l old → resting_count new ≤ resting_count old
fewer-read side i l old new e = subst (λ (b : Books). resting_count b ≤ resting_count old) (sym e) (fewer-without side i l old)

-- one more is one more
longer-with : (side : Side) (r : Resting) (xs : List Resting) → length (with_order side r xs) ≡ length xs + 1
longer-with side r [] = refl
longer-with side r (x ∷ xs) = elim (cases_Bool (better_limit side r.limit x.limit)) [
  | inl t ↦ rw t (omega arith)
  | inr f ↦ rw f (omega (arith, longer-with side r xs))
]

pub longer-added : (old new : BookSide) (index limit left : ℕ) → new ≡ book_with_order old index limit left → length new.resting ≡ length old.resting + 1
longer-added old new index limit left e = ap (λ (b : BookSide). length b.resting) e ∙ longer-with old.side (record { index = index; limit = limit; left = left }) old.resting
