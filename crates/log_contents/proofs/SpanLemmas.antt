-- The least and the greatest of some times: one time more.
use Rattle.std.proofs.Common.{◌≡◌, ◌≢◌, ℕ, ◌<◌, ◌≤◌, List, [], ◌∷◌, ◌++◌, Bool, true, false, cond, refl, sym, ap, subst, ◌∙◌, inl, inr, arith, ◌||◌, ◌&&◌}
use Rattle.std.specs.Prelude.{◌⊎◌, All, Contains, nat_eq, nat_lt}
use Rattle.std.proofs.lemmas.Bool.{and_cases, and_parts, and_right, cases_order, eqb-false, eqb-true, le-ltb, ltb-false, ltb-true, ne_eqb, or_cases}
use Rattle.std.proofs.lemmas.List.Elements.{All-append, All-cons, All-contains_itself, All-head, All-nil, All-weaker, Contains-append_left, Contains-append_right}
use Rattle.audit_base.specs.Moments.{Moment, is_before}
use Rattle.log_contents.specs.Facts.{IsSpanOf, earlier_of, later_of}
use Rattle.log_contents.specs.declared.time_spans.TimeSpan.{TimeSpan}

-- one moment is at another or after it
abbrev IsFrom : Moment → Moment → Type 0
IsFrom a b = (b.second < a.second) ⊎ ((a.second ≡ b.second) × (b.nano ≤ a.nano))

-- one moment is before another
abbrev IsBefore : Moment → Moment → Type 0
IsBefore a b = (a.second < b.second) ⊎ ((a.second ≡ b.second) × (a.nano < b.nano))

before-says : (a b : Moment) → is_before a b ≡ true → IsBefore a b
before-says a b is = elim (or_cases (nat_lt a.second b.second) (nat_eq a.second b.second && nat_lt a.nano b.nano) is) [
  | inl less ↦ inl (ltb-true a.second b.second less)
  | inr same ↦ let both = and_parts (nat_eq a.second b.second) (nat_lt a.nano b.nano) same in
      inr (eqb-true a.second b.second both.0, ltb-true a.nano b.nano both.1)
]

or-parts : (x y : Bool) → (x || y) ≡ false → (x ≡ false) × (y ≡ false)
or-parts true y is = absurd (cc is)
or-parts false y is = (refl, is)

from-says : (a b : Moment) → is_before a b ≡ false → IsFrom a b
from-says a b is =
    let parts = or-parts (nat_lt a.second b.second) (nat_eq a.second b.second && nat_lt a.nano b.nano) is in
    let not_less = ltb-false a.second b.second parts.0 in
    elim (and_cases (nat_eq a.second b.second) (nat_lt a.nano b.nano) parts.1) [
      | inl other ↦ from-apart a b not_less (eqb-false a.second b.second other)
      | inr high ↦ from-high a b not_less (ltb-false a.nano b.nano high)
    ]
  where
    from-apart : (a b : Moment) → b.second ≤ a.second → (a.second ≡ b.second → ⊥) → IsFrom a b
    from-apart a b le apart = elim (cases_order a.second b.second) [
      | inl same ↦ absurd (apart same)
      | inr (inl less) ↦ absurd (omega (arith, less, le))
      | inr (inr more) ↦ inl more
    ]

    from-high : (a b : Moment) → b.second ≤ a.second → b.nano ≤ a.nano → IsFrom a b
    from-high a b le high = elim (cases_order a.second b.second) [
      | inl same ↦ inr (same, high)
      | inr (inl less) ↦ absurd (omega (arith, less, le))
      | inr (inr more) ↦ inl more
    ]

says-from : (a b : Moment) → IsFrom a b → is_before a b ≡ false
says-from a b (inl less) =
    let not_less = le-ltb a.second b.second (omega (arith, less)) in
    let other = ne_eqb a.second b.second (λ same. omega (arith, less, same)) in rw (not_less, other) refl
says-from a b (inr same) =
    let e = same.0 in
    let not_less = le-ltb a.second b.second (omega (arith, e)) in
    let high = le-ltb a.nano b.nano same.1 in rw not_less (and_right (nat_eq a.second b.second) (nat_lt a.nano b.nano) high)

-- what is from a moment on is from each earlier one on
from-earlier : (u a b : Moment) → is_before u a ≡ false → is_before b a ≡ true → is_before u b ≡ false
from-earlier u a b from before = says-from u b (by (from-says u a from) (before-says b a before))
  where
    by : IsFrom u a → IsBefore b a → IsFrom u b
    by (inl x) (inl y) = inl (omega (arith, x, y))
    by (inl x) (inr y) = let e = y.0 in inl (omega (arith, x, e))
    by (inr x) (inl y) = let e = x.0 in inl (omega (arith, e, y))
    by (inr x) (inr y) = let e = x.0 in let f = y.0 in let m = x.1 in let n = y.1 in inr (omega (arith, e, f), omega (arith, m, n))

from-later : (u a b : Moment) → is_before a u ≡ false → is_before a b ≡ true → is_before b u ≡ false
from-later u a b from before = says-from b u (by (from-says a u from) (before-says a b before))
  where
    by : IsFrom a u → IsBefore a b → IsFrom b u
    by (inl x) (inl y) = inl (omega (arith, x, y))
    by (inl x) (inr y) = let e = y.0 in inl (omega (arith, x, e))
    by (inr x) (inl y) = let e = x.0 in inl (omega (arith, e, y))
    by (inr x) (inr y) = let e = x.0 in let f = y.0 in let m = x.1 in let n = y.1 in inr (omega (arith, e, f), omega (arith, m, n))

-- no moment is before itself
never-self : (a : Moment) → is_before a a ≡ false
never-self a = says-from a a (inr (refl, omega arith))

-- the one member of a list
has-last : (times : List Moment) (time : Moment) → Contains (times ++ time ∷ []) time
has-last times time = Contains-append_right times (time ∷ []) time (All-head (Contains (time ∷ [])) time [] (All-contains_itself (time ∷ [])))

module _ (times : List Moment) (time : Moment) where
  first-has : (first : Moment) (b : Bool) → Contains times first → Contains (times ++ time ∷ []) (cond b time first)
  first-has first true has = has-last times time
  first-has first false has = Contains-append_left times (time ∷ []) first has

  all-more : (P : Moment → Type 0) → All P times → P time → All P (times ++ time ∷ [])
  all-more P all one = All-append P times (time ∷ []) all (All-cons P time [] one (All-nil P))

  first-least : (first : Moment) (b : Bool) → is_before time first ≡ b → All (λ u. is_before u first ≡ false) times → All (λ u. is_before u (cond b time first) ≡ false) (times ++ time ∷ [])
  first-least first true is all =
      all-more (λ u. is_before u time ≡ false) (All-weaker (λ u. is_before u first ≡ false) (λ u. is_before u time ≡ false) (λ u from. from-earlier u first time from is) times all) (never-self time)
  first-least first false is all = all-more (λ u. is_before u first ≡ false) all is

  last-greatest : (last : Moment) (b : Bool) → is_before last time ≡ b → All (λ u. is_before last u ≡ false) times → All (λ u. is_before (cond b time last) u ≡ false) (times ++ time ∷ [])
  last-greatest last true is all =
      all-more (λ u. is_before time u ≡ false) (All-weaker (λ u. is_before last u ≡ false) (λ u. is_before time u ≡ false) (λ u from. from-later u last time from is) times all) (never-self time)
  last-greatest last false is all = all-more (λ u. is_before last u ≡ false) all is

  -- the span of some times and one more
  pub span-more : (span : TimeSpan) → IsSpanOf times span → IsSpanOf (times ++ time ∷ []) (record { first = earlier_of span.first time; last = later_of span.last time })
  span-more span is = record {
    has_first = first-has span.first (is_before time span.first) is.has_first;
    has_last = first-has span.last (is_before span.last time) is.has_last;
    none_before = first-least span.first (is_before time span.first) refl is.none_before;
    none_after = last-greatest span.last (is_before span.last time) refl is.none_after;
  }

-- the span of one time
pub span-one : (time : Moment) → IsSpanOf (time ∷ []) (record { first = time; last = time })
span-one time =
    let has : Contains (time ∷ []) time = has-last [] time in
    record {
      has_first = has;
      has_last = has;
      none_before = All-cons (λ u. is_before u time ≡ false) time [] (never-self time) (All-nil (λ u. is_before u time ≡ false));
      none_after = All-cons (λ u. is_before time u ≡ false) time [] (never-self time) (All-nil (λ u. is_before time u ≡ false));
    }
