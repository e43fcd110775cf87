-- Tests 1 and 2, by which headers the text begins with and which begin with the text.
use Rattle.std.proofs.Common.{◌≡◌, ℕ, ◌+◌, ◌<◌, ◌≤◌, Bool, true, false, cond, not, ◌||◌, zero, suc, Option, None, Some, inl, inr, List, [], ◌∷◌, length, map, get_or, drop, refl, sym, ap, ◌∙◌, arith}
use Rattle.std.specs.Prelude.{Contains, nat_eq, nat_lt}
use Rattle.std.specs.List.{list_any, position, position_or_len, starts_with}
use Rattle.std.proofs.lemmas.List.{append-nil}
use Rattle.std.proofs.lemmas.Bool.{and_from, or_parts, or_cases, or_left, or_right, or_from, not_from_true, not_from_false, lt-ltb, ltb-false, cases_lt}
use Rattle.std.proofs.lemmas.List.Quantifiers.{position-Some}
use Rattle.audit_base.proofs.SumLemmas.{Contains-front, Contains-behind}
use Rattle.fix_framing.specs.Headers.{header, fix44, AreHeaders, header_size, may_begin, is_cut_header}
use Rattle.fix_framing.specs.declared.frames.FrameFault.TheVariants.{Begin, Truncated}
use Rattle.fix_framing.specs.Frames.{has_bad_begin, ends_in_header, header_tests, first_failing}
use Rattle.fix_framing.proofs.TestLemmas.{first-none, first-false, first-true}
use Rattle.fix_framing.proofs.PrefixLemmas.{split-at, starts-so, equal-prefix}
use Rattle.fix_framing.proofs.HeaderLemmas.{length-header, fix44-headers, header_found, begins-header, begins-with, header_size-is, header-whole}

pub passed-header : (headers : List (List ℕ)) (r : List ℕ) → first_failing (header_tests headers r) ≡ None → header_found headers r
passed-header headers r none =
    let t1 = first-none (has_bad_begin headers r) Begin ((ends_in_header headers r, Truncated) ∷ []) none in
    let t2 = first-none (ends_in_header headers r) Truncated [] t1.1 in
    begins-header headers r t1.0 t2.0

pub tests-found : (headers : List (List ℕ)) (head r : List ℕ) → AreHeaders headers → Contains headers head → starts_with nat_eq r head ≡ true → first_failing (header_tests headers r) ≡ None
tests-found headers head r are known starts =
    let rest = drop (length head) r in
    let whole = split-at r head starts in
    first-false (has_bad_begin headers r) Begin ((ends_in_header headers r, Truncated) ∷ []) (begins-with headers head r rest known whole)
    ∙ first-false (ends_in_header headers r) Truncated [] (header-whole headers head r rest are known whole)

pub size-found : (headers : List (List ℕ)) (head r : List ℕ) → AreHeaders headers → Contains headers head → starts_with nat_eq r head ≡ true → header_size headers r ≡ length head
size-found headers head r are known starts = header_size-is headers head r (drop (length head) r) are known (split-at r head starts)

may-within : (headers : List (List ℕ)) (r : List ℕ) → list_any (λ head. starts_with nat_eq head r) headers ≡ true → list_any (may_begin r) headers ≡ true
may-within [] r within = absurd (cc)
may-within (head ∷ more) r within =
    elim (or_cases (starts_with nat_eq head r) (list_any (λ h. starts_with nat_eq h r) more) within) [
      | inl here ↦ or_left (may_begin r head) (list_any (may_begin r) more) (or_right (starts_with nat_eq r head) (starts_with nat_eq head r) here)
      | inr later ↦ or_right (may_begin r head) (list_any (may_begin r) more) (may-within more r later)
    ]

cut-within : (headers : List (List ℕ)) (r : List ℕ) → list_any (starts_with nat_eq r) headers ≡ false → list_any (λ head. starts_with nat_eq head r) headers ≡ true → list_any (is_cut_header r) headers ≡ true
cut-within [] r other within = absurd (cc)
cut-within (head ∷ more) r other within =
    let both = or_parts (starts_with nat_eq r head) (list_any (starts_with nat_eq r) more) other in
    elim (or_cases (starts_with nat_eq head r) (list_any (λ h. starts_with nat_eq h r) more) within) [
      | inl here ↦
          let cut : is_cut_header r head ≡ true = elim (cases_lt (length r) (length head)) [
            | inl short ↦ and_from (starts_with nat_eq head r) (nat_lt (length r) (length head)) here (lt-ltb (length r) (length head) short)
            | inr long ↦
                let same : head ≡ r = equal-prefix r head here long in
                cc (both.0, starts-so r head [] (sym same ∙ sym (append-nil head)))
          ] in
          or_left (is_cut_header r head) (list_any (is_cut_header r) more) cut
      | inr later ↦ or_right (is_cut_header r head) (list_any (is_cut_header r) more) (cut-within more r both.1 later)
    ]

pub tests-cut : (headers : List (List ℕ)) (r : List ℕ) → list_any (starts_with nat_eq r) headers ≡ false → list_any (λ head. starts_with nat_eq head r) headers ≡ true → first_failing (header_tests headers r) ≡ Some Truncated
tests-cut headers r other within =
    first-false (has_bad_begin headers r) Begin ((ends_in_header headers r, Truncated) ∷ []) (not_from_true (list_any (may_begin r) headers) (may-within headers r within))
    ∙ first-true (ends_in_header headers r) Truncated [] (cut-within headers r other within)

may-neither : (headers : List (List ℕ)) (r : List ℕ) → list_any (starts_with nat_eq r) headers ≡ false → list_any (λ head. starts_with nat_eq head r) headers ≡ false → list_any (may_begin r) headers ≡ false
may-neither [] r other none = refl
may-neither (head ∷ more) r other none =
    let starts = or_parts (starts_with nat_eq r head) (list_any (starts_with nat_eq r) more) other in
    let within = or_parts (starts_with nat_eq head r) (list_any (λ h. starts_with nat_eq h r) more) none in
    or_from (may_begin r head) (list_any (may_begin r) more) (or_from (starts_with nat_eq r head) (starts_with nat_eq head r) starts.0 within.0) (may-neither more r starts.1 within.1)

pub tests-other : (headers : List (List ℕ)) (r : List ℕ) → list_any (starts_with nat_eq r) headers ≡ false → list_any (λ head. starts_with nat_eq head r) headers ≡ false → first_failing (header_tests headers r) ≡ Some Begin
tests-other headers r other none =
    first-true (has_bad_begin headers r) Begin ((ends_in_header headers r, Truncated) ∷ []) (not_from_false (list_any (may_begin r) headers) (may-neither headers r other none))

-- the same for FIX 4.4
pub fix44-size : (r : List ℕ) → starts_with nat_eq r header ≡ true → 12 ≡ header_size fix44 r
fix44-size r starts = sym (size-found fix44 header r fix44-headers (Contains-front header []) starts ∙ length-header)

pub fix44-found : (r : List ℕ) → starts_with nat_eq r header ≡ true → None ≡ first_failing (header_tests fix44 r)
fix44-found r starts = sym (tests-found fix44 header r fix44-headers (Contains-front header []) starts)

pub fix44-cut : (r : List ℕ) → starts_with nat_eq r header ≡ false → starts_with nat_eq header r ≡ true → Some Truncated ≡ first_failing (header_tests fix44 r)
fix44-cut r other within = sym (tests-cut fix44 r (or_from (starts_with nat_eq r header) false other refl) (or_left (starts_with nat_eq header r) false within))

-- Headers that a list of other values has, as one of references to them.

pub any-of : {X : Type 0} (p : List ℕ → Bool) (f : X → List ℕ) (xs : List X) → list_any p (map f xs) ≡ list_any (λ x. p (f x)) xs
any-of p f [] = refl
any-of p f (x ∷ xs) = ap (λ (b : Bool). p (f x) || b) (any-of p f xs)

none-step : (b : Bool) (n m : ℕ) (more : Bool) → suc m ≤ cond (not b) (1 + n) 0 → (m ≤ n → more ≡ false) → (b || more) ≡ false
none-step true n m more high rest = absurd (omega arith)
none-step false n m more high rest = rest (omega arith)

none-from : {X : Type 0} (p : X → Bool) (xs : List X) → length xs ≤ position_or_len p xs → list_any p xs ≡ false
none-from p [] high = refl
none-from p (x ∷ xs) high = none-step (p x) (position_or_len p xs) (length xs) (list_any p xs) high (none-from p xs)

cond-none : (b : Bool) (k : ℕ) → cond {A = Option ℕ} b (Some k) None ≡ None → b ≡ false
cond-none true k none = absurd (cc)
cond-none false k none = refl

pub position-none : {X : Type 0} (p : X → Bool) (xs : List X) → position p xs ≡ None → list_any p xs ≡ false
position-none p xs none = none-from p xs (ltb-false (position_or_len p xs) (length xs) (cond-none (nat_lt (position_or_len p xs) (length xs)) (position_or_len p xs) none))

pub at-map : {X : Type 0} (f : X → List ℕ) (xs : List X) (k : ℕ) (d : X) → k < length xs → Contains (map f xs) (f (get_or xs k d))
at-map f [] k d inside = absurd (omega arith)
at-map f (x ∷ xs) zero d inside = Contains-front (f x) (map f xs)
at-map f (x ∷ xs) (suc k) d inside = Contains-behind (f x) (map f xs) (f (get_or xs k d)) (at-map f xs k d (omega arith))

pub among-size : {X : Type 0} (f : X → List ℕ) (xs : List X) (r : List ℕ) (k : ℕ) (d : X) → AreHeaders (map f xs) → position (λ x. starts_with nat_eq r (f x)) xs ≡ Some k → length (f (get_or xs k d)) ≡ header_size (map f xs) r
among-size f xs r k d are found =
    let here = position-Some (λ x. starts_with nat_eq r (f x)) xs k d found in
    sym (size-found (map f xs) (f (get_or xs k d)) r are (at-map f xs k d here.0) here.1)

pub among-found : {X : Type 0} (f : X → List ℕ) (xs : List X) (r : List ℕ) (k : ℕ) (d : X) → AreHeaders (map f xs) → position (λ x. starts_with nat_eq r (f x)) xs ≡ Some k → None ≡ first_failing (header_tests (map f xs) r)
among-found f xs r k d are found =
    let here = position-Some (λ x. starts_with nat_eq r (f x)) xs k d found in
    sym (tests-found (map f xs) (f (get_or xs k d)) r are (at-map f xs k d here.0) here.1)

pub among-cut : {X : Type 0} (f : X → List ℕ) (xs : List X) (r : List ℕ) → position (λ x. starts_with nat_eq r (f x)) xs ≡ None → list_any (λ x. starts_with nat_eq (f x) r) xs ≡ true → Some Truncated ≡ first_failing (header_tests (map f xs) r)
among-cut f xs r none within =
    sym (tests-cut (map f xs) r (any-of (starts_with nat_eq r) f xs ∙ position-none (λ x. starts_with nat_eq r (f x)) xs none) (any-of (λ head. starts_with nat_eq head r) f xs ∙ within))

pub among-other : {X : Type 0} (f : X → List ℕ) (xs : List X) (r : List ℕ) → position (λ x. starts_with nat_eq r (f x)) xs ≡ None → list_any (λ x. starts_with nat_eq (f x) r) xs ≡ false → Some Begin ≡ first_failing (header_tests (map f xs) r)
among-other f xs r none within =
    sym (tests-other (map f xs) r (any-of (starts_with nat_eq r) f xs ∙ position-none (λ x. starts_with nat_eq r (f x)) xs none) (any-of (λ head. starts_with nat_eq head r) f xs ∙ within))
