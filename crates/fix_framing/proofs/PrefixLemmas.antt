-- Prefixes of texts.
use Rattle.std.proofs.Common.{◌≡◌, ℕ, ◌≤◌, Bool, true, false, List, ◌++◌, length, take, drop, refl, sym, ap, ◌∙◌}
use Rattle.std.specs.Prelude.{nat_eq}
use Rattle.std.specs.List.{starts_with}
use Rattle.std.proofs.lemmas.List.{take-append-drop, take_at, drop_all, append-nil, take-append-le}
use Rattle.std.proofs.lemmas.Bool.Decides.{Decides-eqb}
use Rattle.std.proofs.lemmas.Slice.Eq.{starts_is}

pub split-at : (s p : List ℕ) → starts_with nat_eq s p ≡ true → s ≡ p ++ drop (length p) s
split-at s p is = (starts_is Decides-eqb s p (starts_with nat_eq s p) refl).0 is

pub starts-so : (s p rest : List ℕ) → s ≡ p ++ rest → starts_with nat_eq s p ≡ true
starts-so s p rest whole = (starts_is Decides-eqb s p (starts_with nat_eq s p) refl).1 rest whole

pub false-from : (b : Bool) → (b ≡ true → ⊥) → b ≡ false
false-from true never = absurd (never refl)
false-from false never = refl

-- of two prefixes of a text the shorter is a prefix of the longer
pub shorter-prefix : (p q x y : List ℕ) → p ++ x ≡ q ++ y → length p ≤ length q → starts_with nat_eq q p ≡ true
shorter-prefix p q x y same short =
    let front : p ≡ take (length p) q = sym (take_at p x (length p) refl) ∙ (ap (λ xs. take (length p) xs) same ∙ take-append-le (length p) q y short) in
    let part : q ≡ p ++ drop (length p) q = sym (take-append-drop (length p) q) ∙ ap (λ xs. xs ++ drop (length p) q) (sym front) in
    starts-so q p (drop (length p) q) part

-- a prefix that is as long is the whole
pub equal-prefix : (p q : List ℕ) → starts_with nat_eq q p ≡ true → length q ≤ length p → q ≡ p
equal-prefix p q starts long =
    let split = split-at q p starts in
    let none = drop_all (length p) q long in
    split ∙ (ap (λ xs. p ++ xs) none ∙ append-nil p)
