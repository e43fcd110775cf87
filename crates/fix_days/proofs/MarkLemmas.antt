-- The mark that a day begins with.
use Rattle.std.proofs.Common.{◌≡◌, ℕ, ◌<◌, ◌≤◌, Bool, true, false, cond, List, [], ◌∷◌, ◌++◌, length, drop, refl, sym, subst, ap, ◌∙◌, arith}
use Rattle.std.specs.Prelude.{nat_eq}
use Rattle.std.specs.List.{starts_with}
use Rattle.std.proofs.lemmas.List.{append-nil, drop-append-le, drop_all, length-append}
use Rattle.fix_framing.proofs.PrefixLemmas.{split-at, false-from}
use Rattle.fix_days.specs.Framed.{after_mark, mark, mark_of}

-- no mark
pub without : (day : List ℕ) → starts_with nat_eq day mark ≡ false → mark_of day ≡ []
without day none = ap (λ (b : Bool). cond b mark []) none

-- fewer than three bytes are no mark
pub short-none : (day : List ℕ) → length day < 3 → mark_of day ≡ []
short-none day short =
    without day (false-from (starts_with nat_eq day mark) (λ starts.
    let size = ap length (split-at day mark starts) ∙ length-append mark (drop 3 day) in omega (arith, short, size)))

-- three bytes are the mark, or have none
pub three-mark : (front : List ℕ) → front ≡ mark → (length (mark_of front) ≡ 3) × (after_mark front ≡ [])
three-mark front is = subst (λ (f : List ℕ). (length (mark_of f) ≡ 3) × (after_mark f ≡ [])) (sym is) (refl, refl)

pub three-none : (front : List ℕ) → length front ≡ 3 → (front ≡ mark → ⊥) → mark_of front ≡ []
three-none front three other =
    without front (false-from (starts_with nat_eq front mark) (λ starts.
    let whole = split-at front mark starts in
    let none : drop 3 front ≡ [] = drop_all 3 front (omega (arith, three)) in
    other (whole ∙ ap (λ (t : List ℕ). mark ++ t) none ∙ append-nil mark)))

-- the mark of a day is that of its first three bytes
starts-more : (day more : List ℕ) → 3 ≤ length day → starts_with nat_eq (day ++ more) mark ≡ starts_with nat_eq day mark
starts-more [] more long = absurd (omega (arith, long))
starts-more (a ∷ []) more long = absurd (omega (arith, long))
starts-more (a ∷ b ∷ []) more long = absurd (omega (arith, long))
starts-more (a ∷ b ∷ c ∷ rest) more long = refl

pub mark-more : (day more : List ℕ) → 3 ≤ length day → mark_of (day ++ more) ≡ mark_of day
mark-more day more long = ap (λ (b : Bool). cond b mark []) (starts-more day more long)

mark-size : (b : Bool) → length (cond b mark []) ≤ 3
mark-size true = omega arith
mark-size false = omega arith

pub behind-more : (day more : List ℕ) → 3 ≤ length day → after_mark (day ++ more) ≡ after_mark day ++ more
behind-more day more long =
    let few = mark-size (starts_with nat_eq day mark) in
    ap (λ (m : List ℕ). drop (length m) (day ++ more)) (mark-more day more long) ∙ drop-append-le (length (mark_of day)) day more (omega (arith, few, long))

pub short-behind : (day : List ℕ) → length day < 3 → after_mark day ≡ day
short-behind day short = ap (λ (m : List ℕ). drop (length m) day) (short-none day short)

pub three-behind : (front : List ℕ) → mark_of front ≡ [] → after_mark front ≡ front
three-behind front none = ap (λ (m : List ℕ). drop (length m) front) none
