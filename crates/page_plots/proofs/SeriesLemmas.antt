-- What is made of the first members of a list, one after another, and of one more.
use Rattle.std.proofs.Common.{◌≡◌, ◌<◌, ◌+◌, ℕ, List, [], ◌∷◌, ◌++◌, length, sym, ap, ◌∙◌, add-one, get_or, take}
use Rattle.std.specs.Prelude.{map}
use Rattle.std.specs.List.{flat_map}
use Rattle.std.proofs.Math.Seq.{take-suc}
use Rattle.std.proofs.lemmas.Grind.{flat_map-append}
use Rattle.std.proofs.lemmas.List.{append_assoc, append-nil, map_more}
use Rattle.audit_base.proofs.OffenceLemmas.{get_or-default}

-- the shapes of the first members, behind what was made before, and of one more
pub shapes-more : {A B : Type 0} (f : A → List B) (made : List B) (xs : List A) (i : ℕ) (x : A) → i < length xs → x ≡ get_or xs i x → (old new : List B) → old ≡ made ++ flat_map f (take i xs) → new ≡ old ++ f x → new ≡ made ++ flat_map f (take (i + 1) xs)
shapes-more {A = A} {B = B} f made xs i x lt is old new was now =
    let front = flat_map f (take i xs) in
    let one : f x ≡ flat_map f (get_or xs i x ∷ []) = sym (append-nil (f x)) ∙ ap (λ (y : A). f y ++ []) is in
    now ∙ ap (λ (o : List B). o ++ f x) was ∙ append_assoc made front (f x)
    ∙ ap (λ (z : List B). made ++ (front ++ z)) one
    ∙ ap (λ (z : List B). made ++ z) (sym (flat_map-append f (take i xs) (get_or xs i x ∷ [])))
    ∙ ap (λ (ys : List A). made ++ flat_map f ys) (sym (take-suc xs i x lt) ∙ ap (λ (k : ℕ). take k xs) (sym (add-one i)))

-- the same, where the member is read by its index
pub shapes-next : {A B : Type 0} (f : A → List B) (made : List B) (xs : List A) (i : ℕ) (d : A) → i < length xs → (old new : List B) → old ≡ made ++ flat_map f (take i xs) → new ≡ old ++ f (get_or xs i d) → new ≡ made ++ flat_map f (take (i + 1) xs)
shapes-next f made xs i d lt old new was now = shapes-more f made xs i (get_or xs i d) lt (get_or-default xs i d (get_or xs i d) lt) old new was now

-- the values of the first members, and of one more
pub mapped-more : {A B : Type 0} (f : A → B) (xs : List A) (i : ℕ) (d : A) → i < length xs → (old new : List B) → old ≡ map f (take i xs) → new ≡ old ++ f (get_or xs i d) ∷ [] → new ≡ map f (take (i + 1) xs)
mapped-more {B = B} f xs i d lt old new was now =
    now ∙ ap (λ (o : List B). o ++ f (get_or xs i d) ∷ []) was ∙ sym (map_more f xs i d lt)
