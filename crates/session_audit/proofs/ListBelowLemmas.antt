-- Lists that are made by a function of the index.
use Rattle.std.proofs.Common.{◌≡◌, ◌<◌, ℕ, zero, suc, ◌+◌, [], ◌∷◌, ◌++◌, length, get_or, refl, sym, ap, ◌∙◌, arith, add-one, inl, inr}
use Rattle.std.proofs.lemmas.List.{length-append}
use Rattle.std.proofs.Math.ListN.{get_or-append}
use Rattle.std.proofs.Math.Seq.{get_or-append_seam}
use Rattle.std.proofs.lemmas.Bool.{cases_eq}
use Rattle.session_audit.specs.PhaseOrders.{list_below}

pub length-list_below : {A : Type 0} (f : ℕ → A) (n : ℕ) → length (list_below f n) ≡ n
length-list_below f zero = refl
length-list_below f (suc n) = let front = length-append (list_below f n) (f n ∷ []) in let rest = length-list_below f n in omega arith

pub list_below-at : {A : Type 0} (f : ℕ → A) (n i : ℕ) (d : A) → i < n → get_or (list_below f n) i d ≡ f i
list_below-at f zero i d lt = absurd (omega arith)
list_below-at f (suc n) i d lt =
    let long = length-list_below f n in
    elim (cases_eq i n) [
      | inl e ↦ ap (λ (j : ℕ). get_or (list_below f n ++ f n ∷ []) j d) (e ∙ sym long) ∙ get_or-append_seam (list_below f n) (f n) [] d ∙ ap f (sym e)
      | inr ne ↦ get_or-append (list_below f n) (f n ∷ []) d i (omega (arith, ne)) ∙ list_below-at f n i d (omega (arith, ne))
    ]

pub list_below-more : {A : Type 0} (f : ℕ → A) (n : ℕ) → list_below f (n + 1) ≡ list_below f n ++ f n ∷ []
list_below-more f n = ap (list_below f) (add-one n)

pub list_below-same : {A : Type 0} (f g : ℕ → A) (n : ℕ) → ((i : ℕ) → i < n → f i ≡ g i) → list_below f n ≡ list_below g n
list_below-same f g zero h = refl
list_below-same f g (suc n) h =
    let front : list_below f n ≡ list_below g n = list_below-same f g n (λ i lt. h i (omega arith)) in
    let last : f n ≡ g n = h n (omega arith) in
    λ i. front i ++ last i ∷ []
