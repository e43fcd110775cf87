-- The case that is kept under a label, and labels that no two cases share.
use Rattle.std.proofs.Common.{◌≡◌, ◌≢◌, ℕ, zero, suc, ◌<◌, Bool, true, false, cond, List, [], ◌∷◌, ◌++◌, length, get_or, Some, None, Ok, Err, IfSome, OnOk, OnErr, refl, sym, subst, arith}
use Rattle.std.specs.Prelude.{Option, Result, find}
use Rattle.std.proofs.lemmas.Bool.{both_ways}
use Rattle.std.proofs.lemmas.Option.{none-some}
use Rattle.std.proofs.lemmas.List.Quantifiers.{all_pairs_push}
use Rattle.std.proofs.lemmas.Slice.Eq.{bytes_eq-Decides}
use Rattle.case_keeper.specs.Cases.{has_label, kept_case, LabelsDiffer}
use Rattle.case_keeper.specs.declared.case.Case.{Case}

-- what is found passes the test
found_passes : {X : Type 0} (p : X → Bool) (xs : List X) → IfSome (find p xs) (λ x. p x ≡ true)
found_passes p [] = tt
found_passes {X} p (x ∷ xs) = head (p x) refl (found_passes p xs)
  where
    head : (b : Bool) → p x ≡ b → IfSome (find p xs) (λ (y : X). p y ≡ true) → IfSome (cond b (Some x) (find p xs)) (λ (y : X). p y ≡ true)
    head true e behind = e
    head false e behind = behind

-- where nothing is found, no member passes it
none_passes : {X : Type 0} (p : X → Bool) (xs : List X) → find p xs ≡ None → (k : ℕ) (d : X) → k < length xs → p (get_or xs k d) ≡ false
none_passes p [] e k d h = absurd (omega arith)
none_passes p (x ∷ xs) e zero d h = first (p x) refl e
  where
    first : (b : Bool) → p x ≡ b → cond b (Some x) (find p xs) ≡ None → p x ≡ false
    first true t e = absurd (none-some x (sym e))
    first false t e = t
none_passes p (x ∷ xs) e (suc k) d h = rest (p x) e (λ none. none_passes p xs none k d (omega arith))
  where
    rest : (b : Bool) → cond b (Some x) (find p xs) ≡ None → (find p xs ≡ None → p (get_or xs k d) ≡ false) → p (get_or xs k d) ≡ false
    rest true e behind = absurd (none-some x (sym e))
    rest false e behind = behind e

-- a kept case has the label that it is kept under
pub kept_has_label : (cases : List Case) (label : List ℕ) → IfSome (kept_case cases label) (λ case. case.label ≡ label)
kept_has_label cases label = named (kept_case cases label) (found_passes (has_label label) cases)
  where
    named : (found : Option Case) → IfSome found (λ case. has_label label case ≡ true) → IfSome found (λ case. case.label ≡ label)
    named None h = tt
    named (Some case) h = (bytes_eq-Decides case.label label).0 h

-- labels stay apart where a case is added whose label no case has
pub own_labels_more : (cases : List Case) (case : Case) → LabelsDiffer cases → kept_case cases case.label ≡ None → LabelsDiffer (cases ++ case ∷ [])
own_labels_more cases case own none =
    all_pairs_push (λ a b. a.label ≢ b.label) cases case own
    (λ k d h e. both_ways _ (none_passes (has_label case.label) cases none k d h) ((bytes_eq-Decides (get_or cases k d).label case.label).1 e))

-- labels are apart after an addition, whether there was memory for it or not
pub own_labels_after : {A B : Type 0} (old new : List Case) (case : Case) (result : Result A B) → LabelsDiffer old → kept_case old case.label ≡ None
    → OnOk result (new ≡ old ++ case ∷ []) → OnErr result (new ≡ old) → LabelsDiffer new
own_labels_after old new case (Ok _) own none added stays = subst LabelsDiffer (sym added) (own_labels_more old case own none)
own_labels_after old new case (Err _) own none added stays = subst LabelsDiffer (sym stays) own
