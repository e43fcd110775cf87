-- The case that is kept under a label, and labels that no two cases share.
use Rattle.std.proofs.Common.{◌≡◌, ◌≢◌, ℕ, zero, suc, ◌+◌, ◌<◌, Bool, true, false, cond, List, [], ◌∷◌, ◌++◌, length, get_or, take, Some, None, IfSome, refl, sym, ap, ◌∙◌, arith, append_assoc, Bor, true≢false}
use Rattle.std.specs.Prelude.{Option, find, option_copied, is_some}
use Rattle.std.proofs.lemmas.Bool.{both_ways}
use Rattle.std.proofs.lemmas.Option.{none-some}
use Rattle.std.proofs.lemmas.List.{take_more}
use Rattle.std.proofs.lemmas.List.Quantifiers.{all_pairs_push}
use Rattle.std.proofs.lemmas.Slice.Eq.{bytes_eq-Decides}
use Rattle.digest_keeper.specs.KeptCases.{has_kept_label, kept_under, KeptLabelsDiffer, kept_of, all_kept_of}
use Rattle.digest_keeper.specs.declared.digested.DigestedCase.{DigestedCase}
use Rattle.digest_keeper.specs.declared.digested.KeptCase.{KeptCase}

-- what is found passes the test
found_passes : {X : Type 0} (p : X → Bool) (xs : List X) → IfSome (find p xs) (λ x. p x ≡ true)
found_passes p [] = tt
found_passes {X} p (x ∷ xs) = head (p x) refl (found_passes p xs)
  where
    head : (b : Bool) → p x ≡ b → IfSome (find p xs) (λ (y : X). p y ≡ true) → IfSome (cond b (Some x) (find p xs)) (λ (y : X). p y ≡ true)
    head true e behind = e
    head false e behind = behind

-- where nothing is found, no member passes it
none_passes : {X : Type 0} (p : X → Bool) (xs : List X) → find p xs ≡ None → (k : ℕ) (d : X) → k < length xs → p (get_or xs k d) ≡ false
none_passes p [] e k d h = absurd (omega arith)
none_passes p (x ∷ xs) e zero d h = first (p x) refl e
  where
    first : (b : Bool) → p x ≡ b → cond b (Some x) (find p xs) ≡ None → p x ≡ false
    first true t e = absurd (none-some x (sym e))
    first false t e = t
none_passes p (x ∷ xs) e (suc k) d h = rest (p x) e (λ none. none_passes p xs none k d (omega arith))
  where
    rest : (b : Bool) → cond b (Some x) (find p xs) ≡ None → (find p xs ≡ None → p (get_or xs k d) ≡ false) → p (get_or xs k d) ≡ false
    rest true e behind = absurd (none-some x (sym e))
    rest false e behind = behind e

-- a case on file has the label that it is kept under
pub kept_has_label : (kept : List KeptCase) (label : List ℕ) → IfSome (kept_under kept label) (λ found. found.case.label ≡ label)
kept_has_label kept label = named (kept_under kept label) (found_passes (has_kept_label label) kept)
  where
    named : (found : Option KeptCase) → IfSome found (λ one. has_kept_label label one ≡ true) → IfSome found (λ one. one.case.label ≡ label)
    named None h = tt
    named (Some one) h = (bytes_eq-Decides one.case.label label).0 h

-- labels stay apart where a case is added whose label no case has
pub labels_more : (kept : List KeptCase) (one : KeptCase) → KeptLabelsDiffer kept → kept_under kept one.case.label ≡ None → KeptLabelsDiffer (kept ++ one ∷ [])
labels_more kept one own none =
    all_pairs_push (λ a b. a.case.label ≢ b.case.label) kept one own
    (λ k d h e. both_ways _ (none_passes (has_kept_label one.case.label) kept none k d h) ((bytes_eq-Decides (get_or kept k d).case.label one.case.label).1 e))

map_push : (filed : List DigestedCase) (one : DigestedCase) → all_kept_of (filed ++ one ∷ []) ≡ all_kept_of filed ++ kept_of one ∷ []
map_push [] one = refl
map_push (first ∷ filed) one = ap (λ rest. kept_of first ∷ rest) (map_push filed one)

-- one more case
pub filed_more : (kept made : List KeptCase) (filed : List DigestedCase) (i : ℕ) (one : DigestedCase) → i < length filed → one ≡ get_or filed i one
    → made ≡ kept ++ all_kept_of (take i filed) → made ++ kept_of one ∷ [] ≡ kept ++ all_kept_of (take (i + 1) filed)
filed_more kept made filed i one inside at is =
    ap (λ front. front ++ kept_of one ∷ []) is
    ∙ append_assoc kept (all_kept_of (take i filed)) (kept_of one ∷ [])
    ∙ ap (λ more. kept ++ more) (sym (map_push (take i filed) one))
    ∙ ap (λ front. kept ++ all_kept_of front) (sym (take_more filed i one inside ∙ ap (λ r. take i filed ++ r ∷ []) (sym at)))

-- what is not there is nothing
pub none_found : (lent : Option (Bor KeptCase)) (found : Option KeptCase) → option_copied lent ≡ found → is_some lent ≡ false → found ≡ None
none_found None found e none = sym e
none_found (Some one) found e none = absurd (true≢false none)
