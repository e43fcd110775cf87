-- The parts of a text, one after another.
use Rattle.std.proofs.Common.{◌≡◌, ◌∙◌, refl, sym, ap, ℕ, suc, ◌+◌, ◌<◌, ◌≤◌, Bool, true, false, List, [], ◌∷◌, ◌++◌, length, arith}
use Rattle.std.specs.Prelude.{nat_lt}
use Rattle.std.specs.List.{after_first, before_first, flat_map, onto_first, position_or_len, slice_split}
use Rattle.std.proofs.lemmas.Bool.{ltb-false, ltb-true}
use Rattle.std.proofs.lemmas.List.{drop_all, take_all}
use Rattle.std.proofs.lemmas.List.Splits.{length-slice_split, slice_split-cons_no, slice_split-cons_yes, slice_split_first, slice_split_none}
use Rattle.std.proofs.lemmas.List.Sums.{fails_before_first}
use Rattle.audit_base.specs.Names.{is_comma}
use Rattle.day_page.specs.DayLines.{behind_commas}

pub no-commas : (line : List ℕ) → behind_commas 0 line ≡ line
unfolding behind_commas
no-commas line = refl

-- one comma more
pub behind-more : (n : ℕ) (line : List ℕ) → after_first is_comma (behind_commas n line) ≡ behind_commas (n + 1) line
unfolding behind_commas
behind-more n line = let e : n + 1 ≡ suc n = omega arith in rw e refl

-- a list without such an element is its only part
only_part : {X : Type 0} (p : X → Bool) (xs : List X) → length xs ≤ position_or_len p xs → slice_split p xs ≡ xs ∷ []
only_part p xs high = slice_split_none p xs (λ k d inside. fails_before_first p xs k d (omega (arith, high, inside)))

-- what parts give is what the first gives and what those behind it give, where an empty part gives nothing
pub first-part : (f : List ℕ → List ℕ) (p : ℕ → Bool) (xs : List ℕ) → f [] ≡ [] → flat_map f (slice_split p xs) ≡ f (before_first p xs) ++ flat_map f (slice_split p (after_first p xs))
first-part f p xs none = by_test (nat_lt (position_or_len p xs) (length xs)) refl
  where
    by_test : (t : Bool) → nat_lt (position_or_len p xs) (length xs) ≡ t → flat_map f (slice_split p xs) ≡ f (before_first p xs) ++ flat_map f (slice_split p (after_first p xs))
    by_test true is = ap (flat_map f) (slice_split_first p xs 0 (ltb-true (position_or_len p xs) (length xs) is))
    by_test false is =
        let high : length xs ≤ position_or_len p xs = ltb-false (position_or_len p xs) (length xs) is in
        rw (only_part p xs high, take_all (position_or_len p xs) xs high, drop_all (position_or_len p xs + 1) xs (omega (arith, high)), none) refl

-- parts that are put behind one another
onto-append : {X : Type 0} (x : X) (parts more : List (List X)) → 0 < length parts → onto_first x (parts ++ more) ≡ onto_first x parts ++ more
onto-append x [] more some = absurd (omega arith)
onto-append x (part ∷ parts) more some = refl

some-parts : {X : Type 0} (p : X → Bool) (xs : List X) → 0 < length (slice_split p xs)
some-parts p xs = rw (length-slice_split p xs) (omega arith)

pub parts-behind : (p : ℕ → Bool) (xs : List ℕ) (y : ℕ) (ys : List ℕ) → p y ≡ true → slice_split p (xs ++ y ∷ ys) ≡ slice_split p xs ++ slice_split p ys
parts-behind p [] y ys is = slice_split-cons_yes p y ys is
parts-behind p (x ∷ xs) y ys is = by_test (p x) refl (parts-behind p xs y ys is)
  where
    by_test : (t : Bool) → p x ≡ t → slice_split p (xs ++ y ∷ ys) ≡ slice_split p xs ++ slice_split p ys → slice_split p (x ∷ (xs ++ y ∷ ys)) ≡ slice_split p (x ∷ xs) ++ slice_split p ys
    by_test true e rest =
        slice_split-cons_yes p x (xs ++ y ∷ ys) e ∙ ap (λ (l : List (List ℕ)). [] ∷ l) rest ∙ ap (λ (l : List (List ℕ)). l ++ slice_split p ys) (sym (slice_split-cons_yes p x xs e))
    by_test false e rest =
        slice_split-cons_no p x (xs ++ y ∷ ys) e ∙ ap (onto_first x) rest ∙ onto-append x (slice_split p xs) (slice_split p ys) (some-parts p xs)
        ∙ ap (λ (l : List (List ℕ)). l ++ slice_split p ys) (sym (slice_split-cons_no p x xs e))
