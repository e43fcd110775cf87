-- Different pairs of texts have different blocks; and a table of short pairs with one of other keys is a table of all keys.
use Rattle.std.proofs.Common.{◌≡◌, ◌+◌, ◌∙◌, ℕ, Bool, true, false, cond, List, [], ◌∷◌, ◌++◌, length, take, drop, get_or, bytes_eq, refl, sym, ap, arith, Option, Some, None, is_some, inl, inr, ◌≤◌, ◌-◌, append_assoc}
use Rattle.std.specs.Prelude.{min, replicate, unwrap_or, ◌&&◌, if◌then◌else◌}
use Rattle.std.proofs.lemmas.List.{length-append}
use Rattle.std.proofs.Math.Seq.{take-append_seam, drop-append_seam, drop-append-add}
use Rattle.std.proofs.lemmas.Bool.{cases_Bool, leb-true, both_ways, false_from_ne_true, and_parts, and_from}
use Rattle.std.proofs.lemmas.Slice.Eq.{bytes_eq-Decides}
use Rattle.seeded_hash.specs.declared.short_pairs.ShortPair.{ShortPair}
use Rattle.seeded_hash.specs.ShortPairs.{fit_short_block, put_at, sizes_block, short_block, short_pair_of, same_block, value_by_pair, first_text, second_text}

-- what is after the first two
abbrev behind : List ℕ → List ℕ
behind [] = []
behind (x ∷ []) = []
behind (x ∷ y ∷ rest) = rest

-- a text written after a front of the block
written : (front rest text : List ℕ) (at : ℕ) → at ≡ length front → put_at (front ++ rest) at text ≡ front ++ text ++ drop (length text) rest
written front rest text at is =
    rw (is, take-append_seam front rest, drop-append-add front rest (length text)) refl

-- the zeros after two texts in their block
abbrev zeros : List ℕ → List ℕ → List ℕ
zeros first second = drop (length second) (drop (length first) (replicate 30 0))

-- a block, its parts in a row
laid : (first second : List ℕ) → short_block first second ≡ (length first ∷ length second ∷ first) ++ second ++ zeros first second
laid first second =
    let sizes : List ℕ = length first ∷ length second ∷ [] in
    let one : put_at (sizes_block (length first) (length second)) 2 first ≡ (length first ∷ length second ∷ first) ++ drop (length first) (replicate 30 0) =
    written sizes (replicate 30 0) first 2 refl in
    ap (λ (block : List ℕ). put_at block (2 + length first) second) one
    ∙ written (length first ∷ length second ∷ first) (drop (length first) (replicate 30 0)) second (2 + length first) (omega arith)

-- two texts that begin with texts of one length, and are the same
fronts : (a b s t : List ℕ) → length a ≡ length b → a ++ s ≡ b ++ t → a ≡ b
fronts a b s t long e = sym (take-append_seam a s) ∙ ap (take (length a)) e ∙ ap (λ (n : ℕ). take n (b ++ t)) long ∙ take-append_seam b t

rests : (a b s t : List ℕ) → length a ≡ length b → a ++ s ≡ b ++ t → s ≡ t
rests a b s t long e = sym (drop-append_seam a s) ∙ ap (drop (length a)) e ∙ ap (λ (n : ℕ). drop n (b ++ t)) long ∙ drop-append_seam b t

-- pairs of one block are the same
pub one_pair : (a b c d : List ℕ) → short_block a b ≡ short_block c d → (a ≡ c) × (b ≡ d)
one_pair a b c d e =
    let whole : (length a ∷ length b ∷ a) ++ b ++ zeros a b ≡ (length c ∷ length d ∷ c) ++ d ++ zeros c d = sym (laid a b) ∙ e ∙ laid c d in
    let firsts : length a ≡ length c = ap (λ (xs : List ℕ). get_or xs 0 0) whole in
    let seconds : length b ≡ length d = ap (λ (xs : List ℕ). get_or xs 1 0) whole in
    let texts : a ++ b ++ zeros a b ≡ c ++ d ++ zeros c d = ap behind whole in
    let long : length (a ++ b) ≡ length (c ++ d) = omega (arith, length-append a b, length-append c d, firsts, seconds) in
    let both : a ++ b ≡ c ++ d = fronts (a ++ b) (c ++ d) (zeros a b) (zeros c d) long texts in
    (fronts a c b d firsts both, rests a c b d firsts both)

-- a block of two texts gives both back
pub texts-back : (a b : List ℕ) → fit_short_block a b ≡ true → (first_text (short_block a b) ≡ a) × (second_text (short_block a b) ≡ b)
texts-back a b short =
    let few : length a + length b ≤ 30 = leb-true (length a + length b) 30 short in
    let tail : List ℕ = zeros a b in
    let row : short_block a b ≡ (length a ∷ length b ∷ a) ++ (b ++ tail) = laid a b ∙ append_assoc (length a ∷ length b ∷ a) b tail in
    let one : min (length a) 30 ≡ length a = omega arith in
    let from : 2 + length a ≡ length (length a ∷ length b ∷ a) = omega arith in
    let two : min (length b) (32 - (2 + length a)) ≡ length b = omega arith in (
      rw (row, one) (take-append_seam a (b ++ tail)),
      rw (row, one, two, from) (ap (take (length b)) (drop-append_seam (length a ∷ length b ∷ a) (b ++ tail)) ∙ take-append_seam b tail),
    )

abbrev short_pair : List ℕ → List ℕ → ShortPair
short_pair first second = record { block = short_block first second }

-- blocks are the same where both texts are
same_pair : (a b c d : List ℕ) → same_block (short_pair a b) (short_pair c d) ≡ (bytes_eq a c && bytes_eq b d)
same_pair a b c d = elim (cases_Bool (bytes_eq a c && bytes_eq b d)) [
  | inl on ↦
      let parts = and_parts (bytes_eq a c) (bytes_eq b d) on in
      let first : a ≡ c = (bytes_eq-Decides a c).0 parts.0 in
      let second : b ≡ d = (bytes_eq-Decides b d).0 parts.1 in
      (bytes_eq-Decides (short_block a b) (short_block c d)).1 (λ i. short_block (first i) (second i)) ∙ sym on
  | inr off ↦ false_from_ne_true _ (λ e.
      let same = one_pair a b c d ((bytes_eq-Decides (short_block a b) (short_block c d)).0 e) in
      both_ways _ off (and_from _ _ ((bytes_eq-Decides a c).1 same.0) ((bytes_eq-Decides b d).1 same.1))) ∙ sym off
]

-- texts that are given as a pair are short, and given as their own
pub given : (a b : List ℕ) (pair : ShortPair) → short_pair_of a b ≡ Some pair → (fit_short_block a b ≡ true) × (short_pair a b ≡ pair)
given a b pair is = go (fit_short_block a b) refl is
  where
    go : (short : Bool) → fit_short_block a b ≡ short → (if short then Some (short_pair a b) else None) ≡ Some pair → (fit_short_block a b ≡ true) × (short_pair a b ≡ pair)
    go true on e = (on, ap (λ (o : Option ShortPair). unwrap_or o pair) e)
    go false off e = absurd (both_ways false refl (ap is_some e))

-- keys that are the same where both of their texts are, in a table of the short ones and one of the others: where a short key is
-- added to the first, it has its value, and every other key has what it had
pub adds_short : {K A : Type 0} (same : K → K → Bool) (first second : K → List ℕ) → ((k q : K) → same k q ≡ (bytes_eq (first k) (first q) && bytes_eq (second k) (second q)))
    → (new old : ShortPair → Option A) (long : K → Option A) (key : K) (value : A) (pair : ShortPair) → short_pair_of (first key) (second key) ≡ Some pair
    → ((q : ShortPair) → new q ≡ cond (same_block pair q) (Some value) (old q))
    → (other : K) → value_by_pair new (long other) (short_pair_of (first other) (second other)) ≡ (if same key other then Some value else value_by_pair old (long other) (short_pair_of (first other) (second other)))
adds_short {A = A} same first second same_is new old long key value pair is adds other = go (fit_short_block (first other) (second other)) refl
  where
    go : (short : Bool) → fit_short_block (first other) (second other) ≡ short
        → value_by_pair new (long other) (if short then Some (short_pair (first other) (second other)) else None) ≡ (if same key other then Some value else value_by_pair old (long other) (if short then Some (short_pair (first other) (second other)) else None))
    go true on =
        let own : same_block pair (short_pair (first other) (second other)) ≡ same key other =
        ap (λ (p : ShortPair). same_block p (short_pair (first other) (second other))) (sym (given (first key) (second key) pair is).1)
        ∙ same_pair (first key) (second key) (first other) (second other) ∙ sym (same_is key other) in
        adds (short_pair (first other) (second other)) ∙ ap (λ (t : Bool). cond t (Some value) (old (short_pair (first other) (second other)))) own
    go false off =
        let apart : same key other ≡ false = same_is key other ∙ false_from_ne_true _ (λ e.
        let parts = and_parts (bytes_eq (first key) (first other)) (bytes_eq (second key) (second other)) e in
        let one : first key ≡ first other = (bytes_eq-Decides (first key) (first other)).0 parts.0 in
        let two : second key ≡ second other = (bytes_eq-Decides (second key) (second other)).0 parts.1 in
        both_ways _ off (sym (λ i. fit_short_block (one i) (two i)) ∙ (given (first key) (second key) pair is).0)) in
        sym (ap (λ (t : Bool). cond t (Some value) (long other)) apart)
