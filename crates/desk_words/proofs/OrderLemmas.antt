-- The place of `--` among words, and what is read of words in the form that has it.
use Rattle.std.proofs.Common.{◌≡◌, ◌<◌, ◌≤◌, ◌∙◌, refl, sym, ap, ℕ, ◌+◌, ◌-◌, Bool, true, false, cond, List, [], ◌∷◌, ◌++◌, length, map, drop, take, Option, Some, None, arith}
use Rattle.std.specs.Prelude.{◌==◌, ◌&&◌, All, nat_le, nat_lt, not, position}
use Rattle.std.specs.List.{position_or_len, prefix_len}
use Rattle.std.proofs.lemmas.List.{drop-drop, drop-map, length-drop, take-map}
use Rattle.std.proofs.lemmas.Bool.{le-leb, ltb-false}
use Rattle.std.proofs.lemmas.List.Elements.{All-head, All-tail}
use Rattle.std.proofs.lemmas.List.Sums.{prefix_len-le-length}
use Rattle.audit_base.specs.Least.{only_if}
use Rattle.command_words.specs.WordForms.{is_path, nth_word}
use Rattle.desk_words.specs.WordOrder.{in_order, is_mark, marked_at, mark_index, plain_order, UnmarkedWordsStay}
use Rattle.desk_words.specs.Words.{offences_asked, offences_with}

-- as many images as elements stand before the first that fails
prefix_len-map : {X Y : Type 0} (f : X → Y) (p : Y → Bool) (xs : List X) → prefix_len p (map f xs) ≡ prefix_len (λ x. p (f x)) xs
prefix_len-map f p [] = refl
prefix_len-map f p (x ∷ xs) = ap (λ n. cond (p (f x)) (1 + n) 0) (prefix_len-map f p xs)

-- the first index of a list of images that passes is that of their list
pub position_or_len-map : {X Y : Type 0} (f : X → Y) (p : Y → Bool) (xs : List X) → position_or_len p (map f xs) ≡ position_or_len (λ x. p (f x)) xs
position_or_len-map f p xs = prefix_len-map f (λ y. not (p y)) xs

-- where none is found, all stand before the first that passes
pub none-found : {X : Type 0} (p : X → Bool) (xs : List X) → position p xs ≡ None → length xs ≡ position_or_len p xs
none-found p xs none =
    by-test (nat_lt (position_or_len p xs) (length xs)) refl none
  where
    by-test : (b : Bool) → nat_lt (position_or_len p xs) (length xs) ≡ b → ◌≡◌ {A = Option ℕ} (cond b (Some (position_or_len p xs)) None) None → length xs ≡ position_or_len p xs
    by-test true e is = absurd cc
    by-test false e is = omega (arith, ltb-false (position_or_len p xs) (length xs) e, prefix_len-le-length (λ x. not (p x)) xs)

-- the command, what stands behind `--`, and the options, where the words from `--` on are given
pub in-order-is : (mark : ℕ) (first : List ℕ) (rest : List (List ℕ))
    → in_order (Some mark) (first ∷ rest) ≡ first ∷ (drop 1 (drop mark (first ∷ rest)) ++ take (mark - 1) rest)
in-order-is mark first rest = ap (λ (l : List (List ℕ)). first ∷ (l ++ take (mark - 1) rest)) (sym (drop-drop 1 mark (first ∷ rest)))

-- of five words the first is not read
five-read : (mark : Option ℕ) (first : List ℕ) (words options : List (List ℕ)) → length words ≡ 5
    → offences_with mark words options ≡ offences_asked mark (first ∷ (drop 1 words ++ options))
five-read mark first [] options is = absurd (omega (arith, is))
five-read mark first (a ∷ []) options is = absurd (omega (arith, is))
five-read mark first (a ∷ b ∷ []) options is = absurd (omega (arith, is))
five-read mark first (a ∷ b ∷ c ∷ []) options is = absurd (omega (arith, is))
five-read mark first (a ∷ b ∷ c ∷ d ∷ []) options is = absurd (omega (arith, is))
five-read mark first (a ∷ b ∷ c ∷ d ∷ e ∷ []) options is =
    let long : nat_le 5 (length (first ∷ b ∷ c ∷ d ∷ e ∷ options)) ≡ true = le-leb 5 (length (first ∷ b ∷ c ∷ d ∷ e ∷ options)) (omega arith) in
    rw long refl
five-read mark first (a ∷ b ∷ c ∷ d ∷ e ∷ f ∷ more) options is = absurd (omega (arith, is))

-- what is read of `offences` from `--` on is what its words ask for in their order
pub offences-behind : (mark : ℕ) (words : List (List ℕ)) → mark + 5 ≡ length words
    → offences_with (Some mark) (drop mark words) (take (mark - 1) (drop 1 words)) ≡ offences_asked (Some mark) (in_order (Some mark) words)
offences-behind mark [] long = absurd (omega (arith, long))
offences-behind mark (first ∷ rest) long =
    five-read (Some mark) first (drop mark (first ∷ rest)) (take (mark - 1) rest) (length-drop mark (first ∷ rest) ∙ omega (arith, long))
    ∙ ap (offences_asked (Some mark)) (sym (in-order-is mark first rest))

-- the words from `--` on, and those before it, of words that were mapped
pub from-mapped : {X Y : Type 0} (f : X → Y) (mark : ℕ) (words behind : List X) → behind ≡ drop mark words → map f behind ≡ drop mark (map f words)
from-mapped f mark words behind is = ap (map f) is ∙ sym (drop-map f mark words)

pub before-mapped : {X Y : Type 0} (f : X → Y) (mark : ℕ) (words before : List X) → before ≡ take (mark - 1) (drop 1 words) → map f before ≡ take (mark - 1) (drop 1 (map f words))
before-mapped f mark words before is =
    ap (map f) is ∙ sym (take-map f (mark - 1) (drop 1 words)) ∙ ap (take (mark - 1)) (sym (drop-map f 1 words))

-- the index of the first `--` behind the command, of words that were mapped
pub index-mapped : {X : Type 0} (f : X → List ℕ) (words behind : List X) (before : ℕ) → before ≡ position_or_len (λ word. is_mark (f word)) behind → behind ≡ drop 1 words → 1 + before ≡ mark_index (map f words)
index-mapped f words behind before counted is =
    ap (λ n. 1 + n)
    (counted ∙ ap (position_or_len (λ word. is_mark (f word))) is ∙ sym (position_or_len-map f is_mark (drop 1 words)) ∙ ap (position_or_len is_mark) (sym (drop-map f 1 words)))

-- where no element passes, all stand before the first that does
none-passes : {X : Type 0} (p : X → Bool) (xs : List X) → All (λ x. p x ≡ false) xs → position_or_len p xs ≡ length xs
none-passes p [] none = refl
none-passes p (x ∷ xs) none =
    let here : p x ≡ false = All-head (λ y. p y ≡ false) x xs none in
    let rest : prefix_len (λ y. not (p y)) xs ≡ length xs = none-passes p xs (All-tail (λ y. p y ≡ false) x xs none) in
    rw here (omega (arith, rest))

-- a greater number is another one
greater-is-other : (a b : ℕ) → b < a → (a == b) ≡ false
greater-is-other a b less = grind arith

not-both : (a b : Bool) (n : ℕ) → b ≡ false → only_if (a && b) n ≡ None
not-both true b n is = rw is refl
not-both false b n is = refl

-- no `--` is found among words that have none
no-mark : (count : ℕ) (words : List (List ℕ)) → All (λ word. is_mark word ≡ false) words → marked_at count words ≡ None
no-mark count [] none = not-both (nat_le 2 0 && not (is_path (nth_word [] 1))) (mark_index [] + 1 + count == 0) (mark_index []) (greater-is-other (mark_index [] + 1 + count) 0 (omega arith))
no-mark count (word ∷ rest) none =
    let at : position_or_len is_mark rest ≡ length rest = none-passes is_mark rest (All-tail (λ w. is_mark w ≡ false) word rest none) in
    not-both (nat_le 2 (length (word ∷ rest)) && not (is_path (nth_word (word ∷ rest) 1))) (mark_index (word ∷ rest) + 1 + count == length (word ∷ rest)) (mark_index (word ∷ rest))
    (greater-is-other (mark_index (word ∷ rest) + 1 + count) (length (word ∷ rest)) (omega (arith, at)))

pub unmarked-stay : UnmarkedWordsStay
unmarked-stay count words none = let is = no-mark count words none in (ap (λ (mark : Option ℕ). in_order mark words) is, is)
