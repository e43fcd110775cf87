-- Words that are cut into commands: the words before the first separator, and those after it.
use Rattle.std.proofs.Common.{◌≡◌, ◌∙◌, sym, ap, subst, refl, ℕ, ◌+◌, ◌<◌, ◌≤◌, suc, Bool, true, false, List, [], ◌∷◌, ◌++◌, length, map, take, drop, Option, None, Some, append_assoc, String, arith}
use Rattle.std.specs.List.{slice_split, onto_first}
use Rattle.std.specs.Option.{option_map}
use Rattle.std.specs.String.{string_bytes}
use Rattle.std.proofs.lemmas.List.{take-map, drop-map, length-map}
use Rattle.std.proofs.lemmas.Bool.{ltb-true, ltb-false}
use Rattle.std.proofs.Math.Dec.{ltb}
use Rattle.std.proofs.Math.Seq.{take-length}
use Rattle.std.proofs.lemmas.List.Splits.{slice_split_first, slice_split-cons_no}
use Rattle.case_run.specs.Commands.{all_or_none, command_of, commands_of, is_then, part_length, with_next}
use Rattle.case_run.specs.declared.commands.CaseCommand.{CaseCommand}

true_false : true ≡ false → ⊥
true_false e = cc

-- a word that is no separator is one more before the first
pub length_more : (word : List ℕ) (words : List (List ℕ)) → is_then word ≡ false → part_length (word ∷ words) ≡ 1 + part_length words
length_more word words e = rw e refl

pub length_none : (word : List ℕ) (words : List (List ℕ)) → is_then word ≡ true → part_length (word ∷ words) ≡ 0
length_none word words e = rw e refl

-- where there is no separator the words are one part
split_last : (words : List (List ℕ)) → part_length words ≡ length words → slice_split is_then words ≡ words ∷ []
split_last [] is = refl
split_last (word ∷ words) is = by_word (is_then word) refl (split_last words)
  where
    by_word : (b : Bool) → is_then word ≡ b → (part_length words ≡ length words → slice_split is_then words ≡ words ∷ []) → slice_split is_then (word ∷ words) ≡ (word ∷ words) ∷ []
    by_word true e again =
        let none : part_length (word ∷ words) ≡ 0 = length_none word words e in
        absurd (no_length (sym none ∙ is))
      where
        no_length : 0 ≡ suc (length words) → ⊥
        no_length e = omega arith
    by_word false e again =
        let more : part_length (word ∷ words) ≡ 1 + part_length words = length_more word words e in
        let same : 1 + part_length words ≡ suc (length words) = sym more ∙ is in
        let rest : part_length words ≡ length words = omega (arith, same) in
        slice_split-cons_no is_then word words e ∙ ap (onto_first word) (again rest)

-- the command of the words before the first separator, and those of the words after it
front_commands : (words : List (List ℕ)) → part_length words < length words → commands_of words ≡ with_next (command_of (take (part_length words) words)) (commands_of (drop (part_length words + 1) words))
front_commands words inside = ap (λ parts. all_or_none (map command_of parts)) (slice_split_first is_then words [] inside)

last_commands : (words : List (List ℕ)) → part_length words ≡ length words → commands_of words ≡ with_next (command_of words) (Some [])
last_commands words is = ap (λ parts. all_or_none (map command_of parts)) (split_last words is)

-- The same in the words of the code.

-- what was read, and what the rest asks for, is what all words ask for
abbrev pub IsReadSoFar : {Z : Type 0} → List (String Z) → List CaseCommand → List (String Z) → Type 0
IsReadSoFar words read rest = commands_of (map string_bytes words) ≡ option_map (λ more. read ++ more) (commands_of (map string_bytes rest))

none_next : (rest : Option (List CaseCommand)) → with_next {A = CaseCommand} None rest ≡ None
none_next rest = refl

some_next : (command : CaseCommand) (read : List CaseCommand) (rest : Option (List CaseCommand)) → option_map (λ more. read ++ more) (with_next (Some command) rest) ≡ option_map (λ more. (read ++ command ∷ []) ++ more) rest
some_next command read None = refl
some_next command read (Some more) = ap Some (sym (append_assoc read (command ∷ []) more))

module _ {Z : Type 0} (words : List (String Z)) (read : List CaseCommand) (rest : List (String Z)) (count : ℕ) (so_far : IsReadSoFar words read rest) (counted : count ≡ part_length (map string_bytes rest)) where
  long : length (map string_bytes rest) ≡ length rest
  long = length-map rest string_bytes

  inside : count < length rest → part_length (map string_bytes rest) < length (map string_bytes rest)
  inside less = omega (arith, counted, long, less)

  front : count < length rest → commands_of (map string_bytes rest) ≡ with_next (command_of (map string_bytes (take count rest))) (commands_of (map string_bytes (drop (count + 1) rest)))
  front less =
      subst (λ (n : ℕ). commands_of (map string_bytes rest) ≡ with_next (command_of (take n (map string_bytes rest))) (commands_of (drop (n + 1) (map string_bytes rest)))) (sym counted) (front_commands (map string_bytes rest) (inside less))
      ∙ ap (λ ws. with_next (command_of ws) (commands_of (drop (count + 1) (map string_bytes rest)))) (take-map string_bytes count rest)
      ∙ ap (λ ws. with_next (command_of (map string_bytes (take count rest))) (commands_of ws)) (drop-map string_bytes (count + 1) rest)

  last : count ≡ length rest → commands_of (map string_bytes rest) ≡ with_next (command_of (map string_bytes rest)) (Some [])
  last all = last_commands (map string_bytes rest) (sym counted ∙ all ∙ sym long)

  -- one command more
  pub more_read : (command : CaseCommand) → count < length rest → command_of (map string_bytes (take count rest)) ≡ Some command → IsReadSoFar words (read ++ command ∷ []) (drop (count + 1) rest)
  more_read command less is =
      so_far ∙ ap (option_map (λ more. read ++ more)) (front less ∙ ap (λ (c : Option CaseCommand). with_next c (commands_of (map string_bytes (drop (count + 1) rest)))) is)
      ∙ some_next command read (commands_of (map string_bytes (drop (count + 1) rest)))

  -- the last command
  pub all_read : (command : CaseCommand) → count ≡ length rest → command_of (map string_bytes rest) ≡ Some command → commands_of (map string_bytes words) ≡ Some (read ++ command ∷ [])
  all_read command all is =
      so_far ∙ ap (option_map (λ more. read ++ more)) (last all ∙ ap (λ (c : Option CaseCommand). with_next c (Some [])) is)

  -- words that are no command
  pub none_read : count ≤ length rest → command_of (map string_bytes (take count rest)) ≡ None → commands_of (map string_bytes words) ≡ None
  none_read within is = by_count (ltb count (length rest)) refl
    where
      by_count : (b : Bool) → ltb count (length rest) ≡ b → commands_of (map string_bytes words) ≡ None
      by_count true less =
          so_far ∙ ap (option_map (λ more. read ++ more)) (front (ltb-true count (length rest) less) ∙ ap (λ (c : Option CaseCommand). with_next c (commands_of (map string_bytes (drop (count + 1) rest)))) is)
      by_count false not_less =
          let all : count ≡ length rest = omega (arith, within, ltb-false count (length rest) not_less) in
          let whole : take count rest ≡ rest = ap (λ n. take n rest) all ∙ take-length rest in
          so_far ∙ ap (option_map (λ more. read ++ more)) (last all ∙ ap (λ (c : Option CaseCommand). with_next c (Some [])) (ap (λ ws. command_of (map string_bytes ws)) (sym whole) ∙ is))

  -- the same of what was read with it
  pub whole_read : (now : List CaseCommand) (command : CaseCommand) → count ≡ length rest → command_of (map string_bytes (take count rest)) ≡ Some command → now ≡ read ++ command ∷ []
      → commands_of (map string_bytes words) ≡ Some now
  whole_read now command all is added =
      let whole : take count rest ≡ rest = ap (λ n. take n rest) all ∙ take-length rest in
      all_read command all (ap (λ ws. command_of (map string_bytes ws)) (sym whole) ∙ is) ∙ ap Some (sym added)
