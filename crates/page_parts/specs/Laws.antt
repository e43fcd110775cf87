-- The laws of pages, in one sentence each.
use Rattle.std.specs.Prelude.{◌≡◌, ◌<◌, ℕ, List, ◌∷◌, All, codes, length}
use Rattle.page_parts.specs.Repeats.{typed_command}
use Rattle.page_parts.specs.ShellWords.{shell_words}

-- a word has a byte
abbrev pub HasByte : List ℕ → Type 0
HasByte word = 0 < length word

-- a shell reads a command of `desk` as the words that it was made of, whatever bytes these have
abbrev pub ShellReadsCommand : Type 0
ShellReadsCommand = (words : List (List ℕ)) → All HasByte words
    → shell_words (typed_command words) ≡ codes "desk" ∷ words
