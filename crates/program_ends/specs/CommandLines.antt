-- The arguments of a command line, which may be known, and the words that they are.
use Rattle.std.specs.Prelude.{◌≡◌, ℕ, List, Option, IfSome, drop}
use Rattle.std.specs.Option.{option_map}

-- these are the known words of the command line, where they are known
abbrev pub AreKnownWords : Option (List (List ℕ)) → List (List ℕ) → Type 0
AreKnownWords known_words words = IfSome known_words (λ given. words ≡ given)

-- the words are the arguments without the first, which is the program's name
abbrev pub words_of_arguments : Option (List (List ℕ)) → Option (List (List ℕ))
words_of_arguments arguments = option_map (λ given. drop 1 given) arguments
