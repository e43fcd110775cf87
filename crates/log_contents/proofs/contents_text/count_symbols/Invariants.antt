use Rattle.std.proofs.Common.{◌≡◌, ◌++◌, ℕ, List, take}
use Rattle.day_symbols.specs.Symbols.{distinct_names}
use Rattle.log_contents.proofs.contents_text.count_symbols.Given as goal

-- the others so far were met
abbrev pub invariant-loop-index : goal.invariant-loop-index
invariant-loop-index l = (names : List (List ℕ)) → l.initial.symbols ≡ distinct_names names → l.symbols ≡ distinct_names (names ++ take l.index l.others)
