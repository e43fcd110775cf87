-- Cases on file with the digests of their logs: which is kept under a label.
use Rattle.std.specs.Prelude.{◌≢◌, ℕ, Bool, List, Option, Some, find, map, AllPairs}
use Rattle.case_keeper.specs.Cases.{has_label}
use Rattle.digest_keeper.specs.declared.digested.DigestedCase.{DigestedCase}
use Rattle.digest_keeper.specs.declared.digested.KeptCase.{KeptCase}

-- the case on file has this label
abbrev pub has_kept_label : List ℕ → KeptCase → Bool
has_kept_label label kept = has_label label kept.case

-- the case that is on file under a label, or nothing
abbrev pub kept_under : List KeptCase → List ℕ → Option KeptCase
kept_under kept label = find (has_kept_label label) kept

-- no two cases on file have one label
abbrev pub KeptLabelsDiffer : List KeptCase → Type 0
KeptLabelsDiffer kept = AllPairs (λ a b. a.case.label ≢ b.case.label) kept

-- a case as it is on file once it was filed: with its digests
abbrev pub kept_of : DigestedCase → KeptCase
kept_of digested = record { case = digested.case; digests = Some digested.digests }

-- cases as they are on file once they were filed
abbrev pub all_kept_of : List DigestedCase → List KeptCase
all_kept_of filed = map kept_of filed
