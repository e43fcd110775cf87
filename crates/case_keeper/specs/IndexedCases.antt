-- An index of cases by their labels.
use Rattle.std.specs.Prelude.{◌≡◌, ℕ, List, Option, position}
use Rattle.std.specs.BTreeMap.{BTreeMap, get}
use Rattle.std.specs.Cmp.Lexicographic.{slice_cmp}
use Rattle.std.specs.Ordering.{nat_cmp}
use Rattle.case_keeper.specs.Cases.{has_label}
use Rattle.case_keeper.specs.declared.case.Case.{Case}

-- the index of the first case with the label
abbrev pub index_of_label : List Case → List ℕ → Option ℕ
index_of_label cases label = position (has_label label) cases

-- the map has under each label the index of its case
abbrev pub IsLabelIndex : BTreeMap (List ℕ) ℕ → List Case → Type 0
IsLabelIndex index cases =
    (label : List ℕ) → get (slice_cmp nat_cmp) index label ≡ index_of_label cases label
