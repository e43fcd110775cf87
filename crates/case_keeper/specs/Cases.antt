-- Cases on file: the labels that they are kept under, how their audits ended, and which of them
-- a filter lets through.
use Rattle.std.specs.Prelude.{◌≢◌, ℕ, Bool, true, false, ◌&&◌, List, Option, bytes_eq, find, filter, AllPairs}
use Rattle.std.specs.Option.{option_map_or}
use Rattle.audit_base.specs.Orders.{same_name}
use Rattle.audit_base.specs.Words.{property_word}
use Rattle.case_keeper.specs.declared.case.Case.{Case}
use Rattle.case_keeper.specs.declared.case.Filter.{Filter}
use Rattle.case_keeper.specs.declared.case.Mark.{Mark}
use Rattle.case_keeper.specs.declared.case.Mark.TheVariants.{Accepted, Broken}

-- the case has this label
abbrev pub has_label : List ℕ → Case → Bool
has_label label case = same_name case.label label

-- the case that is kept under a label, or nothing
abbrev pub kept_case : List Case → List ℕ → Option Case
kept_case cases label = find (has_label label) cases

-- no two cases have one label
abbrev pub LabelsDiffer : List Case → Type 0
LabelsDiffer cases = AllPairs (λ a b. a.label ≢ b.label) cases

-- how the audit of a case ended: accepted where it has no offence, else with the property of
-- the offence broken
abbrev pub mark_of : Case → Mark
mark_of case = option_map_or (λ offence. Broken offence.property) case.offence Accepted

-- two audits ended alike: both accepted, or with one property broken
abbrev pub same_result : Mark → Mark → Bool
same_result Accepted Accepted = true
same_result Accepted (Broken _) = false
same_result (Broken _) Accepted = false
same_result (Broken p) (Broken q) = bytes_eq (property_word p) (property_word q)

-- the case has the symbol that the filter names, if it names one
abbrev pub passes_symbol : Filter → Case → Bool
passes_symbol wanted case = option_map_or (same_name case.symbol) wanted.symbol true

-- the case has the mark that the filter names, if it names one
abbrev pub passes_mark : Filter → Case → Bool
passes_mark wanted case = option_map_or (same_result (mark_of case)) wanted.mark true

-- the filter lets the case through
abbrev pub passes_filter : Filter → Case → Bool
passes_filter wanted case = passes_symbol wanted case && passes_mark wanted case

-- the cases that the filter lets through, in their order
abbrev pub passing_cases : Filter → List Case → List Case
passing_cases wanted cases = filter (passes_filter wanted) cases
