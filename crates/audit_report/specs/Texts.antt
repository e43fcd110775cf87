-- The text of a verdict: its lines in order.
use Rattle.std.specs.Prelude.{ℕ, ◌≤◌, Option, Some, None, List, [], ◌++◌}
use Rattle.std.specs.Option.{ForSome}
use Rattle.std.specs.List.{flat_map}
use Rattle.audit_base.specs.Numbers.{price_end}
use Rattle.audit_base.specs.declared.findings.Finding.{Finding}
use Rattle.audit_base.specs.declared.orders.Cut.{Cut}
use Rattle.audit_report.specs.Lines.{accepted_line, totals_line, bound_line, table_line, rejected_line, volume_line, shown_line, malformed_line}
use Rattle.audit_report.specs.declared.verdicts.Accepted.{Accepted}
use Rattle.audit_report.specs.declared.verdicts.Verdict.{Verdict}
use Rattle.audit_report.specs.declared.verdicts.Verdict.TheVariants as verdict

-- the line of what is there, and nothing of what is not
abbrev pub line_if_there : {T : Type 0} → (T → List ℕ) → Option T → List ℕ
line_if_there line None = []
line_if_there line (Some x) = line x

-- an accepted log: the rule, the totals, the bound where there is one, and the table
abbrev pub accepted_text : Accepted → List ℕ
accepted_text a =
    accepted_line a.rule a.symbol ++ totals_line a.orders a.trades a.volume
    ++ line_if_there bound_line a.bound ++ flat_map table_line a.table

-- a rejected log: the finding, the volume where it is short, and what shows it
abbrev pub rejected_text : Finding → List ℕ
rejected_text f =
    rejected_line f ++ line_if_there volume_line f.short
    ++ line_if_there shown_line f.first ++ line_if_there shown_line f.second

-- the text of a verdict
abbrev pub verdict_text : Verdict → List ℕ
verdict_text (verdict.Accepted a) = accepted_text a
verdict_text (verdict.Rejected f) = rejected_text f
verdict_text (verdict.Malformed log bad) = malformed_line log bad

-- the price of a bound is at most 10^18 units
abbrev pub IsBoundInRange : Cut → Type 0
IsBoundInRange cut = cut.price ≤ price_end

-- the price of a bound that a verdict has is at most 10^18 units
abbrev pub IsVerdictInRange : Verdict → Type 0
IsVerdictInRange (verdict.Accepted a) = ForSome a.bound IsBoundInRange
IsVerdictInRange (verdict.Rejected f) = Unit {0}
IsVerdictInRange (verdict.Malformed log bad) = Unit {0}
