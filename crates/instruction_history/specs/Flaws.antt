-- What is wrong with a record of a log by itself: such a flaw names no order.
use Rattle.std.specs.Prelude.{ℕ, [], Option, option_map, IfSome}
use Rattle.audit_base.specs.declared.findings.Finding.{Finding}
use Rattle.audit_base.specs.declared.flaws.Evidence.{Evidence}
use Rattle.audit_base.specs.declared.flaws.Flaw.{Flaw}
use Rattle.audit_base.specs.Flaws.{finding_of, IsEvidenceInside}

-- the finding about the record at a place, by what is wrong with it
abbrev pub finding_at : ℕ → Evidence → Finding
finding_at place evidence = finding_of [] (record { place = place; evidence = evidence })

-- the finding of a flaw, if there is one
abbrev pub flaw_finding : Option Flaw → Option Finding
flaw_finding flaw = option_map (finding_of []) flaw

-- a flaw, if there is one, names no order
abbrev pub NamesNoOrder : Option Flaw → Type 0
NamesNoOrder flaw = IfSome flaw (λ f. IsEvidenceInside [] f.evidence)
