-- Which finding an offence of a list is.
use Rattle.std.specs.Prelude.{List, map}
use Rattle.audit_base.specs.declared.flaws.Evidence.TheVariants as evidence
use Rattle.audit_base.specs.declared.flaws.Flaw.{Flaw}
use Rattle.audit_base.specs.declared.findings.Finding.{Finding}
use Rattle.audit_base.specs.declared.orders.Order.{Order}
use Rattle.audit_base.specs.Flaws.{finding_of}
use Rattle.offence_list.specs.declared.offences.ListedOffence.{ListedOffence}
use Rattle.offence_list.specs.declared.offences.ListedOffence.TheVariants as offence

-- what is wrong with the record of an offence
abbrev pub flaw_of_offence : ListedOffence → Flaw
flaw_of_offence (offence.Inactive place order) =
    record { place = place; evidence = evidence.Inactive order }
flaw_of_offence (offence.Limit place bid ask) =
    record { place = place; evidence = evidence.Limit bid ask }
flaw_of_offence (offence.UniformPrice place first) =
    record { place = place; evidence = evidence.UniformPrice first }
flaw_of_offence (offence.Quantity place side order) =
    record { place = place; evidence = evidence.Quantity side order }
flaw_of_offence (offence.Priority place side ahead own) =
    record { place = place; evidence = evidence.Priority side ahead own }
flaw_of_offence (offence.Spread place bid ask) =
    record { place = place; evidence = evidence.Spread bid ask }

-- the finding of an offence, with the orders that its indices are of
abbrev pub finding_of_offence : List Order → ListedOffence → Finding
finding_of_offence orders o = finding_of orders (flaw_of_offence o)

-- the findings of the offences of a list
abbrev pub findings_of_offences : List Order → List ListedOffence → List Finding
findings_of_offences orders found = map (finding_of_offence orders) found
