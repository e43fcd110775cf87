-- The offences of each kind under a rule of a call, deal by deal. A deal that offends counts in
-- what its orders trade up to later ones.
use Rattle.std.specs.Prelude.{ℕ, Bool, List, Option, length}
use Rattle.std.specs.Option.{option_or}
use Rattle.audit_base.specs.declared.orders.Order.{Order}
use Rattle.audit_base.specs.declared.orders.Deal.{Deal}
use Rattle.audit_base.specs.declared.findings.Finding.{Finding}
use Rattle.audit_base.specs.CallOffences.{matching_finding, bid_priority_finding, ask_priority_finding}
use Rattle.offence_list.specs.Answers.{answers_below}

-- of each deal, in order, the first of the findings 7 to 11 that it has (9 where one price is
-- asked for)
unfoldable pub matching_offences : Bool → List Order → List Deal → List Finding
matching_offences uniform orders deals =
    answers_below (matching_finding uniform orders deals) (length deals)

-- findings 12 and 13 of a deal: its bid is outranked by a short order, or else its ask is
abbrev pub priority_finding : List Order → List Deal → ℕ → Option Finding
priority_finding orders deals deal =
    option_or (bid_priority_finding orders deals deal) (ask_priority_finding orders deals deal)

-- of each deal, in order, the first of the findings 12 and 13 that it has
unfoldable pub priority_offences : List Order → List Deal → List Finding
priority_offences orders deals = answers_below (priority_finding orders deals) (length deals)
