-- That a day has one first offence, as a statement.
use Rattle.std.specs.Prelude.{◌≡◌, ◌<◌, ℕ, All, AllPairs, List}
use Rattle.audit_base.specs.declared.findings.Finding.{Finding}
use Rattle.audit_base.specs.declared.orders.Deal.{Deal}
use Rattle.audit_base.specs.declared.orders.Order.{Order}
use Rattle.audit_base.specs.Deals.{DealsInRange, NamesOrders}
use Rattle.session_audit.specs.declared.phases.Phase.{Phase}
use Rattle.session_audit.specs.Days.{IsDayOffence}

-- where places rise and each deal names a bid and an ask, a day has at most one first offence
abbrev pub DayOffenceIsOne : Type 0
DayOffenceIsOne = (phases : List Phase) (orders : List Order) (deals : List Deal) (count : ℕ)
    (one other : Finding) → AllPairs (λ o p. o.place < p.place) orders
    → All (NamesOrders orders) deals → DealsInRange deals
    → IsDayOffence phases orders deals count one → IsDayOffence phases orders deals count other
    → one ≡ other
