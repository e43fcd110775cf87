-- The laws of trading days, as statements.
use Rattle.std.specs.Prelude.{◌≡◌, ◌<◌, ℕ, suc, List, length, IsTrue}
use Rattle.audit_base.specs.declared.orders.Order.{Order}
use Rattle.audit_base.specs.declared.orders.Deal.{Deal}
use Rattle.audit_base.specs.declared.terms.Side.TheVariants.{Buy, Sell}
use Rattle.audit_base.specs.Orders.{side_at, limit_at, IsOrderList, OrdersInRange}
use Rattle.audit_base.specs.Deals.{pair, DealsInRange}
use Rattle.audit_base.specs.Histories.{Regular}
use Rattle.session_audit.specs.declared.phases.Phase.{Phase}
use Rattle.session_audit.specs.declared.phases.PhaseKind.TheVariants as kind
use Rattle.session_audit.specs.Phases.{is_call, phase_kind, phase_deals}
use Rattle.session_audit.specs.PhaseOrders.{traded_in_phase, left_after_phases, phase_list_at}
use Rattle.session_audit.specs.Days.{PhaseConforms, ConformsDay}

-- 'day uniqueness': two lists of deals that conform trade the same with each order in each phase
abbrev pub DayUniqueness : Type 0
DayUniqueness = (phases : List Phase) (orders : List Order) (ds es : List Deal)
    → IsOrderList orders → Regular orders → DealsInRange ds → DealsInRange es
    → ConformsDay phases orders ds → ConformsDay phases orders es
    → (k : ℕ) → k < length phases → (i : ℕ)
    → traded_in_phase phases orders ds k i ≡ traded_in_phase phases orders es k i

-- two such lists give each pair the same quantity in each continuous phase
abbrev pub DayPairs : Type 0
DayPairs = (phases : List Phase) (orders : List Order) (ds es : List Deal)
    → IsOrderList orders → Regular orders → DealsInRange ds → DealsInRange es
    → ConformsDay phases orders ds → ConformsDay phases orders es
    → (k : ℕ) → k < length phases → phase_kind phases k ≡ kind.Continuous → (bid ask : ℕ)
    → pair (phase_deals phases orders ds k) bid ask ≡ pair (phase_deals phases orders es k) bid ask

-- the order list of each phase is an order list, whatever the deals are
abbrev pub PhaseListsAreOrderLists : Type 0
PhaseListsAreOrderLists = (phases : List Phase) (orders : List Order) (deals : List Deal) (k : ℕ)
    → IsOrderList orders → IsOrderList (phase_list_at phases orders deals k)

-- the order list of each phase is regular where that of the day is
abbrev pub PhaseOrdersAreRegular : Type 0
PhaseOrdersAreRegular = (phases : List Phase) (orders : List Order) (deals : List Deal) (k : ℕ)
    → IsOrderList orders → Regular orders → Regular (phase_list_at phases orders deals k)

-- The bids that a call which conforms leaves meet none of the asks that it leaves, so that
-- orders which are carried out of it give by themselves no spread finding.
abbrev pub CarriedOrdersDoNotMeet : Type 0
CarriedOrdersDoNotMeet = (phases : List Phase) (orders : List Order) (deals : List Deal) (k : ℕ)
    → IsOrderList orders → OrdersInRange orders → DealsInRange deals
    → IsTrue (is_call (phase_kind phases k)) → PhaseConforms phases orders deals k
    → (bid ask : ℕ) → side_at orders bid ≡ Buy → side_at orders ask ≡ Sell
    → 0 < left_after_phases phases orders deals (suc k) bid
    → 0 < left_after_phases phases orders deals (suc k) ask
    → limit_at orders bid < limit_at orders ask
