-- What is known of a day after its first phases.
use Rattle.std.specs.Prelude.{◌≡◌, ◌<◌, ℕ, ◌+◌, List, length}
use Rattle.audit_base.specs.declared.orders.Order.{Order}
use Rattle.audit_base.specs.declared.orders.Deal.{Deal}
use Rattle.audit_base.specs.Deals.{AreTotals, traded, number_at}
use Rattle.audit_base.specs.Rules.{Conforms}
use Rattle.session_audit.specs.declared.phases.Phase.{Phase}
use Rattle.session_audit.specs.declared.phases.PhaseKind.{PhaseKind}
use Rattle.session_audit.specs.Phases.{rule_of}
use Rattle.session_audit.specs.PhaseOrders.{list_below, traded_before_phase, left_after_phases, left_after_phase}
use Rattle.session_audit.specs.Days.{PhaseConforms}
use Rattle.session_audit.specs.Leaving.{EndsBy}
use Rattle.session_audit.specs.Numbers.{WithinQuantities}

-- the first k phases conform; what each order traded in them, and what they left of it, which is at
-- most its written quantity
pub record IsDaySoFar (phases : List Phase) (orders : List Order) (deals : List Deal) (k : ℕ)
    (traded left : List ℕ) : Type 0 where
  pub conformed : (j : ℕ) → j < k → PhaseConforms phases orders deals j
  pub traded_is : traded ≡ list_below (traded_before_phase phases orders deals k) (length orders)
  pub left_is : (i : ℕ) → number_at left i ≡ left_after_phases phases orders deals k i
  pub most : WithinQuantities orders left

-- a phase that conforms and ends at `last`, with what each order traded in it
pub record HasPhaseTotals (kind : PhaseKind) (orders : List Order) (deals : List Deal) (last : ℕ)
    (traded : List ℕ) : Type 0 where
  pub conforms : Conforms (rule_of kind) orders deals
  pub totals : AreTotals orders deals traded
  pub ends : EndsBy orders deals last

-- what a phase of a kind that ends at `last` leaves of each of its orders
abbrev pub left_numbers_after_phase : PhaseKind → List Order → List Deal → ℕ → List ℕ
left_numbers_after_phase kind orders deals last =
    list_below (left_after_phase kind orders deals last) (length orders)

-- each number is the one before, with that of the phase added
pub record AddsNumbers (before phase after : List ℕ) : Type 0 where
  pub count : length after ≡ length before
  pub each : (i : ℕ) → i < length before
      → number_at after i ≡ number_at before i + number_at phase i

-- a phase that conforms and ends at `last` is added to the phases before it: to what each order
-- traded before is added what it traded in the phase, and what the phase leaves of each order is
-- kept
pub record AddsPhase (kind : PhaseKind) (orders : List Order) (deals : List Deal) (last : ℕ)
    (before after left : List ℕ) : Type 0 where
  pub conforms : Conforms (rule_of kind) orders deals
  pub count : length after ≡ length before
  pub added : (i : ℕ) → i < length before
      → number_at after i ≡ number_at before i + traded deals i
  pub left_is : left ≡ left_numbers_after_phase kind orders deals last
