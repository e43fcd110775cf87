use Rattle.session_audit.specs.Phases.{first_place, end_place}
use Rattle.session_audit.specs.PhaseOrders.{left_after_phases, chain_before_phase}
use Rattle.session_audit.proofs.PhaseListLemmas.{phase-is_list, phase-is_regular}
use Rattle.session_audit.proofs.laws.phase_orders_are_regular.Goals as goal

pub returns-clause-order_list : goal.returns-clause-order_list
returns-clause-order_list c phases orders deals k list =
    phase-is_list orders list (end_place phases k) (first_place phases k) (left_after_phases phases orders deals k) (chain_before_phase phases orders deals k)

pub returns-clause-regular : goal.returns-clause-regular
returns-clause-regular c phases orders deals k list regular =
    phase-is_regular orders list (end_place phases k) (first_place phases k) (left_after_phases phases orders deals k) (chain_before_phase phases orders deals k) regular
