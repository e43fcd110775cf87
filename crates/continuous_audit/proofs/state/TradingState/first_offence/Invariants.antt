use Rattle.continuous_audit.specs.Progress.{IsReadyNext}
use Rattle.continuous_audit.proofs.state.TradingState.first_offence.Given as goal

abbrev pub invariant-loop-order : goal.invariant-loop-order
invariant-loop-order l = IsReadyNext l.market l.order l.self
