use Rattle.std.proofs.Common.{◌≡◌}
use Rattle.session_audit.specs.Dealing.{deals_between}
use Rattle.session_audit.proofs.dealing.deals_between.Given as goal

abbrev pub invariant-loop-index : goal.invariant-loop-index
invariant-loop-index l = l.part.items ≡ deals_between l.deals l.causes l.first l.last l.index
