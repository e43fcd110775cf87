use Rattle.std.proofs.Common.{◌≡◌, ◌<◌, ◌≤◌, ℕ}
use Rattle.audit_base.specs.Deals.{deal_at}
use Rattle.audit_base.specs.Continuous.{cause}
use Rattle.session_audit.specs.Dealing.{causes_below}
use Rattle.session_audit.specs.Phases.{last_place}
use Rattle.session_audit.proofs.dealing.causes_of.Given as goal

abbrev pub invariant-loop-index : goal.invariant-loop-index
invariant-loop-index l = record {
  are : l.causes.items ≡ causes_below l.orders l.deals l.index;
  fits : (i : ℕ) → i < l.index → cause l.orders (deal_at l.deals i) ≤ last_place;
}
