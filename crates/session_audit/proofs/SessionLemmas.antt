-- The session of a symbol, by what its records give before the phases are looked at.
use Rattle.std.proofs.Common.{◌≡◌, subst, ℕ, Bool, List, Result}
use Rattle.std.specs.Prelude.{IfOk}
use Rattle.std.proofs.lemmas.Result.{IfOk-weaker}
use Rattle.audit_base.specs.declared.faults.NoMemory.{NoMemory}
use Rattle.audit_base.specs.declared.findings.Finding.{Finding}
use Rattle.audit_base.specs.declared.orders.Deal.{Deal}
use Rattle.audit_base.specs.declared.orders.Order.{Order}
use Rattle.audit_base.specs.Histories.{order_list}
use Rattle.audit_base.specs.Trades.{deals_of_symbol}
use Rattle.audit_base.specs.Verdicts.{paired_trades}
use Rattle.audit_report.specs.declared.verdicts.Verdict.TheVariants.{Rejected}
use Rattle.matching_core.specs.declared.deals_draft.ResolvedTrades.{ResolvedTrades}
use Rattle.record_verdict.specs.declared.before_rule.BeforeRule.{BeforeRule}
use Rattle.record_verdict.specs.declared.before_rule.BeforeRule.TheVariants as before_rule
use Rattle.session_audit.specs.declared.phases.Phase.{Phase}
use Rattle.session_audit.specs.declared.verdicts.Session.{Session}
use Rattle.session_audit.specs.SessionVerdicts.{IsRejectedSession, IsSessionAfter, IsSessionOfDeals, IsSessionOfKind}

module _ (symbol : List ℕ) (phases : List Phase) (table : Bool) where
  -- a finding before the phases rejects the session
  pub found-session : (finding : Finding) (session : Session) → IsSessionOfKind (IsRejectedSession (Rejected finding)) session → IsSessionAfter symbol phases table (before_rule.Found finding) session
  found-session finding session made entries paired is = rw is made

  pub found_session : (given : BeforeRule) (finding : Finding) (result : Result Session NoMemory) → given ≡ before_rule.Found finding → IfOk result (IsSessionOfKind (IsRejectedSession (Rejected finding))) → IfOk result (IsSessionAfter symbol phases table given)
  found_session given finding result same made = rw same (IfOk-weaker result _ _ (found-session finding) made)

  -- else it is the session of the deals
  pub sound-session : (resolved : ResolvedTrades) (session : Session) → IsSessionOfKind (IsSessionOfDeals symbol phases table resolved.history resolved.deals.items resolved.count) session
      → IsSessionAfter symbol phases table (before_rule.Sound resolved) session
  sound-session resolved session is entries paired sound =
      let history : List Order = order_list symbol entries in
      rw sound.none
      (subst (λ (n : ℕ). IsSessionOfDeals symbol phases table history (deals_of_symbol history symbol (paired_trades paired)) n session.conforms session.text.items) sound.count
      (subst (λ (ds : List Deal). IsSessionOfDeals symbol phases table history ds resolved.count session.conforms session.text.items) sound.deals
      (subst (λ (os : List Order). IsSessionOfDeals symbol phases table os resolved.deals.items resolved.count session.conforms session.text.items) sound.orders is)))
