use Rattle.std.proofs.Common.{◌≡◌, ◌∙◌, Option, Some, sym, ap, subst}
use Rattle.audit_base.specs.declared.findings.Finding.{Finding}
use Rattle.audit_base.specs.declared.flaws.Flaw.{Flaw}
use Rattle.instruction_history.specs.Flaws.{flaw_finding, NamesNoOrder}
use Rattle.matching_core.specs.DealsSoFar.{KnowsNextTrade}
use Rattle.matching_core.proofs.DraftLemmas.{known-next, still-known}
use Rattle.matching_core.proofs.deals_or_flaw.DealsOrFlaw.take.Goals as goal

pub returns-in-Some : goal.returns-in-Some
returns-in-Some c = λ symbol trades has own at.
    record {
      known = still-known c.args.history.now symbol trades c.args.trade.now c.args.self.now.sound (flaw_finding c.args.self.now.flaw) _ (ap flaw_finding c.in-Some.is) has.known;
      alone = has.alone;
    }

pub returns-in_default-2 : goal.returns-in_default-2
returns-in_default-2 c = λ symbol trades has own at.
    let found : flaw_finding c.in_ok-place.field-0 ≡ flaw_finding c.args.self.now.flaw = ap flaw_finding (c.in_default-2.is ∙ sym c.in_default.is) in
    record {
      known = known-next c.args.history.now symbol trades c.args.trade.now c.args.place c.args.self.now.sound c.take.new.self (flaw_finding c.args.self.now.flaw) (flaw_finding c.args.self.now.flaw) at (ap flaw_finding c.in_default.is) own has.known
          (subst (λ (f : Option Finding). KnowsNextTrade c.args.history.now c.args.self.now.sound c.take.new.self c.args.place c.args.trade.now f) found c.in_ok-place.ensures.knows);
      alone = has.alone;
    }

pub returns : goal.returns
returns c = λ symbol trades has own at. record {
  known = known-next c.args.history.now symbol trades c.args.trade.now c.args.place c.args.self.now.sound c.take.new.self (flaw_finding c.args.self.now.flaw) (flaw_finding (Some c.in-Some-2.field-0)) at (ap flaw_finding c.in_default.is) own has.known
      (subst (λ (f : Option Flaw). KnowsNextTrade c.args.history.now c.args.self.now.sound c.take.new.self c.args.place c.args.trade.now (flaw_finding f)) c.in-Some-2.is c.in_ok-place.ensures.knows);
  alone = subst (λ (f : Option Flaw). NamesNoOrder f) c.in-Some-2.is c.in_ok-place.ensures.alone;
}
