use Rattle.std.proofs.Common.{◌≡◌, ◌≤◌, ◌∙◌, Option, Some, length, sym, ap, subst, arith}
use Rattle.audit_base.specs.declared.findings.Finding.{Finding}
use Rattle.audit_base.specs.declared.flaws.Flaw.{Flaw}
use Rattle.instruction_history.specs.Draft.{KnowsNextRecord}
use Rattle.instruction_history.specs.Flaws.{flaw_finding, NamesNoOrder}
use Rattle.instruction_history.proofs.DraftLemmas.{few-known, still-known}
use Rattle.instruction_history.proofs.HistoryOrFlawLemmas.{own-more}
use Rattle.instruction_history.proofs.history_or_flaw.HistoryOrFlaw.take.Goals as goal

pub take-requires : goal.take-requires
take-requires c =
    let few : length c.args.self.now.so_far.orders.items ≤ length c.requires.entries =
    few-known c.requires.symbol c.requires.entries c.args.self.now.so_far (flaw_finding c.args.self.now.flaw) (ap flaw_finding c.in_default.is) c.requires.is.known in
    omega (arith, few, c.requires.fits_indices, c.args.self.now.so_far.orders.ok.0)

pub returns-in-Some : goal.returns-in-Some
returns-in-Some c = λ symbol entries has own at.
    record {
      known = still-known symbol entries c.args.entry.now c.args.self.now.so_far (flaw_finding c.args.self.now.flaw) _ (ap flaw_finding c.in-Some.is) has.known;
      alone = has.alone;
    }

pub returns-in_default-2 : goal.returns-in_default-2
returns-in_default-2 c = λ symbol entries has own at.
    let found : flaw_finding c.in_ok-place.field-0 ≡ flaw_finding c.args.self.now.flaw = ap flaw_finding (c.in_default-2.is ∙ sym c.in_default.is) in
    record {
      known = own-more symbol entries c.args.entry.now c.args.place c.args.self.now.so_far c.take.new.self (flaw_finding c.args.self.now.flaw) (flaw_finding c.args.self.now.flaw) at (ap flaw_finding c.in_default.is) own has.known
          (subst (λ (f : Option Finding). KnowsNextRecord c.args.self.now.so_far c.take.new.self c.args.place c.args.entry.now f) found c.in_ok-place.ensures.knows);
      alone = has.alone;
    }

pub returns : goal.returns
returns c = λ symbol entries has own at. record {
  known = own-more symbol entries c.args.entry.now c.args.place c.args.self.now.so_far c.take.new.self (flaw_finding c.args.self.now.flaw) (flaw_finding (Some c.in-Some-2.field-0)) at (ap flaw_finding c.in_default.is) own has.known
      (subst (λ (f : Option Flaw). KnowsNextRecord c.args.self.now.so_far c.take.new.self c.args.place c.args.entry.now (flaw_finding f)) c.in-Some-2.is c.in_ok-place.ensures.knows);
  alone = subst (λ (f : Option Flaw). NamesNoOrder f) c.in-Some-2.is c.in_ok-place.ensures.alone;
}
