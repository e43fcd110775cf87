use Rattle.std.proofs.Common.{sym, ◌∙◌}
use Rattle.instruction_history.specs.Flaws.{finding_at}
use Rattle.matching_core.proofs.ResolveLemmas.{duplicate-found, unknown-found, trade-taken}
use Rattle.matching_core.proofs.sound_deals.SoundDeals.take.Goals as goal

pub returns-in-Some-clause-knows : goal.returns-in-Some-clause-knows
returns-in-Some-clause-knows c = λ h is.
    duplicate-found c.args.history.now h c.args.self.now c.args.place c.in-Some.first c.args.trade.now is (sym c.in_ok-first.ensures.earlier ∙ c.in-Some.is)

pub returns-in-Err-clause-knows : goal.returns-in-Err-clause-knows
returns-in-Err-clause-knows c = λ h is.
    unknown-found c.args.history.now h c.args.self.now c.args.place c.args.trade.now (finding_at c.args.place c.in-Err.evidence) is (sym c.in_ok-first.ensures.earlier ∙ c.in_default.is) c.in-Err.ensures.unknown

pub returns-in_ok-add-in-Ok-clause-knows : goal.returns-in_ok-add-in-Ok-clause-knows
returns-in_ok-add-in-Ok-clause-knows c = λ h is.
    trade-taken c.args.history.now h c.args.self.now c.add-in-Ok.new.self c.add.new.self c.args.place c.args.trade.now c.in-Ok.deal is (sym c.in_ok-first.ensures.earlier ∙ c.in_default.is) c.in-Ok.ensures.known c.in-Ok.ensures.deal c.in_ok-first.ensures.adds c.in_ok-add-in-Ok.ensures
