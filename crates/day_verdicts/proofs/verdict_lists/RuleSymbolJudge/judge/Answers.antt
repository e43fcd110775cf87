use Rattle.std.proofs.lemmas.Result.{on_ok_weaker}
use Rattle.day_verdicts.proofs.GivenRecords.{few-next}
use Rattle.day_verdicts.proofs.VerdictSteps.{handed-more}
use Rattle.record_verdict.specs.Scopes.{admission_of}
use Rattle.day_verdicts.proofs.verdict_lists.RuleSymbolJudge.judge.Goals as goal

pub before_rule-requires : goal.before_rule-requires
before_rule-requires g c = few-next c.requires

pub returns : goal.returns
returns g c = on_ok_weaker c.take.result
    (λ takes first entries trades symbols is. handed-more c.args.self.now entries trades symbols c.args.symbol.now c.in_ok-given.given (g.L.VerdictList.has_taken first) c.in_ok-judged.judged c.args.list.now c.take.new.self (c.in_ok-given.ensures.gives (admission_of c.args.self.now) entries trades c.args.symbol.now is) c.in_ok-judged.ensures.verdict (takes first))
    c.take.ensures
