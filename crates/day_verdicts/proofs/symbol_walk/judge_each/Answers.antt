use Rattle.std.proofs.Common.{◌≡◌, length, arith}
use Rattle.day_verdicts.proofs.WalkSteps.{goes-on, next-at, walked-all, walked-on}
use Rattle.day_verdicts.proofs.symbol_walk.judge_each.Goals as goal

pub judge-requires : goal.judge-requires
judge-requires g c =
    let next = next-at _ c.args.share c.args.ended c.loop-records.invariant.0 c.in-Some.ensures.steps.0 c.loop-records.invariant.1 c.symbol_at.ensures c.in-Some-symbol_at.is in
    goes-on next (g.J.SymbolJudge.has_judged c.args.judge.now) c.args.first c.loop-records.judged c.loop-records.invariant.2 c.requires.few (omega (arith, c.args.ended.kept.ok.0, c.args.ended.kept.ok.1, c.args.ended.kept.small))

pub loop-records-preserved : goal.loop-records-preserved
loop-records-preserved g c =
    let next = next-at _ c.args.share c.args.ended c.loop-records.invariant.0 c.in-Some.ensures.steps.0 c.loop-records.invariant.1 c.symbol_at.ensures c.in-Some-symbol_at.is in
    walked-on next (g.J.SymbolJudge.has_judged c.args.judge.now) c.args.first c.loop-records.judged c.loop-records.invariant.2 c.judge.new.kept c.in_ok-judge.ensures

pub returns : goal.returns
returns g c =
    let none : length c.loop-records.records-iterator.rest.items ≡ 0 = omega (arith, c.in-None.ensures.steps.0, c.loop-records.records-iterator.rest.ok.0) in
    walked-all (g.J.SymbolJudge.admission c.args.judge.now) (g.J.SymbolJudge.has_judged c.args.judge.now c.args.first) c.args.share c.args.ended c.loop-records.share_index c.loop-records.yielded c.loop-records.records-iterator.rest.items c.loop-records.judged c.loop-records.invariant.0 none c.loop-records.invariant.1 c.loop-records.invariant.2
