use Rattle.std.proofs.Common.{subst}
use Rattle.trade_reports.specs.Pairings.{result_of_paired}
use Rattle.record_verdict.specs.declared.scopes.Scope.{Scope}
use Rattle.record_verdict.specs.BeforeRule.{IsBeforeRule}
use Rattle.record_verdict.proofs.judging.judge.Goals as goal

pub returns-clause-judged : goal.returns-clause-judged
returns-clause-judged c =
    let given = subst (λ (s : Scope). IsBeforeRule s c.args.entries.now (result_of_paired c.args.trades.now) c.in_ok-given.given) c.scope.ensures c.in_ok-given.ensures.gives in
    rw c.into_verdict.ensures (c.in_ok-judged.ensures.verdict.of_records c.args.entries.now (result_of_paired c.args.trades.now) given)

pub returns-clause-in_range : goal.returns-clause-in_range
returns-clause-in_range c = rw c.into_verdict.ensures c.in_ok-judged.ensures.in_range
