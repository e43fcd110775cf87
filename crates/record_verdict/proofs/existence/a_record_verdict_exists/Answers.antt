use Rattle.record_verdict.proofs.ExistenceLemmas.{judgement}
use Rattle.record_verdict.proofs.existence.a_record_verdict_exists.Goals as goal

pub returns : goal.returns
returns c = judgement (record {
  exists = c.verdict_exists.ensures;
  one = c.verdict_is_the_only_one.ensures;
  cut = c.extremes_exist.ensures.cut;
  executable = c.extremes_exist.ensures.executable;
  maximum = c.maximum_trades_are_expected.ensures;
  uniform = c.uniform_trades_are_expected.ensures;
  quantities = c.only_quantities.ensures;
  pairs = c.continuous_uniqueness.ensures.only;
})
