use Rattle.audit_run.proofs.OneAnswerLemmas.{answer-is-one}
use Rattle.audit_run.proofs.laws.answer_is_one.Goals as goal

pub returns : goal.returns
returns c = answer-is-one (record {
  verdict = c.one_verdict.ensures;
  certificate = c.one_certificate.ensures;
  agreed = c.one_answer_for_a_text.ensures.rule;
  refused = c.one_answer_for_a_text.ensures.line;
  session = c.one_session.ensures;
  expected = c.expected_trades_are_one.ensures;
  ranges = c.records_are_in_range.ensures.trades;
})
