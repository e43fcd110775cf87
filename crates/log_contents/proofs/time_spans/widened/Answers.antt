use Rattle.log_contents.proofs.SpanLemmas.{span-more}
use Rattle.log_contents.proofs.time_spans.widened.Goals as goal

pub returns : goal.returns
returns c = λ times is. rw (c.earlier.ensures, c.later.ensures) (span-more times c.args.time c.args.span is)
