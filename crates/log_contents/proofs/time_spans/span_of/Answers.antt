use Rattle.log_contents.proofs.SpanLemmas.{span-one}
use Rattle.log_contents.proofs.time_spans.span_of.Goals as goal

pub returns : goal.returns
returns c = span-one c.args.time
