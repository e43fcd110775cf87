use Rattle.std.proofs.Common.{subst}
use Rattle.log_contents.specs.Facts.{AreWithin}
use Rattle.log_contents.proofs.time_spans.span_with.Goals as goal

pub returns-in-Some : goal.returns-in-Some
returns-in-Some c = λ times within. c.widened.ensures times (subst (AreWithin times) c.in-Some.is within)
