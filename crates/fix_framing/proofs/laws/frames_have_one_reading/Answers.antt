use Rattle.fix_framing.proofs.UniqueLemmas.{no-proper-prefix, frames-unique}
use Rattle.fix_framing.proofs.laws.frames_have_one_reading.Goals as goal

pub returns : goal.returns
returns c = record {
  prefix = λ headers frame more body other. no-proper-prefix headers frame more body other;
  one = λ headers frame other body its more rest. frames-unique headers frame other body its more rest;
}
