use Rattle.std.specs.Prelude.{length}
use Rattle.fix_days.specs.Framed.{after_mark, mark_of}
use Rattle.fix_days.proofs.UniqueLemmas.{one-reading, some-reading}
use Rattle.fix_days.proofs.laws.days_have_one_reading.Goals as goal

pub returns : goal.returns
returns c = record {
  framed = record {
    some = λ day. some-reading (length (mark_of day)) (after_mark day);
    one = λ day bodies others bad other. one-reading (length (mark_of day)) (after_mark day) bodies others bad other;
  };
}
