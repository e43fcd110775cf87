use Rattle.fix_days.proofs.LineLemmas.{soh-line, soh-some}
use Rattle.fix_days.proofs.LineSomeLemmas.{some-line-reading}
use Rattle.fix_days.proofs.LineUniqueLemmas.{one-line-reading}
use Rattle.fix_days.proofs.laws.days_on_lines_have_one_reading.Goals as goal

pub returns : goal.returns
returns c = record {
  some = λ soh_text day is. some-line-reading soh_text (soh-some soh_text is) (soh-line soh_text is) day;
  one = λ soh_text day bodies others bad other is. one-line-reading soh_text (soh-some soh_text is) day bodies others bad other;
}
