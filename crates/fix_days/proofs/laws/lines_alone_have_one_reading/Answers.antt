use Rattle.fix_days.specs.LinesAlone.{lines_of}
use Rattle.fix_days.proofs.AloneLemmas.{lines-have-some, lines-one}
use Rattle.fix_days.proofs.LineLemmas.{soh-line, soh-some}
use Rattle.fix_days.proofs.laws.lines_alone_have_one_reading.Goals as goal

pub returns : goal.returns
returns c = record {
  some = λ soh_text day is. lines-have-some soh_text (soh-some soh_text is) (soh-line soh_text is) 0 0 (lines_of day);
  one = λ soh_text day messages others is. lines-one soh_text (soh-some soh_text is) 0 0 (lines_of day) messages others;
}
