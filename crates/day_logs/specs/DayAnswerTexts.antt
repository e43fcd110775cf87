-- What is written of a day, and its status.
use Rattle.std.specs.Prelude.{ℕ, List, ◌++◌, nat_lt, if◌then◌else◌}
use Rattle.audit_report.specs.declared.statuses.Status.{Status}
use Rattle.audit_report.specs.declared.statuses.Status.TheVariants.{Accepted, Rejected, Malformed}
use Rattle.audit_report.specs.declared.verdicts.Verdict.TheVariants as verdict
use Rattle.audit_report.specs.Texts.{verdict_text}
use Rattle.audit_report.specs.DayTexts.{day_line}
use Rattle.day_logs.specs.declared.answers.DayAnswer.{DayAnswer}
use Rattle.day_logs.specs.declared.answers.DayAnswer.TheVariants as answer

-- the line that counts the symbols, with what they were judged by, and their lines; or the text of
-- finding 4 alone; or the line of a first bad place
abbrev pub day_answer_text : List ℕ → DayAnswer → List ℕ
day_answer_text question_text (answer.Judged judged) =
    day_line judged.counts question_text ++ judged.lines.items
day_answer_text question_text (answer.Unpaired finding) = verdict_text (verdict.Rejected finding)
day_answer_text question_text (answer.Malformed log bad) = verdict_text (verdict.Malformed log bad)

-- a day is rejected where one of its symbols is, or where its reports do not pair
abbrev pub day_answer_status : DayAnswer → Status
day_answer_status (answer.Judged judged) =
    if nat_lt 0 judged.counts.rejected then Rejected else Accepted
day_answer_status (answer.Unpaired finding) = Rejected
day_answer_status (answer.Malformed log bad) = Malformed
