-- What `plain` answers to a day: its messages, each as a line of a FIX log, and where one is bad a
-- line that says so.
use Rattle.std.specs.Prelude.{ℕ, List, [], ◌∷◌, ◌++◌, Option, None, Some}
use Rattle.std.specs.List.{flat_map}
use Rattle.audit_base.specs.declared.faults.BadPlace.{BadPlace}
use Rattle.audit_base.specs.declared.terms.Which.TheVariants.{Orders}
use Rattle.audit_base.specs.Sizes.{soh}
use Rattle.audit_report.specs.declared.statuses.Status.{Status}
use Rattle.audit_report.specs.declared.statuses.Status.TheVariants as status
use Rattle.audit_report.specs.Lines.{malformed_line}
use Rattle.command_run.specs.VerdictAnswers.{IsAnswerWith}
use Rattle.desk_words.specs.declared.dress_words.BadMessages.{BadMessages}
use Rattle.desk_words.specs.declared.dress_words.BadMessages.TheVariants.{EndDay, LeftOut, Reported}
use Rattle.desk_words.specs.declared.dress_words.DayDress.{DayDress}
use Rattle.desk_words.specs.declared.dress_words.DayDress.TheVariants.{Framed, OnLines}
use Rattle.fix_days.specs.declared.faults.BadMessage.{BadMessage}
use Rattle.fix_days.specs.Framed.{IsFramedReading}
use Rattle.fix_days.specs.Laws.{written_line}
use Rattle.fix_days.specs.Lines.{IsLineReading}
use Rattle.fix_messages.specs.Logs.{frame_reason}
use Rattle.plain_logs.specs.BadReports.{IsReadAsReport, whole_line}
use Rattle.plain_logs.specs.LinesAlone.{IsReadWithoutBad}

-- what stands for SOH: the text that is given, or SOH itself
abbrev pub text_for_soh : Option (List ℕ) → List ℕ
text_for_soh None = soh ∷ []
text_for_soh (Some text) = text

-- what is read of a day on lines, by what is done with bad messages: bodies, or the lines of a report
abbrev pub lines_reading : BadMessages → List ℕ → List ℕ → List (List ℕ) → Option BadMessage
    → Type 0
lines_reading EndDay soh_text = IsLineReading soh_text
lines_reading LeftOut soh_text = IsReadWithoutBad soh_text
lines_reading Reported soh_text = IsReadAsReport soh_text

-- what is read of a day in this dress
abbrev pub day_reading : DayDress → List ℕ → List (List ℕ) → Option BadMessage → Type 0
day_reading Framed day = IsFramedReading day
day_reading (OnLines soh_word bad) day = lines_reading bad (text_for_soh soh_word) day

-- what is written of a body, as a line of a FIX log, or of a line of a report
abbrev pub lines_writes : BadMessages → List ℕ → List ℕ
lines_writes EndDay = written_line
lines_writes LeftOut = written_line
lines_writes Reported = whole_line

-- what is written of what is read in this dress
abbrev pub day_writes : DayDress → List ℕ → List ℕ
day_writes Framed = written_line
day_writes (OnLines soh_word bad) = lines_writes bad

-- the place of a bad message, as a report tells it
abbrev pub bad_place_of : BadMessage → BadPlace
bad_place_of bad =
    record { place = bad.place; offset = bad.offset; reason = frame_reason bad.fault }

-- 0, or where a message is bad 3
abbrev pub plain_status : Option BadMessage → Status
plain_status None = status.Accepted
plain_status (Some bad) = status.Malformed

-- where a message is bad, the line that says which, and why
abbrev pub bad_line : Option BadMessage → List ℕ
bad_line None = []
bad_line (Some bad) = malformed_line Orders (bad_place_of bad)

-- The answer is what is written of the bodies, or lines of a report, that are read, one after
-- another, and behind it the line of the bad message that ended the day, if there is one.
pub record IsPlainAnswer (writes : List ℕ → List ℕ)
    (reads : List (List ℕ) → Option BadMessage → Type 0) (status : Status) (text : List ℕ)
    : Type 0 where
  pub items : List (List ℕ)
  pub bad : Option BadMessage
  pub read : reads items bad
  pub answer : IsAnswerWith (plain_status bad) (flat_map writes items ++ bad_line bad) status text
