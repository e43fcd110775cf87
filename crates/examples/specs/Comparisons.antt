-- What an example wants of a run: the report, and the status that goes with it.
use Rattle.std.specs.Prelude.{ℕ, Bool, ◌==◌, List, [], ◌∷◌, codes, unwrap_or}
use Rattle.std.specs.List.{starts_with}
use Rattle.audit_base.specs.Least.{first_answer, only_if}
use Rattle.audit_report.specs.declared.statuses.Status.{Status}
use Rattle.audit_report.specs.declared.statuses.Status.TheVariants.{Accepted, Rejected, Usage, Malformed, ReadFault, TooLong}

-- a report that begins with these letters
abbrev pub report_begins : List ℕ → List ℕ → Bool
report_begins report word = starts_with ◌==◌ report word

-- the status that goes with a report, by its first word
abbrev pub status_of_report : List ℕ → Status
status_of_report report = unwrap_or (first_answer (
    only_if (report_begins report (codes "rejected,")) Rejected
    ∷ only_if (report_begins report (codes "refused,")) Rejected
    ∷ only_if (report_begins report (codes "usage:")) Usage
    ∷ only_if (report_begins report (codes "malformed,")) Malformed
    ∷ only_if (report_begins report (codes "readfault,")) ReadFault
    ∷ only_if (report_begins report (codes "toolong,")) TooLong ∷ [])) Accepted
