-- What came of reading a log of a shelf for what is in it.
use Rattle.std.specs.Prelude.{◌≡◌, ℕ, List, Result, Ok, MatchResult}
use Rattle.audit_base.specs.declared.faults.BadPlace.{BadPlace}
use Rattle.audit_base.specs.declared.terms.Which.{Which}
use Rattle.log_contents.specs.declared.summaries.Summary.{Summary}
use Rattle.log_contents.specs.Summaries.{IsSummaryOf, LogItems}
use Rattle.log_verdict.specs.declared.reading.ReadingFault.{ReadingFault}
use Rattle.log_verdict.specs.Collecting.{IsUnread}
use Rattle.log_verdict.specs.Steps.{Reading, IsReadAs}

-- A log that says this is good, and this is told of what it has.
pub record HasSummary (said : Result LogItems BadPlace) (summary : Summary) : Type 0 where
  pub items : LogItems
  pub has : said ≡ Ok items
  pub is : IsSummaryOf items summary

-- the log of this name was read to its end, and this is told of what it has; or it was not read
-- into records, for a cause
abbrev pub GivesSummary : {R : Type 0} → (List ℕ → Result LogItems BadPlace)
    → (List ℕ → Result R BadPlace) → Reading → Which → List ℕ → Result Summary ReadingFault → Type 0
GivesSummary items_of records_of r log name result =
    MatchResult result
    (λ summary. IsReadAs r log name (λ bytes. HasSummary (items_of bytes) summary))
    (IsUnread records_of r log name)
