-- What is known of the history of one symbol, with one record more.
use Rattle.std.proofs.Common.{◌≡◌, ◌+◌, ℕ, true, false, Option, None, List, [], ◌∷◌, ◌++◌, length}
use Rattle.audit_base.specs.declared.findings.Finding.{Finding}
use Rattle.audit_base.specs.declared.records.OrderRecord.{OrderRecord}
use Rattle.audit_base.specs.Orders.{same_name}
use Rattle.audit_base.specs.Histories.{symbol_of, history}
use Rattle.instruction_history.specs.declared.history_so_far.HistorySoFar.{HistorySoFar}
use Rattle.instruction_history.specs.declared.history_or_flaw.HistoryOrFlaw.{HistoryOrFlaw}
use Rattle.instruction_history.specs.Draft.{IsHistoryKnown, KnowsNextRecord}
use Rattle.instruction_history.specs.Flaws.{flaw_finding}
use Rattle.instruction_history.specs.HistoryOrFlaw.{IsHistoryOrFlaw}
use Rattle.instruction_history.proofs.DraftLemmas.{known-of, known-other, so_far-known}

-- a record of another symbol changes nothing
pub other-more : (symbol : List ℕ) (kept : HistoryOrFlaw) (entries : List OrderRecord) (x : OrderRecord) → same_name (symbol_of x) symbol ≡ false
    → IsHistoryOrFlaw symbol kept entries → IsHistoryOrFlaw symbol kept (entries ++ x ∷ [])
other-more symbol kept entries x other is = record {
  known = known-other symbol entries x kept.so_far (flaw_finding kept.flaw) other is.known;
  alone = is.alone;
}

-- a record of the symbol was taken, and its finding, if it has one, is kept
pub own-more : (symbol : List ℕ) (entries : List OrderRecord) (x : OrderRecord) (place : ℕ) (old new : HistorySoFar) (before found : Option Finding) → place ≡ length entries + 1 → before ≡ None
    → same_name (symbol_of x) symbol ≡ true → IsHistoryKnown (history symbol entries) old before → KnowsNextRecord old new place x found → IsHistoryKnown (history symbol (entries ++ x ∷ [])) new found
own-more symbol entries x place old new before found at none own known takes =
    known-of symbol entries x place new found at own (takes (history symbol entries) (so_far-known (history symbol entries) old before none known))
