use Rattle.std.proofs.Common.{take}
use Rattle.instruction_history.specs.HistoryDraft.{IsHistoryDraft}
use Rattle.instruction_history.proofs.history_draft.draft_of.Given as goal

-- the draft has been handed the records so far
abbrev pub invariant-loop-entry : goal.invariant-loop-entry
invariant-loop-entry g l = IsHistoryDraft g.S.SymbolGhost.symbol l.draft (take l.entry-index l.entries)
