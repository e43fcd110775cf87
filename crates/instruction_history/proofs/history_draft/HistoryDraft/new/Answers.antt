use Rattle.std.proofs.Common.{refl}
use Rattle.instruction_history.proofs.history_draft.HistoryDraft.new.Goals as goal

pub returns : goal.returns
returns g c = record { named = c.requires; count = refl; kept = c.new.ensures g.S.SymbolGhost.symbol }
