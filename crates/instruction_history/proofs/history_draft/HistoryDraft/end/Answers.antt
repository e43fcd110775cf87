use Rattle.std.proofs.lemmas.Result.{IfOk-weaker}
use Rattle.instruction_history.proofs.history_draft.HistoryDraft.end.Goals as goal

pub returns-clause-market : goal.returns-clause-market
returns-clause-market g c = IfOk-weaker c.end.result _ _ (λ orders priced entries has. priced g.S.SymbolGhost.symbol entries has.kept) c.end.ensures.market
