use Rattle.std.proofs.Common.{◌≡◌, false, subst}
use Rattle.audit_base.specs.Histories.{symbol_of}
use Rattle.audit_base.specs.Orders.{same_name}
use Rattle.instruction_history.proofs.DraftLemmas.{size-more}
use Rattle.instruction_history.proofs.HistoryOrFlawLemmas.{other-more}
use Rattle.instruction_history.proofs.history_draft.HistoryDraftCollector.pass_over.Goals as goal

pub returns : goal.returns
returns g c = λ entries entry other has.
    record {
      named = has.named;
      count = size-more c.args.self.now.count entries entry has.count;
      kept = other-more g.S.SymbolGhost.symbol c.args.self.now.kept entries entry (subst (λ (s : _). same_name (symbol_of entry) s ≡ false) has.named other) has.kept;
    }
