use Rattle.std.proofs.Common.{◌≡◌, false, subst}
use Rattle.audit_base.specs.Orders.{same_name}
use Rattle.matching_core.proofs.DraftLemmas.{size-more}
use Rattle.matching_core.proofs.DealsOrFlawLemmas.{other-trade}
use Rattle.matching_core.proofs.deals_draft.DealsDraftCollector.pass_over.Goals as goal

pub returns : goal.returns
returns g c = λ trades trade other has.
    record {
      named = has.named;
      among = has.among;
      so_far = record {
        count = size-more c.args.self.now.so_far.count trades trade has.so_far.count;
        kept = other-trade g.M.HistoryGhost.orders g.M.HistoryGhost.symbol c.args.self.now.so_far.kept trades trade (subst (λ (s : _). same_name trade.symbol s ≡ false) has.named other) has.so_far.kept;
      };
    }
