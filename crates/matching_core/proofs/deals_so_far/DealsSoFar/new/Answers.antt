use Rattle.std.proofs.Common.{refl}
use Rattle.matching_core.proofs.deals_so_far.DealsSoFar.new.Goals as goal

pub returns : goal.returns
returns g c = record { count = refl; kept = c.new.ensures g.M.HistoryGhost.orders g.M.HistoryGhost.symbol }
