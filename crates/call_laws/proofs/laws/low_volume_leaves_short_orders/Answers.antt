use Rattle.call_laws.proofs.ShortLemmas.{lesser-leaves}
use Rattle.call_laws.proofs.laws.low_volume_leaves_short_orders.Goals as goal

pub returns : goal.returns
returns c = lesser-leaves
