use Rattle.page_plots.proofs.AxisLemmas.{point-rises}
use Rattle.page_plots.proofs.axis_laws.numbers_keep_their_order.Goals as goal

pub returns : goal.returns
returns c = point-rises
