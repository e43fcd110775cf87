use Rattle.call_laws.proofs.FairLemmas.{fair-fills}
use Rattle.call_laws.proofs.laws.fair_volume_fills_by_rank.Goals as goal

pub returns : goal.returns
returns c = fair-fills
