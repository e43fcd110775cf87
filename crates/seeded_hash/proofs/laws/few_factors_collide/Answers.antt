use Rattle.seeded_hash.proofs.CollisionLemmas.{few-collide}
use Rattle.seeded_hash.proofs.laws.few_factors_collide.Goals as goal

pub returns : goal.returns
returns c = few-collide
