use Rattle.matching_core.proofs.DraftLemmas.{known-none}
use Rattle.matching_core.proofs.deals_or_flaw.DealsOrFlaw.new.Goals as goal

pub returns : goal.returns
returns c = λ orders symbol. record { known = known-none orders symbol c.new.result (c.new.ensures orders); alone = tt }
