use Rattle.matching_core.proofs.CheckLemmas.{IsGoneOver}
use Rattle.matching_core.proofs.checking.check_matching.Given as goal

abbrev pub invariant-deals : goal.invariant-deals
invariant-deals l = IsGoneOver l.uniform l.orders l.deals l.deal-index l.traded.items l.volume
