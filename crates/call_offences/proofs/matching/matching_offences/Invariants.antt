use Rattle.call_offences.proofs.ListingLemmas.{IsListedUpto}
use Rattle.call_offences.proofs.matching.matching_offences.Given as goal

abbrev pub invariant-deals : goal.invariant-deals
invariant-deals l = IsListedUpto l.uniform l.orders l.deals l.deal-index l.traded.items l.found.items
