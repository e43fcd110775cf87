use Rattle.call_offences.proofs.ListingLemmas.{AreTotalsOf}
use Rattle.call_offences.proofs.totals.totals_of.Given as goal

abbrev pub invariant-deals : goal.invariant-deals
invariant-deals l = AreTotalsOf l.orders l.deals l.deal-index l.traded.items
