use Rattle.std.proofs.Common.{sym}
use Rattle.symbol_offences.proofs.KeptLemmas.{mapped-rise}
use Rattle.symbol_offences.proofs.PlaceLemmas.{index-within}
use Rattle.symbol_offences.proofs.quotes.ending_at.Goals as goal

pub find_place-requires : goal.find_place-requires
find_place-requires c = mapped-rise (λ o. o.place) c.args.orders.now c.requires.rising

pub at-requires : goal.at-requires
at-requires c = index-within (λ o. o.place) c.args.orders.now c.args.place c.in_ok-index.index (sym c.in_ok-index.ensures)
