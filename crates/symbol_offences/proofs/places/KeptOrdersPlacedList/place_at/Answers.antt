use Rattle.std.proofs.Common.{sym}
use Rattle.symbol_offences.proofs.PlaceLemmas.{place-of-member}
use Rattle.symbol_offences.proofs.places.KeptOrdersPlacedList.place_at.Goals as goal

pub returns : goal.returns
returns c = sym (place-of-member (λ e. e.0) c.args.self.now.entries c.args.index c.at.result c.at.ensures)
