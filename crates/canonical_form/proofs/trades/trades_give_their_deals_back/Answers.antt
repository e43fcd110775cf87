use Rattle.canonical_form.proofs.TradeLemmas.{are_sound, expected_have_places, give_deals, have_ranges}
use Rattle.canonical_form.proofs.trades.trades_give_their_deals_back.Goals as goal

pub returns-clause-sound : goal.returns-clause-sound
returns-clause-sound c = are_sound

pub returns-clause-deals : goal.returns-clause-deals
returns-clause-deals c = give_deals

pub returns-clause-ranges : goal.returns-clause-ranges
returns-clause-ranges c = have_ranges

pub returns-clause-places : goal.returns-clause-places
returns-clause-places c = expected_have_places
