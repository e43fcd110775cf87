use Rattle.day_page.proofs.AddressLemmas.{leads-back}
use Rattle.day_page.proofs.laws.links_lead_to_pages.Goals as goal

pub returns : goal.returns
returns c = leads-back
