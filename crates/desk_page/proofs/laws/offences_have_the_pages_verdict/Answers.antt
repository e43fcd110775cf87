use Rattle.desk_page.proofs.AskLemmas.{has-verdict}
use Rattle.desk_page.proofs.laws.offences_have_the_pages_verdict.Goals as goal

pub returns : goal.returns
returns c = has-verdict c.record_verdict_is_one.ensures c.nothing_is_found_unasked.ensures
