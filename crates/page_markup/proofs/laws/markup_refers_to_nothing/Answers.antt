use Rattle.page_markup.proofs.NameLemmas.{no-fetch, no-reference}
use Rattle.page_markup.proofs.laws.markup_refers_to_nothing.Goals as goal

pub returns-clause-attributes : goal.returns-clause-attributes
returns-clause-attributes c = no-reference

pub returns-clause-elements : goal.returns-clause-elements
returns-clause-elements c = no-fetch
