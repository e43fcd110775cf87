use Rattle.page_markup.proofs.EscapeLemmas.{escaped-plain, read-back}
use Rattle.page_markup.proofs.laws.text_is_no_markup.Goals as goal

pub returns-clause-plain : goal.returns-clause-plain
returns-clause-plain c = λ text. escaped-plain text

pub returns-clause-read : goal.returns-clause-read
returns-clause-read c = read-back
