use Rattle.fix_framing.proofs.Fix44Lemmas.{IsFrame-any}
use Rattle.fix_framing.proofs.laws.one_version_is_of_any.Goals as goal

pub returns : goal.returns
returns c = λ frame body. IsFrame-any frame body
