use Rattle.std.proofs.Common.{◌++◌, ap, ◌∙◌, List, ℕ, length}
use Rattle.std.proofs.lemmas.List.{drop-replicate}
use Rattle.audit_base.proofs.names.block_of.Goals as goal

pub returns : goal.returns
returns c = c.put_first.ensures ∙ ap (λ (rest : List ℕ). c.args.text.now ++ rest) (drop-replicate (length c.args.text.now) 64 0)
