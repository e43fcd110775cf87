use Rattle.std.proofs.Common.{◌∙◌, ◌++◌, ap}
use Rattle.log_contents.proofs.KeyLemmas.{first-text}
use Rattle.log_contents.proofs.kind_counts.KindCounts.count_first.Goals as goal

pub returns-clause-kinds : goal.returns-clause-kinds
returns-clause-kinds c =
    first-text c.args.kind.now c.args.self.now.kinds.keys c.insert_full.new.self.keys c.extend_from_slice.new.self
    (c.in_ok-extend_from_slice.ensures.items ∙ ap (λ l. l ++ c.args.kind.now) c.in_ok-text.ensures.items) c.requires c.in_ok-insert_full.ensures.keys
