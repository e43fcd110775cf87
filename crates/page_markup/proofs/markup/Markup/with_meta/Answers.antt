use Rattle.std.proofs.Common.{sym, subst}
use Rattle.page_markup.specs.Trees.{IsMarkup}
use Rattle.page_markup.proofs.TreeLemmas.{joined_is, meta_is}
use Rattle.page_markup.proofs.markup.Markup.with_meta.Goals as goal

pub invariant_of-result : goal.invariant_of-result
invariant_of-result c =
    subst IsMarkup (sym c.in_ok-append_start.ensures) (joined_is _ _ c.self.invariant (meta_is _))
