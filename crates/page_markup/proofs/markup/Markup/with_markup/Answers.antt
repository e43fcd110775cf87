use Rattle.std.proofs.Common.{List, ℕ, sym, subst, ap, ◌∙◌, ◌++◌}
use Rattle.page_markup.specs.Trees.{IsMarkup}
use Rattle.page_markup.proofs.TreeLemmas.{joined_is}
use Rattle.page_markup.proofs.markup.Markup.with_markup.Goals as goal

pub invariant_of-result : goal.invariant_of-result
invariant_of-result c =
    let behind = ap (λ (t : List ℕ). c.self.inside.text.items ++ t) c.as_slice.ensures.value in
    subst IsMarkup (sym (c.in_ok-extend_from_slice.ensures.items ∙ behind)) (joined_is _ _ c.self.invariant c.other.invariant)
