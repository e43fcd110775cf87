use Rattle.std.proofs.Common.{List, ℕ, ap, ◌∙◌, ◌++◌}
use Rattle.page_markup.proofs.TreeLemmas.{element_behind}
use Rattle.page_markup.proofs.markup.Markup.with_element.Goals as goal

pub invariant_of-result : goal.invariant_of-result
invariant_of-result c =
    element_behind c.args.tag c.args.attributes.now _ _ _ _ _ _ c.self.invariant c.inner.invariant c.word.ensures
    (c.in_ok-append_start.ensures) (c.in_ok-extend_from_slice.ensures.items ∙ ap (λ (t : List ℕ). c.append_start.new.out.items ++ t) c.as_slice.ensures.value) c.in_ok-append_end.ensures
