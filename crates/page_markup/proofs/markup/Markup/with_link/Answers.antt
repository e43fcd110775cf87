use Rattle.std.proofs.Common.{List, ℕ, ap, ◌∙◌, ◌++◌}
use Rattle.page_markup.proofs.TreeLemmas.{link_behind}
use Rattle.page_markup.proofs.markup.Markup.with_link.Goals as goal

pub invariant_of-result : goal.invariant_of-result
invariant_of-result c =
    link_behind c.args.address.now _ _ _ _ _ c.requires c.self.invariant c.inner.invariant
    c.in_ok-append_link_start.ensures (c.in_ok-extend_from_slice.ensures.items ∙ ap (λ (t : List ℕ). c.append_link_start.new.out.items ++ t) c.as_slice.ensures.value) c.in_ok-extend_from_slice-2.ensures.items
