use Rattle.std.proofs.Common.{subst, ℕ}
use Rattle.call_drawing.specs.Extents.{plot_of_call}
use Rattle.call_drawing.specs.Placed.{IsLayoutOf}
use Rattle.call_drawing.proofs.sections.drawn_section.Goals as goal

pub returns : goal.returns
returns c = record {
  layout = _;
  laid_out = subst (λ (most : ℕ). IsLayoutOf (plot_of_call c.args.numbers.now most) c.args.numbers.now most c.args.marked.now.price c.in_ok-layout.layout) c.greatest_of.ensures c.in_ok-layout.ensures;
  written = c.in_ok-made.ensures;
}
