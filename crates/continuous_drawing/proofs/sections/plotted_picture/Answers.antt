use Rattle.std.proofs.Common.{◌∙◌, ap}
use Rattle.continuous_drawing.specs.Sections.{picture_section}
use Rattle.continuous_drawing.proofs.sections.plotted_picture.Goals as goal

pub returns : goal.returns
returns c =
    let has_line = c.is_some.ensures in
    record { axes = _; axes_are = c.in_ok-axes.ensures; written = c.in_ok-made.ensures ∙ (λ i. picture_section c.in_ok-axes.axes (has_line i) (c.in_ok-shapes.ensures i)) }
