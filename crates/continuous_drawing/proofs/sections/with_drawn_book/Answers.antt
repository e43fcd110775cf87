use Rattle.continuous_drawing.proofs.sections.with_drawn_book.Goals as goal

pub returns : goal.returns
returns c = record { layout = _; laid_out = c.in_ok-layout.ensures; written = c.in_ok-more.ensures }
