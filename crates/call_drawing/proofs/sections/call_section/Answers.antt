use Rattle.call_drawing.proofs.sections.call_section.Goals as goal

pub returns : goal.returns
returns c = record { numbers = _; numbers_are = c.in_ok-numbers.ensures.picture; drawn = c.in_ok-made.ensures }
