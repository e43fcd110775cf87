use Rattle.std.proofs.Common.{ℕ, Option, subst}
use Rattle.continuous_picture.specs.Pictures.{IsContinuousPicture}
use Rattle.continuous_drawing.proofs.sections.continuous_sections.Goals as goal

pub returns : goal.returns
returns c = record {
  numbers = _;
  numbers_are = subst (λ (place : Option ℕ). IsContinuousPicture c.args.orders.now c.args.deals.now c.args.end place c.in_ok-numbers.numbers) c.place_of_offence-place.ensures c.in_ok-numbers.ensures;
  drawn = c.in_ok-made.ensures;
}
