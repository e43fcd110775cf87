use Rattle.std.proofs.Common.{List, subst}
use Rattle.continuous_picture.specs.declared.columns.PlaceColumn.{PlaceColumn}
use Rattle.continuous_drawing.specs.Sections.{IsDrawnPicture}
use Rattle.continuous_drawing.proofs.sections.drawn_sections.Goals as goal

pub returns : goal.returns
returns c = record {
  picture = _;
  drawn = subst (λ (columns : List PlaceColumn). IsDrawnPicture c.args.orders.now c.args.deals.now c.args.end columns c.args.marked.now.offence c.in_ok-picture.picture) c.deref.ensures.value c.in_ok-picture.ensures;
  with_book = c.in_ok-made.ensures;
}
