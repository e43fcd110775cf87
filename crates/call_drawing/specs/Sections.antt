-- The section of a page that has the picture of a call.
use Rattle.std.specs.Prelude.{◌≡◌, ℕ, List, ◌++◌, Option, None, Some, codes}
use Rattle.audit_base.specs.declared.findings.Finding.{Finding}
use Rattle.audit_base.specs.declared.findings.Short.{Short}
use Rattle.audit_base.specs.declared.orders.Deal.{Deal}
use Rattle.audit_base.specs.declared.orders.Order.{Order}
use Rattle.audit_base.specs.declared.terms.Side.TheVariants.{Buy, Sell}
use Rattle.call_picture.specs.declared.pictures.CallPicture.{CallPicture}
use Rattle.call_picture.specs.Pictures.{IsCallPicture}
use Rattle.page_plots.specs.PlotAxes.{axes_shapes}
use Rattle.page_plots.specs.Figures.{figure_section}
use Rattle.page_plots.specs.Marks.{draws_some, marks_of, orders_marked_by}
use Rattle.page_plots.specs.Papers.{plot_paper}
use Rattle.call_drawing.specs.declared.layouts.CallLayout.{CallLayout}
use Rattle.call_drawing.specs.declared.sections.MarkedCall.{MarkedCall}
use Rattle.call_drawing.specs.Captions.{call_legend, caption}
use Rattle.call_drawing.specs.Lines.{greatest_shapes, price_shapes, volume_shapes}
use Rattle.call_drawing.specs.Marks.{has_step_mark, step_mark}
use Rattle.call_drawing.specs.Extents.{plot_of_call}
use Rattle.call_drawing.specs.Placed.{IsLayoutOf}
use Rattle.call_drawing.specs.Steps.{side_shapes}

-- the greatest volume that a finding tells, if it does
abbrev pub short_of : Option Finding → Option Short
short_of None = None
short_of (Some finding) = finding.short

-- what is marked in the picture: of an accepted log the price, of a finding also its orders and the
-- greatest volume that it tells
abbrev pub marked_in_call : Option Finding → Option ℕ → MarkedCall
marked_in_call finding price =
    record { orders = orders_marked_by finding; short = short_of finding; price = price }

-- the steps of both sides
abbrev pub both_sides : List Order → CallLayout → List ℕ
both_sides orders layout =
    side_shapes orders Buy layout.bids ++ side_shapes orders Sell layout.asks

-- the lines
abbrev pub call_lines : CallPicture → MarkedCall → CallLayout → List ℕ
call_lines numbers marked layout =
    price_shapes layout.price_y marked.price ++ volume_shapes layout.volume numbers.volume
    ++ greatest_shapes layout.greatest marked.short

-- the shapes of the picture
abbrev pub call_shapes : List Order → CallPicture → MarkedCall → CallLayout → List ℕ
call_shapes orders numbers marked layout =
    axes_shapes layout.axes (codes "quantity, best orders first") ++ both_sides orders layout
    ++ call_lines numbers marked layout
    ++ marks_of (step_mark layout orders) marked.orders ++ call_legend

-- the caption, which speaks of marks where one is drawn
abbrev pub call_caption : List Order → CallPicture → MarkedCall → CallLayout → List ℕ
call_caption orders numbers marked layout =
    caption numbers (draws_some (has_step_mark layout orders) marked.orders)

-- the section: the picture, and its caption
abbrev pub call_section : List Order → CallPicture → MarkedCall → CallLayout → List ℕ
call_section orders numbers marked layout = figure_section (codes "The orders of the call")
    (codes "Bids and asks by price and quantity") (plot_paper layout.axes)
    (call_shapes orders numbers marked layout) (call_caption orders numbers marked layout)

-- the greatest volume, where the finding tells it
abbrev pub greatest_of : Option Short → ℕ
greatest_of None = 0
greatest_of (Some short) = short.greatest

-- the section of a page that has the picture of a call with these numbers: its parts lie where
-- their numbers lie in the plot
pub record IsDrawnSection (orders : List Order) (numbers : CallPicture) (marked : MarkedCall)
    (text : List ℕ) : Type 0 where
  pub layout : CallLayout
  pub laid_out : IsLayoutOf (plot_of_call numbers (greatest_of marked.short)) numbers
      (greatest_of marked.short) marked.price layout
  pub written : text ≡ call_section orders numbers marked layout

-- the section that has the picture of these orders and deals
pub record IsCallSection (orders : List Order) (deals : List Deal) (marked : MarkedCall)
    (text : List ℕ) : Type 0 where
  pub numbers : CallPicture
  pub numbers_are : IsCallPicture orders deals numbers
  pub drawn : IsDrawnSection orders numbers marked text
