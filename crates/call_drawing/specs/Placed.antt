-- Where the parts of the picture of a call lie on its paper.
use Rattle.std.specs.Prelude.{◌≡◌, ℕ, nat_lt, Option, None, Some, if◌then◌else◌}
use Rattle.audit_base.specs.declared.terms.Side.TheVariants.{Buy, Sell}
use Rattle.call_picture.specs.declared.pictures.CallPicture.{CallPicture}
use Rattle.call_drawing.specs.declared.layouts.CallLayout.{CallLayout}
use Rattle.call_drawing.specs.declared.layouts.UprightLine.{UprightLine}
use Rattle.page_plots.specs.declared.plots.Plot.{Plot}
use Rattle.page_plots.specs.declared.shapes.Anchor.{Anchor}
use Rattle.page_plots.specs.declared.shapes.Anchor.TheVariants.{Start, Middle, End}
use Rattle.page_plots.specs.Plots.{AreAxesOf, x_of, y_of}
use Rattle.call_drawing.specs.Bars.{IsPlacedSide}

-- from here on words have their middle over an upright line; before, they begin there
abbrev pub middle_from : ℕ
middle_from = 168

-- from here on words end over an upright line
abbrev pub end_from : ℕ
end_from = 368

-- which point of its words stands over an upright line, so that they stay within the paper
abbrev pub anchor_over : ℕ → Anchor
anchor_over x =
    if nat_lt x middle_from then Start else (if nat_lt x end_from then Middle else End)

-- the upright line of a quantity
abbrev pub upright_at : Plot → ℕ → UprightLine
upright_at plot quantity =
    record { x = x_of plot quantity; anchor = anchor_over (x_of plot quantity) }

-- where the line of a price lies, if there is one
abbrev pub price_height : Plot → Option ℕ → ℕ
price_height plot None = 0
price_height plot (Some price) = y_of plot price

-- the parts of the picture of a call lie where their numbers lie in the plot
pub record IsLayoutOf (plot : Plot) (picture : CallPicture) (most : ℕ) (price : Option ℕ)
    (layout : CallLayout) : Type 0 where
  pub axes : AreAxesOf plot layout.axes
  pub bids : IsPlacedSide plot Buy picture.bids layout.bids
  pub asks : IsPlacedSide plot Sell picture.asks layout.asks
  pub volume : layout.volume ≡ upright_at plot picture.volume
  pub greatest : layout.greatest ≡ upright_at plot most
  pub height : layout.price_y ≡ price_height plot price
