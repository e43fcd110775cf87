-- The sections of a page that have the picture of continuous trading.
use Rattle.std.specs.Prelude.{◌≡◌, ℕ, Bool, List, ◌++◌, Option, None, Some, codes, is_some}
use Rattle.std.specs.List.{flat_map}
use Rattle.audit_base.specs.declared.findings.Finding.{Finding}
use Rattle.audit_base.specs.declared.orders.Deal.{Deal}
use Rattle.audit_base.specs.declared.orders.Order.{Order}
use Rattle.audit_base.specs.declared.terms.Side.TheVariants.{Buy, Sell}
use Rattle.continuous_picture.specs.declared.columns.PlaceColumn.{PlaceColumn}
use Rattle.continuous_picture.specs.declared.pictures.BookBefore.{BookBefore}
use Rattle.continuous_picture.specs.declared.pictures.ContinuousPicture.{ContinuousPicture}
use Rattle.continuous_picture.specs.Pictures.{IsContinuousPicture}
use Rattle.page_markup.specs.declared.words.Tag.TheVariants as tag
use Rattle.page_plots.specs.declared.plot_axes.Axes.{Axes}
use Rattle.page_plots.specs.declared.plots.Plot.{Plot}
use Rattle.page_plots.specs.PlotAxes.{axes_shapes}
use Rattle.page_plots.specs.Plots.{AreAxesOf}
use Rattle.page_parts.specs.Elements.{text_element}
use Rattle.page_plots.specs.Figures.{figure_section}
use Rattle.page_plots.specs.Marks.{draws_some, marks_of, orders_marked_by}
use Rattle.page_plots.specs.Papers.{plot_paper}
use Rattle.continuous_drawing.specs.declared.book_layouts.BookLayout.{BookLayout}
use Rattle.continuous_drawing.specs.declared.offending.OffendingPlace.{OffendingPlace}
use Rattle.continuous_drawing.specs.declared.sections.MarkedTrading.{MarkedTrading}
use Rattle.continuous_drawing.specs.BookLayouts.{IsBookLayoutOf}
use Rattle.continuous_drawing.specs.Books.{book_paper, line_shapes}
use Rattle.continuous_drawing.specs.Captions.{book_caption, quotes_caption, trading_legend}
use Rattle.continuous_drawing.specs.Columns.{quote_shapes}
use Rattle.continuous_drawing.specs.Extents.{plot_of_trading}
use Rattle.continuous_drawing.specs.Marks.{book_mark, has_book_mark}
use Rattle.continuous_drawing.specs.Offending.{offending_shapes, place_of_offence}
use Rattle.continuous_drawing.specs.Trades.{trades_shapes}

-- the offence of a finding at a place: its property; none where nothing was found
abbrev pub offence_at : Option Finding → ℕ → Option OffendingPlace
offence_at None place = None
offence_at (Some finding) place =
    Some (record { place = place; property = finding.property })

-- what is marked in the picture: of a finding its property, at the record that caused it, and its
-- orders; of an accepted log nothing
abbrev pub marked_in_trading : Option Finding → ℕ → MarkedTrading
marked_in_trading finding place =
    record { offence = offence_at finding place; orders = orders_marked_by finding }

-- a section with a picture, of which words below it say what it shows
abbrev pub worded_figure : List ℕ → List ℕ → List ℕ → List ℕ → List ℕ
worded_figure heading paper shapes words =
    figure_section heading heading paper shapes (text_element tag.Paragraph words)

-- the best limits of both sides, and the trades
abbrev pub number_shapes : Plot → List Order → List Deal → List PlaceColumn → List ℕ
number_shapes plot orders deals columns =
    flat_map (quote_shapes plot) columns ++ trades_shapes plot orders deals columns

-- the axes, the best limits, the trades, the offending place, and the legend
abbrev pub picture_shapes : Plot → Axes → List Order → List Deal → List PlaceColumn → Option OffendingPlace
    → List ℕ
picture_shapes plot axes orders deals columns offence =
    axes_shapes axes (codes "record") ++ number_shapes plot orders deals columns
    ++ offending_shapes plot offence ++ trading_legend

-- the section that has these shapes, and an upright line or none
abbrev pub picture_section : Axes → Bool → List ℕ → List ℕ
picture_section axes has_line shapes = worded_figure (codes "Best bid and best ask by record")
    (plot_paper axes) shapes (quotes_caption has_line)

-- the lines of both sides of a book, and the marks
abbrev pub book_shapes : List Order → MarkedTrading → BookLayout → List ℕ
book_shapes orders marked layout =
    flat_map (line_shapes orders Buy) layout.bids.items
    ++ flat_map (line_shapes orders Sell) layout.asks.items
    ++ marks_of (book_mark layout orders) marked.orders

-- a mark of an order of the evidence is drawn there
abbrev pub marks_a_line : List Order → MarkedTrading → BookLayout → Bool
marks_a_line orders marked layout = draws_some (has_book_mark layout orders) marked.orders

-- the section that has them
abbrev pub book_section : List Order → MarkedTrading → BookLayout → List ℕ
book_section orders marked layout = worded_figure (codes "The book right before the record")
    (book_paper layout) (book_shapes orders marked layout)
    (book_caption (marks_a_line orders marked layout))

-- the section of a book behind what is made: its lines lie where their numbers say
pub record IsWithDrawnBook (orders : List Order) (marked : MarkedTrading) (book : BookBefore)
    (made more : List ℕ) : Type 0 where
  pub layout : BookLayout
  pub laid_out : IsBookLayoutOf orders book layout
  pub written : more ≡ made ++ book_section orders marked layout

-- the same, where there is a book
abbrev pub IsWithBook : List Order → MarkedTrading → Option BookBefore → List ℕ → List ℕ → Type 0
IsWithBook orders marked None made more = more ≡ made
IsWithBook orders marked (Some book) made more = IsWithDrawnBook orders marked book made more

-- the section of the best limits in a plot: the columns, the trades and the offending place lie
-- where their numbers lie in it, and its axes are marked
pub record IsPlottedPicture (plot : Plot) (orders : List Order) (deals : List Deal)
    (columns : List PlaceColumn) (offence : Option OffendingPlace) (text : List ℕ) : Type 0 where
  pub axes : Axes
  pub axes_are : AreAxesOf plot axes
  pub written : text ≡ picture_section axes (is_some offence)
      (picture_shapes plot axes orders deals columns offence)

-- the same in the plot of these places and prices
abbrev pub IsDrawnPicture : List Order → List Deal → ℕ → List PlaceColumn → Option OffendingPlace → List ℕ
    → Type 0
IsDrawnPicture orders deals end columns offence text =
    IsPlottedPicture (plot_of_trading orders end columns) orders deals columns offence text

-- the sections with these numbers: the best limits, and behind them the book, where there is one
pub record AreDrawnSections (orders : List Order) (deals : List Deal) (end : ℕ)
    (numbers : ContinuousPicture) (marked : MarkedTrading) (text : List ℕ) : Type 0 where
  pub picture : List ℕ
  pub drawn : IsDrawnPicture orders deals end numbers.columns.items marked.offence picture
  pub with_book : IsWithBook orders marked numbers.book picture text

-- the sections that have the picture of these orders and deals: its numbers are the best limits at
-- each place, the prices of the trades, and the book right before the offending place
pub record AreContinuousSections (orders : List Order) (deals : List Deal) (end : ℕ)
    (marked : MarkedTrading) (text : List ℕ) : Type 0 where
  pub numbers : ContinuousPicture
  pub numbers_are : IsContinuousPicture orders deals end (place_of_offence marked.offence) numbers
  pub drawn : AreDrawnSections orders deals end numbers marked text
