-- What a reader must believe: where the parts of a paper lie, straight axes, round numbers, which of
-- them are marked, and that an axis keeps the order of numbers; where numbers and prices lie in a
-- plot; how shapes, lines and axes are written, and how far the paper reaches; the classes of the two
-- sides and their legend, the title and the badge of an order, which orders are marked, and the
-- section of a picture.
pub mod Measures
pub mod Axes
pub mod Rounds
pub mod Ticks
pub mod AxisLaws
pub mod Plots
pub mod Shapes
pub mod PlotLines
pub mod PlotAxes
pub mod Papers
pub mod Sides
pub mod Orders
pub mod Marks
pub mod Figures
-- What private functions pass on.
pub mod SoFar
