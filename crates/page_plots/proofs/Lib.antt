mod ShapeLemmas
pub mod SeriesLemmas
mod PlotLemmas
pub mod BehindLemmas
mod AxisLemmas
mod TickLemmas
mod RoundLemmas
