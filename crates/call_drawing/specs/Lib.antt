-- What a reader must believe: where the bars and lines of a call lie, what is drawn of a step, of an
-- order of the evidence, of the volume and the price, and the section of a page that has them.
pub mod Bars
pub mod Extents
pub mod Placed
pub mod Steps
pub mod Marks
pub mod Lines
pub mod Captions
pub mod Sections
