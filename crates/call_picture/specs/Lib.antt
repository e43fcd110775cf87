-- What a reader must believe: the steps of a side, which of them are drawn, and the picture.
pub mod Steps
pub mod Windows
pub mod Pictures
-- What private functions pass on.
pub mod Merging
