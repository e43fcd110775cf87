-- What a reader must believe: the records that the generator makes.
pub mod Generator
