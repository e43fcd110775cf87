-- What a reader must believe: the picture of a rule, and the places that it is about.
pub mod Offending
pub mod RulePictures
