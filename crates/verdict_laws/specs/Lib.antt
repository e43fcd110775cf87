-- What a reader must believe: the laws of histories, and that there is one verdict. No private
-- function has a clause of its own.
pub mod Histories
pub mod Existence
