-- What a reader must believe: the laws of a call. No private function has a clause of its own.
pub mod Laws
pub mod Optimum
pub mod Existence
