-- What private functions pass on.
pub mod Books
pub mod Crossing
pub mod DealFacts
pub mod StateAfterDeals
pub mod Passing
pub mod Scanning
pub mod States
