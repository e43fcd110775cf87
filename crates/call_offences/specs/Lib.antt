-- What the public contracts cite.
pub mod Inside
pub mod Listings
-- What private functions pass on.
pub mod DealOffences
