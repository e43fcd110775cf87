-- What a reader must believe: the sums along chains, Before, Entered and Size of each order, and what
-- orders have traded.
pub mod Sums
pub mod Families
pub mod Arrivals
pub mod DealtOrders
-- What private functions pass on.
pub mod Resting
pub mod PrefixSums
pub mod Ranges
