-- What a reader must believe: the shares of a list of deals, and the trade records of deals.
pub mod Shares
pub mod Trades
-- What private functions pass on.
pub mod Parts
