-- the reports of a trade, and how reports are paired into trades, which the public calls cite
pub mod Reports
pub mod Pairings
pub mod Ranges
-- what a draft has been handed, and what its private functions pass on to one another
pub mod Drafts
