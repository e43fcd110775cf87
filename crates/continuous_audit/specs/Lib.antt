-- What a reader must believe: the answer of the audit.
pub mod Audits
-- What private functions pass on.
pub mod Books
pub mod Chains
pub mod DealFindings
pub mod Endings
pub mod Fills
pub mod Flaws
pub mod Holding
pub mod IncomingDeals
pub mod IndexedDeals
pub mod Matching
pub mod OrderNumbers
pub mod Pairs
pub mod Progress
pub mod Records
pub mod Scans
pub mod Spreads
