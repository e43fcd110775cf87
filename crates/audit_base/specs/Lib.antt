-- What a reader must believe, in the order in which it is best read.
-- The words used everywhere, orders and deals:
pub mod Least
pub mod Sums
pub mod Orders
pub mod Priority
pub mod Deals
-- Histories and trades:
pub mod Histories
pub mod Trades
pub mod RecordRanges
-- The rules of a call and of continuous trading, and what a rule determines:
pub mod Calls
pub mod Bounds
pub mod Units
pub mod Continuous
pub mod ContinuousRules
pub mod RuleKinds
pub mod Rules
pub mod Expected
-- Findings and the verdict:
pub mod Shows
pub mod Flaws
pub mod CallOffences
pub mod ContinuousOffences
pub mod Verdicts
-- How names, numbers, times and words are written, and the greatest sizes:
pub mod Names
pub mod Digits
pub mod Numbers
pub mod Moments
pub mod Stamps
pub mod Words
pub mod Columns
pub mod Sizes
-- What private functions pass on to one another: how a name lies in memory
pub mod NameBlocks
