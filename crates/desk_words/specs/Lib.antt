-- What a reader must believe: what words ask for of `desk`, and before it what their parts are:
-- a share, the further checks, the dress of a day, words behind `--`, and options; and what is written
-- for words alone.
pub mod Words
pub mod ShareWords
pub mod FurtherWords
pub mod DressWords
pub mod LogWords
pub mod OffenceWords
pub mod WordOrder
pub mod Options
pub mod Texts
