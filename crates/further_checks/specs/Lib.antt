-- What the public contracts cite.
pub mod FurtherRules
pub mod FurtherTexts
pub mod SymbolFindings
pub mod Laws
-- What private functions pass on.
pub mod Sides
