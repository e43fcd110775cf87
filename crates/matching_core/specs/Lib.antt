-- What a reader must believe: the words of public contracts. Sound trades, matchings and the
-- findings of both are those of audit_base.
pub mod Answers
pub mod DealsDraft
-- What private functions pass on: what is kept while trades come, how their ids are kept, and what
-- is wrong with one deal.
pub mod DealFlaws
pub mod DealsSoFar
pub mod IdOrder
pub mod MappedIds
pub mod RisingIds
