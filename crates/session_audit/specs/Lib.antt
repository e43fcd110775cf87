-- What a reader must believe, in the order in which it is best read: the phases of a day, the order
-- list of each, when a day conforms, what the audit answers, the text of a day, the laws, the
-- session of one symbol, and that it is one.
pub mod Phases
pub mod PhaseOrders
pub mod Days
pub mod Audits
pub mod Texts
pub mod Laws
pub mod OneOffence
pub mod SessionVerdicts
pub mod VerdictLaws
-- What private functions pass on.
pub mod Numbers
pub mod Entering
pub mod Dealing
pub mod Judging
pub mod Leaving
pub mod Progress
pub mod Instants
