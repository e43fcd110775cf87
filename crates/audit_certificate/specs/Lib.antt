-- What a reader must believe: the lines of a certificate, what each has to meet, and the laws.
pub mod Texts
pub mod Lines
pub mod Agreement
pub mod Laws
pub mod OneAnswer
-- What private functions pass on.
pub mod Counting
pub mod Bounds
pub mod LastOrders
pub mod OrderLines
pub mod Steps
pub mod Certifying
pub mod Answers
