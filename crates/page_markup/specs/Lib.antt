-- What a reader must believe: how a text is written in markup, what markup is, where its links
-- lead, and what refers to something outside.
pub mod Escapes
pub mod Words
pub mod Addresses
pub mod Trees
pub mod Laws
