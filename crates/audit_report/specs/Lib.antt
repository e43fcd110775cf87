-- What a reader must believe, in the order in which it is read: the status and the text
-- of a verdict, the lines of a text, of a summary and of what came of a certificate,
-- how the reason of a bad place is written, and how the text of a day is made of counts and reports.
pub mod Statuses
pub mod Texts
pub mod Lines
pub mod Summaries
pub mod Certificates
pub mod Reasons
pub mod DayTexts
-- What private functions pass on to one another.
pub mod LineParts
