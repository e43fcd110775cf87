-- What a reader must believe: what two logs of a day give before a rule is looked at, the
-- verdicts on its symbols, what is written of them, and the laws.
pub mod DayBeforeRule
pub mod DayAnswers
pub mod DayAnswerTexts
pub mod Laws
