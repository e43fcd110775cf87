mod SessionSteps
mod SessionAnswerLemmas
mod LawLemmas
