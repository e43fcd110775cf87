use Rattle.std.proofs.Common.{sym, ◌∙◌}
use Rattle.symbol_offences.proofs.AnswerLemmas.{as-accepted, none-fails}
use Rattle.symbol_offences.proofs.verdict_answers.answer_accepted.Goals as goal

pub returns-then-not-any : goal.returns-then-not-any
returns-then-not-any c =
    as-accepted c.args.quoted.now c.args.accepted _ c.verdict_answer.result (none-fails c.args.checks c.args.sound.now.history c.args.sound.now.deals.items c.args.times.now (sym c.any.ensures ∙ c.if-not-any.true)) c.verdict_answer.ensures
