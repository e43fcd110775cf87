use Rattle.command_run.proofs.UnreadLemmas.{gives_unread, stays_unread}
use Rattle.audit_report.specs.declared.verdicts.Verdict.TheVariants.{Malformed}
use Rattle.command_run.specs.Deciding.{IsAnswerOfKind}
use Rattle.command_run.specs.VerdictAnswers.{IsVerdictAnswer}
use Rattle.log_verdict.specs.Steps.{reading_by}
use Rattle.log_verdict.proofs.JoinLemmas.{reads-good}
use Rattle.symbol_offences.specs.OffenceAnswers.{IsOffencesOfRecords}
use Rattle.symbol_offences.proofs.answers.offences_on.Goals as goal

pub returns-in_ok-answer_after-in-Ok-clause-decides : goal.returns-in_ok-answer_after-in-Ok-clause-decides
returns-in_ok-answer_after-in-Ok-clause-decides g c =
    let read = rw (c.scope-scope.ensures, c.audit.ensures, c.keeping.ensures) at c.in-Ok.ensures.decides in
    reads-good (reading_by c.args.orders.now g.F.Shelf c.args.shelf.now c.read_symbol.new.shelf) c.args.orders.now c.args.trades.now _ (λ entries paired. IsAnswerOfKind (IsOffencesOfRecords c.args.question.now entries paired) c.in_ok-answer_after-in-Ok.field-0)
    (λ log bad. IsAnswerOfKind (IsVerdictAnswer (Malformed log bad)) c.in_ok-answer_after-in-Ok.field-0) c.in_ok-answer_after-in-Ok.ensures read

pub returns-in-Err-clause-decides : goal.returns-in-Err-clause-decides
returns-in-Err-clause-decides g c =
    gives_unread (reading_by c.args.orders.now g.F.Shelf c.args.shelf.now c.read_symbol.new.shelf) c.args.orders.now c.args.trades.now
    (λ entries paired answer. IsAnswerOfKind (IsOffencesOfRecords c.args.question.now entries paired) answer) c.in-Err.why c.answer_without.result c.in-Err.ensures.decides c.answer_without.ensures

pub returns-in-Err-clause-within : goal.returns-in-Err-clause-within
returns-in-Err-clause-within g c =
    stays_unread (reading_by c.args.orders.now g.F.Shelf c.args.shelf.now c.read_symbol.new.shelf) c.in-Err.why c.read_symbol.result c.answer_without.result c.in-Err.is c.read_symbol.ensures.within c.answer_without.ensures
