use Rattle.std.proofs.Common.{refl, sym, subst, ℕ, List, []}
use Rattle.audit_run.specs.Certificates.{IsVerifyAnswer}
use Rattle.audit_run.specs.Deciding.{request_to_verify}
use Rattle.command_run.specs.Commands.{log_read_at}
use Rattle.record_verdict.specs.Scopes.{call_scope}
use Rattle.log_verdict.specs.LogVerdicts.{log_in}
use Rattle.log_verdict.specs.Steps.{reading_by}
use Rattle.command_run.proofs.UnreadLemmas.{stays_unread}
use Rattle.audit_run.proofs.VerifyAnswerLemmas.{bad_verifies}
use Rattle.audit_run.proofs.CertificateLemmas.{both_read, decides_certificate, later_certificate, within_certificate}
use Rattle.audit_run.proofs.verifying.answer_verify.Goals as goal

pub returns-in-Ok-clause-decides : goal.returns-in-Ok-clause-decides
returns-in-Ok-clause-decides g c =
    decides_certificate (reading_by c.args.orders.now g.F.Shelf c.args.shelf.now c.read_both.new.shelf) (reading_by c.args.orders.now g.F.Shelf c.read_both.new.shelf c.answer_certificate.new.shelf)
    (record { limit = refl; tells = c.in-Ok.ensures.logs.tells; logs = c.in-Ok.ensures.logs.logs; slots = λ log. refl }) c.in-Ok.ensures.later c.answer_certificate.ensures.only
    c.args.symbol.now c.args.orders.now c.args.trades.now c.args.certificate.now c.in-Ok.given
    (both_read (reading_by c.args.orders.now g.F.Shelf c.args.shelf.now c.read_both.new.shelf) (call_scope c.args.symbol.now) c.args.orders.now c.args.trades.now c.in-Ok.given c.in-Ok.ensures.decides)
    (c.read_logs_decide.ensures (request_to_verify c.args.symbol.now c.args.orders.now c.args.trades.now c.args.certificate.now)) c.answer_certificate.result c.answer_certificate.ensures.decides

pub returns-in-Err-clause-decides : goal.returns-in-Err-clause-decides
returns-in-Err-clause-decides g c =
    c.both_logs_decide.ensures.unread (request_to_verify c.args.symbol.now c.args.orders.now c.args.trades.now c.args.certificate.now) (reading_by c.args.orders.now g.F.Shelf c.args.shelf.now c.read_both.new.shelf) c.args.orders.now c.args.trades.now c.in-Err.why c.answer_without.result
    c.in-Err.ensures.later
    (record {
      starts = record { first = refl; second = λ bytes. refl };
      answer = λ log bad the_status text made logs short come. subst (λ (bytes : List ℕ). IsVerifyAnswer c.args.symbol.now (log_in c.args.orders.now.form (log_read_at logs 0)) (log_in c.args.trades.now.form (log_read_at logs 1)) bytes the_status text) (sym short)
          (bad_verifies c.args.symbol.now [] _ _ log bad the_status text made come);
      ends = λ bad first second entries e said. rw said refl;
    })
    c.in-Err.ensures.decides c.answer_without.ensures

pub returns-in-Err-clause-within : goal.returns-in-Err-clause-within
returns-in-Err-clause-within g c =
    stays_unread (reading_by c.args.orders.now g.F.Shelf c.args.shelf.now c.read_both.new.shelf) c.in-Err.why c.read_both.result c.answer_without.result c.in-Err.is c.read_both.ensures.within c.answer_without.ensures

pub returns-in-Ok-clause-later : goal.returns-in-Ok-clause-later
returns-in-Ok-clause-later g c =
    later_certificate (reading_by c.args.orders.now g.F.Shelf c.args.shelf.now c.read_both.new.shelf) (reading_by c.args.orders.now g.F.Shelf c.read_both.new.shelf c.answer_certificate.new.shelf)
    (record { limit = refl; tells = c.in-Ok.ensures.logs.tells; logs = c.in-Ok.ensures.logs.logs; slots = λ log. refl }) c.in-Ok.ensures.later c.answer_certificate.ensures.only
    c.args.symbol.now c.args.orders.now c.args.trades.now c.args.certificate.now

pub returns-in-Ok-clause-within : goal.returns-in-Ok-clause-within
returns-in-Ok-clause-within g c =
    within_certificate (reading_by c.args.orders.now g.F.Shelf c.args.shelf.now c.read_both.new.shelf) (reading_by c.args.orders.now g.F.Shelf c.read_both.new.shelf c.answer_certificate.new.shelf)
    (record { limit = refl; tells = c.in-Ok.ensures.logs.tells; logs = c.in-Ok.ensures.logs.logs; slots = λ log. refl }) c.in-Ok.ensures.later c.answer_certificate.ensures.only
    c.args.symbol.now c.args.orders.now c.args.trades.now c.args.certificate.now
    c.in-Ok.given c.answer_certificate.result c.in-Ok.ensures.within c.answer_certificate.ensures.within
