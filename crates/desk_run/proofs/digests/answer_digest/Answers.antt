use Rattle.std.proofs.Common.{◌∙◌, subst, sym, refl, ⊎_elim, ℕ, List}
use Rattle.command_run.specs.Deciding.{DecidesBytes, IsStatusOfLogs}
use Rattle.command_run.specs.InTurn.{ReadsInTurn}
use Rattle.audit_base.specs.declared.terms.Which.TheVariants.{Trades}
use Rattle.desk_words.specs.declared.requests.DeskRequest.TheVariants.{Whole}
use Rattle.desk_words.specs.declared.requests.WholeRequest.TheVariants.{Digest}
use Rattle.desk_run.specs.Digesting.{IsDigestAnswer}
use Rattle.desk_run.specs.TopCall.{desk_reading}
use Rattle.desk_run.proofs.DigestLemmas.{first_stop}
use Rattle.desk_run.proofs.digests.answer_digest.Goals as goal

pub returns-in-Ok-clause-logs : goal.returns-in-Ok-clause-logs
returns-in-Ok-clause-logs g c =
    record {
      tells = c.answer_after.ensures.logs.tells ∙ c.in-Ok.ensures.logs.tells;
      logs = λ log name. c.answer_after.ensures.logs.logs log name ∙ c.in-Ok.ensures.logs.logs log name;
    }

pub returns-in-Ok-clause-later : goal.returns-in-Ok-clause-later
returns-in-Ok-clause-later g c =
    let first = desk_reading g.F.Shelf c.args.shelf.now c.digest_of_log.new.shelf in
    let second = desk_reading g.F.Shelf c.digest_of_log.new.shelf c.answer_after.new.shelf in
    let on : ReadsInTurn first second = record { limit = refl; tells = c.in-Ok.ensures.logs.tells; logs = c.in-Ok.ensures.logs.logs; begins = λ log. refl; orders = c.in-Ok.ensures.only; trades = c.answer_after.ensures.only } in
    c.readings_in_turn_are_one.ensures.later first second on

pub returns-in-Ok-clause-decides : goal.returns-in-Ok-clause-decides
returns-in-Ok-clause-decides g c =
    let first = desk_reading g.F.Shelf c.args.shelf.now c.digest_of_log.new.shelf in
    let second = desk_reading g.F.Shelf c.digest_of_log.new.shelf c.answer_after.new.shelf in
    let on : ReadsInTurn first second = record { limit = refl; tells = c.in-Ok.ensures.logs.tells; logs = c.in-Ok.ensures.logs.logs; begins = λ log. refl; orders = c.in-Ok.ensures.only; trades = c.answer_after.ensures.only } in
    let is = c.in-Ok.ensures.digest in
    c.any_two_logs_decide.ensures.second (Whole (Digest c.args.orders.now c.args.trades.now)) first second c.args.orders.now c.args.trades.now is.bytes c.answer_after.result on
    (record { first = refl; second = λ bytes. refl; last = λ one other. refl })
    (λ logs status text answer. subst IsStatusOfLogs (sym answer.status_is) tt) is.read
    (subst (λ (digest : List ℕ). DecidesBytes second Trades c.args.trades.now (IsDigestAnswer digest) c.answer_after.result) is.holds c.answer_after.ensures.decides)

pub returns-in-Ok-clause-within : goal.returns-in-Ok-clause-within
returns-in-Ok-clause-within g c =
    let first = desk_reading g.F.Shelf c.args.shelf.now c.digest_of_log.new.shelf in
    let second = desk_reading g.F.Shelf c.digest_of_log.new.shelf c.answer_after.new.shelf in
    let on : ReadsInTurn first second = record { limit = refl; tells = c.in-Ok.ensures.logs.tells; logs = c.in-Ok.ensures.logs.logs; begins = λ log. refl; orders = c.in-Ok.ensures.only; trades = c.answer_after.ensures.only } in
    c.readings_in_turn_are_one.ensures.within first second c.answer_after.result on (⊎_elim (λ e. absurd e) (λ short. short) c.in-Ok.ensures.within) c.answer_after.ensures.within

pub returns-in-Err-clause-decides : goal.returns-in-Err-clause-decides
returns-in-Err-clause-decides g c =
    c.any_two_logs_decide.ensures.first (Whole (Digest c.args.orders.now c.args.trades.now)) (desk_reading g.F.Shelf c.args.shelf.now c.digest_of_log.new.shelf)
    c.args.orders.now c.args.trades.now c.in-Err.stop c.in-Err.ensures.only (record { first = refl; second = λ bytes. refl; last = λ one other. refl }) c.in-Err.ensures.digest

pub returns-in-Err-clause-within : goal.returns-in-Err-clause-within
returns-in-Err-clause-within g c =
    first_stop (desk_reading g.F.Shelf c.args.shelf.now c.digest_of_log.new.shelf) c.in-Err.stop c.in-Err.ensures.only c.in-Err.ensures.within
