-- Both logs were read to their ends by what gives the page.
use Rattle.std.proofs.Common.{refl}
use Rattle.desk_page.proofs.ReadLemmas.{gives-unread, reads-page, stays-unread}
use Rattle.desk_page.proofs.answers.page_on.Goals as goal

pub returns-in_ok-answer_digested-in-Ok-clause-decides : goal.returns-in_ok-answer_digested-in-Ok-clause-decides
returns-in_ok-answer_digested-in-Ok-clause-decides g c =
    let read = rw (c.scope.ensures, c.question_of.ensures) at c.in-Ok.ensures.decides in
    reads-page g.D.Drawing.is_picture _ c.args.request.now c.args.orders.now c.args.trades.now _ _ _ c.in_ok-answer_digested-in-Ok.ensures (λ log name other. refl) c.digest.ensures c.digest-in-Ok.ensures read

pub returns-in-Err-clause-decides : goal.returns-in-Err-clause-decides
returns-in-Err-clause-decides g c =
    gives-unread c.args.orders.now _ _ _ c.in-Err.ensures.logs c.in-Err.why c.answer_without.result c.answer_without.ensures g.D.Drawing.is_picture c.args.request.now c.args.trades.now c.in-Err.ensures.decides

pub returns-in-Err-clause-within : goal.returns-in-Err-clause-within
returns-in-Err-clause-within g c =
    stays-unread c.args.orders.now _ _ _ c.in-Err.ensures.logs c.in-Err.why c.answer_without.result c.answer_without.ensures c.read_both.result c.in-Err.is c.read_both.ensures.within
