use Rattle.std.proofs.Common.{refl}
use Rattle.audit_base.specs.declared.terms.Which.TheVariants.{Orders}
use Rattle.command_words.specs.declared.requests.Request.TheVariants.{Convert, Expect}
use Rattle.log_verdict.specs.LogVerdicts.{log_in, records_of_order_log}
use Rattle.log_verdict.specs.Steps.{reading_by}
use Rattle.audit_run.proofs.AnswerLemmas.{convert-status, decides_within, expect-status}
use Rattle.audit_run.proofs.commands.answer_request.Goals as goal

pub returns-in-Expect-clause-decides : goal.returns-in-Expect-clause-decides
returns-in-Expect-clause-decides g c =
    let decides = rw (c.source_of-orders-in-Expect.ensures.name, c.source_of-orders-in-Expect.ensures.form) at c.answer_expect.ensures.decides in
    let request = Expect c.in-Expect.rule c.in-Expect.symbol c.in-Expect.orders c.in-Expect.orders_form in
    rw c.in-Expect.is (decides_within g.F.Shelf c.args.shelf.now c.answer_expect.new.shelf c.source_of-orders-in-Expect.result c.source_of-orders-in-Expect.ensures.limit request c.answer_expect.result
    (c.one_log_decides.ensures request (reading_by c.source_of-orders-in-Expect.result g.F.Shelf c.args.shelf.now c.answer_expect.new.shelf) Orders _ c.answer_expect.result c.answer_expect.ensures.only
    (record { first = refl; last = λ bytes. refl })
    (λ bytes status text is. expect-status c.in-Expect.rule c.in-Expect.symbol (records_of_order_log c.in-Expect.orders_form bytes) status text is) decides))

pub returns-in-Convert-clause-decides : goal.returns-in-Convert-clause-decides
returns-in-Convert-clause-decides g c =
    let decides = rw (c.source_of.ensures.name, c.source_of.ensures.form) at c.answer_convert.ensures.decides in
    let request = Convert c.in-Convert.log c.in-Convert.form c.in-Convert.path in
    rw c.in-Convert.is (decides_within g.F.Shelf c.args.shelf.now c.answer_convert.new.shelf c.source_of.result c.source_of.ensures.limit request c.answer_convert.result
    (c.one_log_decides.ensures request (reading_by c.source_of.result g.F.Shelf c.args.shelf.now c.answer_convert.new.shelf) c.in-Convert.log _ c.answer_convert.result c.answer_convert.ensures.only
    (record { first = refl; last = λ bytes. refl })
    (λ bytes status text is. convert-status c.in-Convert.log (log_in c.in-Convert.form bytes) status text is) decides))
