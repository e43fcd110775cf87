use Rattle.std.proofs.Common.{ap, refl, Err}
use Rattle.desk_page.proofs.TopLemmas.{same-fault, words-refused}
use Rattle.desk_page.proofs.running.run_page_seeded.Goals as goal

pub returns-in-Ok-clause-answers : goal.returns-in-Ok-clause-answers
returns-in-Ok-clause-answers g c = rw c.in-Ok.ensures.request c.run_request.ensures.answers

pub returns-in-Err-clause-answers : goal.returns-in-Err-clause-answers
returns-in-Err-clause-answers g c =
    words-refused g.D.Drawing.is_picture g.F.Shelf c.args.shelf _ _ _ c.in-Err.fault _ (λ e. c.in-Err.ensures.usage (ap Err e)) (λ e. same-fault (Err c.in-Err.fault) c.in-Err.fault _ refl (c.in-Err.ensures.decided e)) c.refuse_words.ensures.refuses
