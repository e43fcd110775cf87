use Rattle.std.proofs.Common.{refl, sym, ap, ◌∙◌}
use Rattle.desk_page.proofs.TopLemmas.{answers-below, named-log, same-logs}
use Rattle.desk_page.proofs.running.run_known.Goals as goal

pub run_over-ran-requires : goal.run_over-ran-requires
run_over-ran-requires g c =
    c.requires.known ∙ same-logs _ _ _ _ (sym c.over-taking.ensures.tells)
    (λ log name. sym (c.over-taking.ensures.logs log name ∙ ap (g.F.Shelf.log_of c.args.shelf log) (named-log _ _ _ _ c.as_str-orders.ensures c.as_str-trades.ensures log)))

pub returns-clause-answers : goal.returns-clause-answers
returns-clause-answers g c =
    answers-below g.D.Drawing.is_picture _ _ c.args.request.now _ _ c.run_over-ran.result.status c.run_over-ran.ensures.answers refl c.over-taking.ensures.tells
    (λ log name. c.over-taking.ensures.logs log name ∙ ap (g.F.Shelf.log_of c.args.shelf log) (named-log _ _ _ _ c.as_str-orders.ensures c.as_str-trades.ensures log))
    c.over-taking.ensures.slots c.into_shelf.ensures
