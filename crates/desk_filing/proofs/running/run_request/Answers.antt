use Rattle.std.proofs.Common.{refl, sym, ap, ◌∙◌}
use Rattle.desk_filing.proofs.TopLemmas.{accounted_below, files_below, named_log}
use Rattle.desk_filing.proofs.running.run_request.Goals as goal

pub returns-clause-files : goal.returns-clause-files
returns-clause-files g c =
    files_below _ _ _ _ _ c.args.request.now _ _ c.run_over-ran.result.status c.run_over-ran.ensures.files refl (c.over-taking.ensures.tells ∙ c.of-same.ensures.tells)
    (λ log name. c.over-taking.ensures.logs log name ∙ c.of-same.ensures.logs log _ ∙ ap (g.F.Shelf.log_of c.args.shelf log) (named_log c.args.request.now.logs _ _ c.as_str-orders.ensures c.as_str-trades.ensures log))
    (λ log. accounted_below _ _ _ (c.over-taking.ensures.slots log) (c.of-same.ensures.slots log)) (λ log. accounted_below _ _ _ (c.into_shelf.ensures log) (sym (c.into_shelf-2.ensures.slots log)))

pub returns-clause-logs : goal.returns-clause-logs
returns-clause-logs g c =
    record { tells = c.into_shelf-2.ensures.tells ∙ sym c.requires.tells; logs = λ log name. c.into_shelf-2.ensures.logs log name ∙ sym (c.requires.logs log name) }
