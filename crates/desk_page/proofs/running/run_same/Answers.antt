use Rattle.std.proofs.Common.{refl, sym, ◌∙◌}
use Rattle.desk_page.proofs.TopLemmas.{answers-same}
use Rattle.log_digests.specs.DigestShelves.{name_of_log}
use Rattle.desk_page.proofs.running.run_same.Goals as goal

pub returns-clause-answers : goal.returns-clause-answers
returns-clause-answers g c =
    answers-same g.D.Drawing.is_picture _ _ c.args.request.now _ _ c.run_named-ran.result.status c.run_named-ran.ensures.answers refl c.of-same.ensures.tells
    (λ log name. c.of-same.ensures.logs log (name_of_log c.args.request.now.logs.orders c.args.request.now.logs.trades log))
    c.of-same.ensures.slots (λ log. sym (c.into_shelf.ensures.slots log))

pub returns-clause-logs : goal.returns-clause-logs
returns-clause-logs g c = record {
  tells = c.into_shelf.ensures.tells ∙ sym c.requires.tells;
  logs = λ log name. c.into_shelf.ensures.logs log name ∙ sym (c.requires.logs log name);
}
