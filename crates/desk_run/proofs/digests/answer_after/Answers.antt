use Rattle.std.proofs.Common.{◌∙◌, ap}
use Rattle.log_digests.specs.DigestLines.{digest_text}
use Rattle.desk_run.proofs.digests.answer_after.Goals as goal

pub returns-in_ok-digest_text-in-Ok-clause-decides : goal.returns-in_ok-digest_text-in-Ok-clause-decides
returns-in_ok-digest_text-in-Ok-clause-decides g c =
    let is = c.in-Ok.ensures.digest in
    record {
      bytes = is.bytes;
      read = is.read;
      holds = record {
        status_is = c.done_answer.ensures.status;
        text_is = c.done_answer.ensures.text ∙ c.in_ok-digest_text-in-Ok.ensures ∙ ap (digest_text c.args.orders.now) is.holds;
      };
    }
