use Rattle.std.proofs.Common.{◌∙◌}
use Rattle.fix_framing.specs.Headers.{header}
use Rattle.fix_framing.proofs.WritingLemmas.{front_is}
use Rattle.fix_framing.proofs.writing.append_front.Goals as goal

pub returns-clause-ok : goal.returns-clause-ok
unfolding header
returns-clause-ok c =
    front_is c.args.out.now.items header _ _ c.args.body.now _ _ _ _ c.in_ok-extend_from_slice.ensures.items c.in_ok-extend_from_slice-2.ensures.items
    (c.as_bytes.ensures.value ∙ c.format.ensures.text) c.in_ok-push.ensures.items c.in_ok-extend_from_slice-3.ensures.items
