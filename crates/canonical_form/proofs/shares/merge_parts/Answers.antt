use Rattle.std.proofs.Common.{◌<◌, arith, length, rules}
use Rattle.canonical_form.specs.Parts.{part_past_end}
use Rattle.canonical_form.proofs.PartLemmas.{made-first, made-more, merged}
use Rattle.canonical_form.proofs.shares.merge_parts.Goals as goal

pub loop-at-init : goal.loop-at-init
loop-at-init c =
    let some : 0 < length c.args.parts.now = search rules in
    made-first c.args.parts.now c.requires.each c.new-shares.result.items c.share_of_part-share.result some c.share_of_part-share.ensures c.new-shares.ensures.items

pub merge_part-requires : goal.merge_part-requires
merge_part-requires c =
    let fits = c.loop-at.invariant.fits in
    let most = (c.requires.each c.loop-at.at part_past_end c.loop-at-test.true).bounded in
    let few = c.requires.fits_indices in
    let inside = c.loop-at-test.true in
    record { fits = omega arith }

pub loop-at-preserved : goal.loop-at-preserved
loop-at-preserved c = made-more c.args.parts.now c.requires.each c.requires.sorted c.loop-at.at c.loop-at.auto.at c.loop-at-test.true c.loop-at.shares.items c.merge_part.new.shares.items c.loop-at.share c.in_ok-share.share
    c.in_ok-share.ensures.next c.in_ok-share.ensures.finished c.loop-at.invariant

pub returns : goal.returns
returns c = merged c.args.parts.now c.loop-at.at c.loop-at.shares.items c.push_share.new.shares.items c.loop-at.share c.in_ok-push_share.ensures (omega arith) c.loop-at.invariant
