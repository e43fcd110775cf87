use Rattle.std.proofs.Common.{◌∙◌, ap, map, sym}
use Rattle.log_contents.specs.Counts.{kinds_counted, kinds_in_order}
use Rattle.log_contents.proofs.CountLemmas.{count-room, kept-again, kept-first}
use Rattle.log_contents.proofs.KeyLemmas.{any-texts, found-text, on-both}
use Rattle.log_contents.proofs.kind_counts.KindCounts.count.Goals as goal

pub count_again-requires-clause-room : goal.count_again-requires-clause-room
count_again-requires-clause-room c =
    count-room (kinds_in_order c.requires.entries) c.requires.entries c.args.self.now.counts.items c.in-Some.index c.requires.has.counts c.requires.fits_places

pub count_first-requires : goal.count_first-requires
count_first-requires c = any-texts c.args.kind.now c.args.self.now.kinds.keys ∙ sym c.in-None.ensures.found

pub returns-in-Some : goal.returns-in-Some
returns-in-Some c = λ list has.
    let found = found-text c.args.kind.now c.args.self.now.kinds.keys c.in-Some.index c.in-Some.ensures.index in
    let kept = kept-again list c.args.kind.now (kinds_counted c.args.self.now) c.args.self.now.counts.items c.count_again.new.self.counts.items c.in-Some.index has.order has.counts
    (any-texts c.args.kind.now c.args.self.now.kinds.keys ∙ sym c.in-Some.ensures.found) found.0 found.1 c.count_again.ensures.counts in
    record { order = ap (λ k. map (λ (key : _). key.items) k.keys) c.count_again.ensures.kinds ∙ kept.0; counts = kept.1 }

pub returns-in-None : goal.returns-in-None
returns-in-None c =
    on-both c.count_first.result (λ kinds counts list has.
    let lacks = any-texts c.args.kind.now c.args.self.now.kinds.keys ∙ sym c.in-None.ensures.found in
    let kept = kept-first list c.args.kind.now (kinds_counted c.args.self.now) (kinds_counted c.count_first.new.self) c.args.self.now.counts.items c.count_first.new.self.counts.items has.order has.counts lacks kinds counts in
    record { order = kept.0; counts = kept.1 }) c.count_first.ensures.kinds c.count_first.ensures.counts
