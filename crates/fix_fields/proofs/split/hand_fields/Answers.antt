use Rattle.std.proofs.Common.{◌≡◌, sym, ◌∙◌, drop}
use Rattle.fix_fields.specs.Ranges.{HasRangeIn}
use Rattle.fix_fields.proofs.HandLemmas.{counter-holds, hands-all, hands-more, hands-none, hands-stuck, hands-untyped, none-behind}
use Rattle.fix_fields.proofs.ReadingLemmas.{stuck_not_whole, stuck_here, whole_not_stuck}
use Rattle.fix_fields.proofs.split.hand_fields.Goals as goal

pub loop-at-init : goal.loop-at-init
loop-at-init g c = (hands-none (g.T.FieldTaker.has_taken c.args.taker.now) c.args.body.now c.requires.empty, c.requires.ends)

pub field_at-requires-clause-before : goal.field_at-requires-clause-before
field_at-requires-clause-before g c =
    let h = c.loop-at.invariant.0 in
    counter-holds (HasRangeIn c.args.body.now) h.before c.loop-at.counter h.counts h.read.within

pub returns-in_default-clause-fault : goal.returns-in_default-clause-fault
returns-in_default-clause-fault g c =
    hands-stuck (g.T.FieldTaker.has_taken c.loop-at.taker) c.args.body.now c.loop-at.counter c.loop-at.at c.loop-at.invariant.0 c.loop-at-test.true c.in_default.ensures.none

pub returns-in_default-clause-reads : goal.returns-in_default-clause-reads
returns-in_default-clause-reads g c =
    let l = c.loop-at in
    let h = l.invariant.0 in
    let none = none-behind c.args.body.now h.before l.counter (drop l.at c.args.body.now) h.counts c.in_default.ensures.none in
    λ fs is. absurd (stuck_not_whole c.args.body.now h.fields h.before l.at h.read c.loop-at-test.true none fs is.bytes is.forms)

pub returns-in_default-clause-unreadable : goal.returns-in_default-clause-unreadable
returns-in_default-clause-unreadable g c =
    let l = c.loop-at in
    let h = l.invariant.0 in
    let none = none-behind c.args.body.now h.before l.counter (drop l.at c.args.body.now) h.counts c.in_default.ensures.none in
    λ n is. let here : l.at ≡ n = stuck_here c.args.body.now h.fields h.before l.at h.read c.loop-at-test.true none n is in cc

pub returns-in_default-clause-untyped : goal.returns-in_default-clause-untyped
returns-in_default-clause-untyped g c =
    let l = c.loop-at in
    let h = l.invariant.0 in
    let none = none-behind c.args.body.now h.before l.counter (drop l.at c.args.body.now) h.counts c.in_default.ensures.none in
    λ is. absurd (stuck_not_whole c.args.body.now h.fields h.before l.at h.read c.loop-at-test.true none is.fields is.bytes is.forms)

pub loop-at-preserved : goal.loop-at-preserved
loop-at-preserved g c =
    let l = c.loop-at in (
      hands-more (g.T.FieldTaker.has_taken l.taker) (g.T.FieldTaker.has_taken c.take.new.self) c.args.body.now l.counter c.counter_of-counter.result l.at c.in-Some.field l.invariant.0 c.in-Some.ensures.found c.in_ok-take.ensures
          c.counter_of-counter.ensures,
      c.in-Some.ensures.ends,
    )

pub returns-then-begins_with_type-clause-fields : goal.returns-then-begins_with_type-clause-fields
returns-then-begins_with_type-clause-fields g c =
    let l = c.loop-at in
    hands-all (g.T.FieldTaker.has_taken l.taker) c.args.body.now l.counter l.at l.invariant.0 c.loop-at-test.false
    (λ fs bytes forms. sym c.if-begins_with_type.true ∙ c.begins_with_type.ensures fs bytes forms)

pub returns-then-begins_with_type-clause-unreadable : goal.returns-then-begins_with_type-clause-unreadable
returns-then-begins_with_type-clause-unreadable g c =
    let l = c.loop-at in
    let h = l.invariant.0 in
    λ n is. absurd (whole_not_stuck c.args.body.now h.fields h.before l.at h.read c.loop-at-test.false n is)

pub returns-then-begins_with_type-clause-untyped : goal.returns-then-begins_with_type-clause-untyped
returns-then-begins_with_type-clause-untyped g c =
    λ is. let typed = sym c.if-begins_with_type.true ∙ c.begins_with_type.ensures is.fields is.bytes is.forms in
    let untyped = is.untyped in cc

pub returns-else-begins_with_type-clause-fault : goal.returns-else-begins_with_type-clause-fault
returns-else-begins_with_type-clause-fault g c =
    let l = c.loop-at in
    hands-untyped (g.T.FieldTaker.has_taken l.taker) c.args.body.now l.counter l.at l.invariant.0 c.loop-at-test.false
    (λ fs bytes forms. sym c.if-begins_with_type.false ∙ c.begins_with_type.ensures fs bytes forms)

pub returns-else-begins_with_type-clause-reads : goal.returns-else-begins_with_type-clause-reads
returns-else-begins_with_type-clause-reads g c =
    λ fs is. let untyped = sym c.if-begins_with_type.false ∙ c.begins_with_type.ensures fs is.bytes is.forms in
    let typed = is.typed in cc

pub returns-else-begins_with_type-clause-unreadable : goal.returns-else-begins_with_type-clause-unreadable
returns-else-begins_with_type-clause-unreadable g c =
    let l = c.loop-at in
    let h = l.invariant.0 in
    λ n is. absurd (whole_not_stuck c.args.body.now h.fields h.before l.at h.read c.loop-at-test.false n is)
