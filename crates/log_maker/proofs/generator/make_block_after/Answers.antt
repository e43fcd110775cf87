use Rattle.std.proofs.Common.{arith}
use Rattle.log_maker.proofs.GeneratorLemmas.{all-made, none-made, step-is}
use Rattle.log_maker.proofs.generator.make_block_after.Goals as goal

pub loop-number-init : goal.loop-number-init
loop-number-init c = λ start at. rw c.in_ok-entries.ensures.items (none-made start c.args.first c.args.state at)

pub loop-number-preserved : goal.loop-number-preserved
loop-number-preserved c = λ start at.
    step-is start c.args.first c.loop-number.number c.loop-number.reached c.next_state-reached.result c.loop-number.entries.items c.push.new.self.items c.in_ok-entry.entry
    c.loop-number.auto.number (c.loop-number.invariant start at) c.next_state-reached.ensures c.in_ok-entry.ensures c.in_ok-push.ensures.items

pub returns : goal.returns
returns c = λ start at.
    let made = all-made start c.args.first c.args.count c.loop-number.number c.loop-number.reached c.loop-number.entries.items c.loop-number-test.false (c.loop-number.auto.number-end (omega arith)) (c.loop-number.invariant start at) in
    record { entries_are = made.0; state_is = made.1 }
