use Rattle.std.proofs.Common.{sym, ◌∙◌}
use Rattle.std.proofs.lemmas.List.{take_all}
use Rattle.case_run.proofs.RunLemmas.{all_in, ends_in, goes_in}
use Rattle.case_run.proofs.running.run_commands.Goals as goal

pub returns-then-ends_run-clause-runs : goal.returns-then-ends_run-clause-runs
returns-then-ends_run-clause-runs g c =
    let take = c.take_turn-ran in
    ends_in g.F.Shelf c.args.commands.now c.loop-command.command-index c.command-item.result c.loop-command-test.true c.command-item.is c.args.shelf.now c.loop-command.shelf take.new.shelf _ _ _ _ _ _
    c.loop-command.ran.status take.result.status c.loop-command.invariant take.ensures.keeps take.ensures.turn (sym c.ends_run.ensures ∙ c.if-ends_run.true)

pub returns-clause-runs : goal.returns-clause-runs
returns-clause-runs g c =
    all_in g.F.Shelf _ c.args.commands.now c.args.shelf.now c.loop-command.shelf _ _ _ _ c.loop-command.ran.status
    (take_all c.loop-command.command-index c.args.commands.now c.loop-command-test.false) c.loop-command.invariant

pub loop-command-preserved : goal.loop-command-preserved
loop-command-preserved g c =
    let take = c.take_turn-ran in
    goes_in g.F.Shelf c.args.commands.now c.loop-command.command-index c.command-item.result c.loop-command-test.true c.command-item.is c.args.shelf.now c.loop-command.shelf take.new.shelf _ _ _ _ _ _
    c.loop-command.ran.status take.result.status c.loop-command.invariant take.ensures.keeps take.ensures.turn (sym c.ends_run.ensures ∙ c.if-ends_run.false) take.ensures.length
