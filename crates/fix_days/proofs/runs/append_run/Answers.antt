use Rattle.fix_days.proofs.RunLemmas.{near-appended}
use Rattle.fix_days.proofs.runs.append_run.Goals as goal

pub returns-in-Some : goal.returns-in-Some
returns-in-Some c = near-appended c.args.soh.now c.args.text.now c.args.out.now.items c.append_front.new.out.items c.in-Some.size c.requires c.in-Some.ensures c.in_ok-append_front.ensures
