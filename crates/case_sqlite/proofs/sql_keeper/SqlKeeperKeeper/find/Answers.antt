-- What is found has the label, and a failure was counted.
use Rattle.case_sqlite.proofs.KeeperLemmas.{finds}
use Rattle.case_sqlite.proofs.sql_keeper.SqlKeeperKeeper.find.Goals as goal

pub returns-clause-found : goal.returns-clause-found
returns-clause-found g c =
    finds c.args.self.now.faults c.case_with_label-found.new.self.faults c.count_failure.new.faults c.case_with_label-found.result c.count_failure.result c.args.label.now
    c.case_with_label-found.ensures.faults c.count_failure.ensures.outcome c.count_failure.ensures.accounts c.case_with_label-found.ensures.labelled
