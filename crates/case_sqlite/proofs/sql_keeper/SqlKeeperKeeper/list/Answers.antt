-- What is listed passes the filter, and a failure was counted.
use Rattle.case_sqlite.proofs.KeeperLemmas.{lists}
use Rattle.case_sqlite.proofs.sql_keeper.SqlKeeperKeeper.list.Goals as goal

pub returns-clause-listed : goal.returns-clause-listed
returns-clause-listed g c =
    lists c.args.self.now.faults c.cases_passing-listed.new.self.faults c.count_failure.new.faults c.cases_passing-listed.result c.count_failure.result c.args.filter.now
    c.cases_passing-listed.ensures.faults c.count_failure.ensures.outcome c.count_failure.ensures.accounts c.cases_passing-listed.ensures.passing_only
