-- What is found has the label, and a failure was counted.
use Rattle.digest_sqlite.proofs.KeeperLemmas.{finds}
use Rattle.digest_sqlite.proofs.sql_digest_keeper.SqlDigestKeeperDigestKeeper.find.Goals as goal

pub returns-clause-found : goal.returns-clause-found
returns-clause-found g c =
    finds c.args.self.now.faults c.count_failure.new.faults c.find_both-found.result c.count_failure.result c.args.label.now
    c.count_failure.ensures.outcome c.count_failure.ensures.accounts c.find_both-found.ensures.labelled
