-- A failure was counted.
use Rattle.digest_sqlite.proofs.KeeperLemmas.{files}
use Rattle.digest_sqlite.proofs.sql_digest_keeper.SqlDigestKeeperDigestKeeper.file_all.Goals as goal

pub returns-clause-filed : goal.returns-clause-filed
returns-clause-filed g c =
    files c.args.self.now.faults c.count_failure.new.faults c.count_failure.result c.args.filed.now c.count_failure.ensures.accounts
