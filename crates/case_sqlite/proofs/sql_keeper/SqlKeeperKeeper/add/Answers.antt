-- A failure was counted.
use Rattle.std.proofs.Common.{sym, subst}
use Rattle.std.specs.Prelude.{OnOk}
use Rattle.case_sqlite.specs.Runs.{AddsRow}
use Rattle.case_sqlite.proofs.KeeperLemmas.{adds}
use Rattle.case_sqlite.proofs.RunLemmas.{on_ok_then}
use Rattle.case_sqlite.proofs.sql_keeper.SqlKeeperKeeper.add.Goals as goal

pub returns-clause-added : goal.returns-clause-added
returns-clause-added g c =
    adds c.args.self.now.faults c.insert-added.new.self.faults c.count_failure.new.faults c.count_failure.result c.args.case.now
    c.insert-added.ensures.faults c.count_failure.ensures.accounts

pub returns-clause-inserted : goal.returns-clause-inserted
returns-clause-inserted g c clean =
    on_ok_then c.count_failure.result
    (subst (λ r. OnOk r (AddsRow g.S.Store c.args.self.now c.insert-added.new.self c.args.case.now)) (sym c.count_failure.ensures.outcome) (c.insert-added.ensures.inserted clean))
    (λ row. record { table = row.table; made = row.made; added = row.added; known = row.known })
