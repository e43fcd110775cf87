-- The values that are bound are the columns of the case.
use Rattle.std.proofs.Common.{[], ◌∷◌, subst}
use Rattle.case_sqlite.specs.Statements.{insert_text}
use Rattle.case_sqlite.proofs.RunLemmas.{bound_columns}
use Rattle.digest_sqlite.specs.DigestRuns.{RunsInside}
use Rattle.digest_sqlite.specs.DigestStatements.{statement_of}
use Rattle.digest_sqlite.proofs.transactions.add_case.Goals as goal

pub returns-clause-inside : goal.returns-clause-inside
returns-clause-inside g c =
    subst (λ values. RunsInside g.S.Store (statement_of insert_text values ∷ []) c.args.transaction.now.conn.now c.run.new.transaction.conn.now c.run.result)
    (bound_columns c.case_values.result c.args.digested.now.case c.case_values.ensures) c.run.ensures.inside
