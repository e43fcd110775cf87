-- The name that is asked for is the label.
use Rattle.std.proofs.Common.{subst}
use Rattle.std.specs.Prelude.{IfOk}
use Rattle.case_sqlite.specs.Statements.{find_text}
use Rattle.digest_sqlite.specs.DigestRuns.{RefusesToShow, ShowsIfThere}
use Rattle.digest_sqlite.specs.DigestStatements.{cases_table}
use Rattle.digest_sqlite.proofs.statements.case_rows.Goals as goal

pub returns-clause-shown : goal.returns-clause-shown
returns-clause-shown g c clean =
    subst (λ name. IfOk c.rows_if_there.result (λ rows. ShowsIfThere g.S.Store cases_table find_text name c.args.connection.now c.rows_if_there.new.connection rows.items))
    c.bytes.ensures.same (c.rows_if_there.ensures.shown clean)

pub returns-clause-cause : goal.returns-clause-cause
returns-clause-cause g c clean failed =
    subst (λ name. RefusesToShow g.S.Store cases_table find_text name c.args.connection.now c.rows_if_there.new.connection) c.bytes.ensures.same (c.rows_if_there.ensures.cause clean failed)
