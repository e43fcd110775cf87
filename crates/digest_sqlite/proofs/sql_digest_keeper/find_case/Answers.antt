-- The rows that were shown are that of the case, or none.
use Rattle.std.proofs.Common.{sym, ◌∙◌, subst}
use Rattle.std.proofs.lemmas.Result.{IfOk-weaker}
use Rattle.case_sqlite.specs.Statements.{find_text}
use Rattle.digest_sqlite.specs.DigestRuns.{ShowsIfThere}
use Rattle.digest_sqlite.specs.DigestStatements.{cases_table}
use Rattle.digest_sqlite.proofs.sql_digest_keeper.find_case.Goals as goal

pub returns-clause-shown : goal.returns-clause-shown
returns-clause-shown g c clean =
    IfOk-weaker c.one_with_label.result _ _
    (λ found is. subst (ShowsIfThere g.S.Store cases_table find_text c.args.label.now c.args.connection.now c.case_rows.new.connection) (sym c.deref.ensures.value ∙ is) (c.in_ok-rows.ensures.shown clean))
    c.one_with_label.ensures.rows
