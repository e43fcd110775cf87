-- The rows that were shown are that of the digests, or none.
use Rattle.std.proofs.Common.{sym, ◌∙◌, subst}
use Rattle.std.proofs.lemmas.Result.{IfOk-weaker}
use Rattle.digest_sqlite.specs.DigestRuns.{ShowsIfThere}
use Rattle.digest_sqlite.specs.DigestStatements.{digests_table, find_digests_text}
use Rattle.digest_sqlite.proofs.sql_digest_keeper.find_digests.Goals as goal

pub returns-clause-shown : goal.returns-clause-shown
returns-clause-shown g c clean =
    IfOk-weaker c.one_pair.result _ _
    (λ found is. subst (ShowsIfThere g.S.Store digests_table find_digests_text c.args.label.now c.args.connection.now c.digest_rows.new.connection) (sym c.deref.ensures.value ∙ is) (c.in_ok-rows.ensures.shown clean))
    c.one_pair.ensures.rows
