-- The values that are bound are the columns of the digests.
use Rattle.std.proofs.Common.{◌≡◌, [], ◌∷◌, refl, subst}
use Rattle.sqlite_value.specs.declared.value.Value.TheVariants.{Text}
use Rattle.digest_sqlite.specs.DigestRows.{digest_columns}
use Rattle.digest_sqlite.specs.DigestRuns.{RunsInside}
use Rattle.digest_sqlite.specs.DigestStatements.{statement_of, insert_digests_text}
use Rattle.digest_sqlite.proofs.transactions.add_digests.Goals as goal

pub returns-clause-inside : goal.returns-clause-inside
returns-clause-inside g c =
    let digested = c.args.digested.now in
    let columns : Text c.bytes.result.now ∷ Text c.digits-orders.result ∷ Text c.digits-trades.result ∷ [] ≡ digest_columns digested.case.label digested.digests =
    rw (c.bytes.ensures.same, c.digits-orders.ensures, c.digits-trades.ensures) refl in
    subst (λ values. RunsInside g.S.Store (statement_of insert_digests_text values ∷ []) c.args.transaction.now.conn.now c.run.new.transaction.conn.now c.run.result)
    columns c.run.ensures.inside
