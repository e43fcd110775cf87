-- One table after the other.
use Rattle.std.proofs.lemmas.Result.{err_from_is_err_and}
use Rattle.std.proofs.Common.{[], ◌∷◌}
use Rattle.case_sqlite.specs.Statements.{make_text}
use Rattle.digest_sqlite.specs.DigestStatements.{statement_of, make_digests_text}
use Rattle.digest_sqlite.proofs.InsideLemmas.{inside_then, stops_before, survives_both}
use Rattle.digest_sqlite.proofs.transactions.make_tables.Goals as goal

pub returns-clause-inside : goal.returns-clause-inside
returns-clause-inside g c =
    inside_then g.S.Store (λ _. ⊥) (statement_of make_text [] ∷ []) (statement_of make_digests_text [] ∷ []) _ _ _ c.run-2.result
    c.in_ok-run.ensures.inside c.run-2.ensures.survives c.run-2.ensures.inside

pub returns-clause-survives : goal.returns-clause-survives
returns-clause-survives g c = survives_both _ _ _ c.run.ensures.survives c.run-2.ensures.survives

pub returns-in_err-run-clause-inside : goal.returns-in_err-run-clause-inside
returns-in_err-run-clause-inside g c clean began =
    let refused = err_from_is_err_and c.from_residual.result c.from_residual.ensures.1 in
    rw (refused.1, refused.2) (stops_before g.S.Store (statement_of make_text [] ∷ []) (statement_of make_digests_text [] ∷ []) c.args.transaction.now.conn.now c.run.new.transaction.conn.now _ (c.in_err-run.ensures.inside clean began))
