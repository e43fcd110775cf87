-- First the tables, then the cases.
use Rattle.std.proofs.lemmas.Result.{err_from_is_err_and}
use Rattle.digest_sqlite.specs.DigestStatements.{making_statements, adding_each}
use Rattle.digest_sqlite.proofs.InsideLemmas.{inside_then, stops_before, survives_both}
use Rattle.digest_sqlite.proofs.transactions.fill.Goals as goal

pub returns-clause-inside : goal.returns-clause-inside
returns-clause-inside g c =
    inside_then g.S.Store (λ _. ⊥) making_statements (adding_each c.args.filed.now) _ _ _ c.add_each.result
    c.in_ok-make_tables.ensures.inside c.add_each.ensures.survives c.add_each.ensures.inside

pub returns-clause-survives : goal.returns-clause-survives
returns-clause-survives g c = survives_both _ _ _ c.make_tables.ensures.survives c.add_each.ensures.survives

pub returns-in_err-make_tables-clause-inside : goal.returns-in_err-make_tables-clause-inside
returns-in_err-make_tables-clause-inside g c clean began =
    let refused = err_from_is_err_and c.from_residual.result c.from_residual.ensures.1 in
    rw (refused.1, refused.2) (stops_before g.S.Store making_statements (adding_each c.args.filed.now) c.args.transaction.now.conn.now c.make_tables.new.transaction.conn.now _ (c.in_err-make_tables.ensures.inside clean began))
