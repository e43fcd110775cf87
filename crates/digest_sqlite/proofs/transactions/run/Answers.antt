-- The statement ran inside, or what was committed stays.
use Rattle.std.proofs.lemmas.Result.{err_from_is_err_and}
use Rattle.sqlite.specs.Values.{bound}
use Rattle.digest_sqlite.proofs.InsideLemmas.{run_ok, run_err}
use Rattle.digest_sqlite.proofs.transactions.run.Goals as goal

pub returns-in_err-execute-clause-inside : goal.returns-in_err-execute-clause-inside
returns-in_err-execute-clause-inside g c clean began =
    let refused = err_from_is_err_and c.from_residual.result c.from_residual.ensures.1 in
    let stopped = run_err g.S.Store c.args.sql.now (bound c.args.values.now) c.args.transaction.now.conn.now c.execute.new.self.conn.now _ (c.in_err-execute.ensures.runs clean began) in
    rw (refused.1, refused.2) stopped

pub returns-clause-inside : goal.returns-clause-inside
returns-clause-inside g c clean began =
    run_ok g.S.Store c.args.sql.now (bound c.args.values.now) c.args.transaction.now.conn.now c.execute.new.self.conn.now c.in_ok-execute.field-0 (c.in_ok-execute.ensures.runs clean began)
