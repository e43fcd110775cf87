-- Case by case.
use Rattle.std.proofs.lemmas.Result.{err_from_is_err_and}
use Rattle.std.proofs.Common.{arith, Ok, take, sym, ◌∙◌, subst}
use Rattle.std.specs.Prelude.{Result}
use Rattle.sqlite.specs.declared.error.Error.{Error}
use Rattle.digest_sqlite.specs.DigestRuns.{RunsOn}
use Rattle.digest_sqlite.specs.DigestStatements.{adding_each, adding_statements}
use Rattle.digest_sqlite.proofs.InsideLemmas.{inside_then, stops_at, survives_both, adding_more}
use Rattle.digest_sqlite.proofs.transactions.add_each.Goals as goal

pub loop-digested-preserved : goal.loop-digested-preserved
loop-digested-preserved g c =
    let had = c.loop-digested.invariant.1 in
    let digested = c.digested-item.result in
    let first = c.args.transaction.now.conn.now in
    let mid = c.loop-digested.transaction.conn.now in
    let new = c.add_both.new.transaction.conn.now in
    let ok : Result (Unit {0}) Error = Ok tt in
    let index = c.loop-digested.digested-index in (
      c.in_ok-add_both.ensures.same_reference ∙ c.loop-digested.invariant.0,
      record {
        inside = λ clean began.
            subst (λ statements. RunsOn g.S.Store statements first new) (sym (adding_more c.args.filed.now index digested c.loop-digested-test.true c.digested-item.is))
            (inside_then g.S.Store (λ _. ⊥) (adding_each (take index c.args.filed.now)) (adding_statements digested) first mid new ok had.inside c.add_both.ensures.survives c.in_ok-add_both.ensures.inside clean began);
        survives = survives_both _ _ _ had.survives c.add_both.ensures.survives;
      },
    )

pub returns-in_err-add_both-clause-inside : goal.returns-in_err-add_both-clause-inside
returns-in_err-add_both-clause-inside g c clean began =
    let index = c.loop-digested.digested-index in
    let first = c.loop-digested.invariant.1.inside (omega (arith, clean, c.add_both.ensures.survives.clean)) began in
    let refused = err_from_is_err_and c.from_residual.result c.from_residual.ensures.1 in
    rw (refused.1, refused.2) (stops_at g.S.Store c.args.filed.now index c.digested-item.result c.args.transaction.now.conn.now c.loop-digested.transaction.conn.now c.add_both.new.transaction.conn.now _ c.loop-digested-test.true c.digested-item.is first (c.in_err-add_both.ensures.inside clean first.goes_on))
