-- The table was asked for, and its rows where it is there.
use Rattle.std.proofs.Common.{inr, true, false, refl, subst, arith}
use Rattle.std.proofs.lemmas.Result.{IfOk-weaker}
use Rattle.digest_sqlite.specs.DigestRuns.{ShowsWhether}
use Rattle.digest_sqlite.proofs.statements.rows_if_there.Goals as goal

pub returns-then-branch-clause-shown : goal.returns-then-branch-clause-shown
returns-then-branch-clause-shown g c clean =
    IfOk-weaker c.answer.result _ _ (λ rows shown. record {
      mid = c.has_table.new.connection;
      is_there = true;
      asked = subst (ShowsWhether g.S.Store c.args.table.now c.args.connection.now c.has_table.new.connection) c.if-branch.true
          (c.in_ok-has_table.ensures.shown (omega (arith, clean, c.answer.ensures.clean)));
      shown = shown;
    }) (c.answer.ensures.shown clean)

pub returns-else-branch-clause-shown : goal.returns-else-branch-clause-shown
returns-else-branch-clause-shown g c clean = record {
  mid = c.has_table.new.connection;
  is_there = false;
  asked = subst (ShowsWhether g.S.Store c.args.table.now c.args.connection.now c.has_table.new.connection) c.if-branch.false (c.in_ok-has_table.ensures.shown clean);
  shown = (refl, c.new.ensures.items);
}

pub returns-then-branch-clause-cause : goal.returns-then-branch-clause-cause
returns-then-branch-clause-cause g c clean failed =
    inr (
      c.has_table.new.connection,
      subst (ShowsWhether g.S.Store c.args.table.now c.args.connection.now c.has_table.new.connection) c.if-branch.true
          (c.in_ok-has_table.ensures.shown (omega (arith, clean, c.answer.ensures.clean))),
      c.answer.ensures.cause clean failed,
    )
