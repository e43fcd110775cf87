-- The rows that were shown are that of the case, or none.
use Rattle.std.proofs.Common.{sym, ◌∙◌, subst, arith}
use Rattle.std.proofs.lemmas.Result.{IfOk-weaker}
use Rattle.sqlite.specs.Held.{state}
use Rattle.sqlite.specs.State.{Shown}
use Rattle.case_sqlite.specs.Statements.{find_text, label_values}
use Rattle.case_sqlite.proofs.sql_keeper.SqlKeeper.case_with_label.Goals as goal

pub returns-clause-shown : goal.returns-clause-shown
returns-clause-shown g c clean =
    IfOk-weaker c.one_with_label.result _ _ (λ found is. record {
      table = c.make_table.new.self.connection;
      made = c.in_ok-make_table.ensures.made (omega (arith, clean, c.rows_with_label.ensures.clean));
      shown = subst (Shown find_text (label_values c.args.label.now) (state g.S.Store c.make_table.new.self.connection) (state g.S.Store c.rows_with_label.new.connection))
          (sym c.deref.ensures.value ∙ is)
          (c.in_ok-rows.ensures.shown clean);
      known = c.in_ok-make_table.ensures.known;
    }) c.one_with_label.ensures.rows
