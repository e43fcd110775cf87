-- Each case of the list passes the filter.
use Rattle.std.proofs.Common.{All, sym, ap, ◌∙◌, subst}
use Rattle.std.specs.Prelude.{IsTrue, option_map}
use Rattle.case_keeper.specs.Cases.{passes_filter}
use Rattle.std.proofs.Common.{map, arith}
use Rattle.sqlite.specs.Held.{state}
use Rattle.sqlite.specs.State.{Shown}
use Rattle.case_sqlite.specs.CaseRows.{case_columns}
use Rattle.case_sqlite.specs.Statements.{list_text, filter_values}
use Rattle.case_sqlite.proofs.AnswerLemmas.{all_pass, all_rows}
use Rattle.case_sqlite.proofs.sql_keeper.SqlKeeper.cases_passing.Goals as goal

pub returns-in-Some-clause-passing_only : goal.returns-in-Some-clause-passing_only
returns-in-Some-clause-passing_only g c =
    let told = sym c.in_ok-cases.ensures ∙ ap (option_map (λ cases. cases.items)) c.in-Some.is in
    subst (All (λ case. IsTrue (passes_filter c.args.filter.now case))) (sym c.of.ensures)
    (all_pass (passes_filter c.args.filter.now) c.deref.result.now c.in-Some.cases.items told)

pub returns-in-Some-clause-shown : goal.returns-in-Some-clause-shown
returns-in-Some-clause-shown g c clean =
    let told = sym c.in_ok-cases.ensures ∙ ap (option_map (λ cases. cases.items)) c.in-Some.is in record {
      table = c.make_table.new.self.connection;
      made = c.in_ok-make_table.ensures.made (omega (arith, clean, c.rows_passing.ensures.clean));
      shown = subst (Shown list_text (filter_values c.args.filter.now) (state g.S.Store c.make_table.new.self.connection) (state g.S.Store c.rows_passing.new.connection))
          (sym c.deref.ensures.value ∙ all_rows (passes_filter c.args.filter.now) c.deref.result.now c.in-Some.cases.items told ∙ ap (map case_columns) (sym c.of.ensures))
          (c.in_ok-rows.ensures.shown clean);
      known = c.in_ok-make_table.ensures.known;
    }
