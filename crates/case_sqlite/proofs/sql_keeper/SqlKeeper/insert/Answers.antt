-- The row was added to the table that is there.
use Rattle.std.proofs.Common.{[], inl, inr, arith}
use Rattle.sqlite.specs.Held.{state}
use Rattle.sqlite.proofs.StateLemmas.{survives_then}
use Rattle.case_sqlite.specs.CaseRows.{case_columns}
use Rattle.case_sqlite.specs.Runs.{database, MakesTrees, AddingMayLeave}
use Rattle.case_sqlite.specs.Statements.{make_text, insert_text}
use Rattle.case_sqlite.proofs.RunLemmas.{on_ok_then, on_err_then}
use Rattle.case_sqlite.proofs.sql_keeper.SqlKeeper.insert.Goals as goal

pub returns-clause-inserted : goal.returns-clause-inserted
returns-clause-inserted g c clean =
    on_ok_then c.insert.result (c.insert.ensures.added clean) (λ added. record {
      table = c.make_table.new.self.connection;
      made = c.in_ok-make_table.ensures.made (omega (arith, clean, c.insert.ensures.survives.clean));
      added = added;
      known = c.in_ok-make_table.ensures.known;
    })

pub returns-clause-refused : goal.returns-clause-refused
returns-clause-refused g c clean =
    let table = c.make_table.new.self.connection in
    on_err_then c.insert.result (c.insert.ensures.refused clean)
    (λ kept. inr (table, c.in_ok-make_table.ensures.made (omega (arith, clean, c.insert.ensures.survives.clean)), kept))

pub returns-clause-survives : goal.returns-clause-survives
returns-clause-survives g c =
    let table = c.make_table.new.self.connection in
    survives_then (database g.S.Store c.args.self.now) (state g.S.Store table) (state g.S.Store c.insert.new.connection)
    (MakesTrees g.S.Store make_text [] c.args.self.now.connection) (MakesTrees g.S.Store insert_text (case_columns c.args.case.now) table) (AddingMayLeave g.S.Store c.args.self.now c.args.case.now)
    (λ _ db made. inl made)
    (λ clean db added. inr (table, c.in_ok-make_table.ensures.made (omega (arith, clean, c.insert.ensures.survives.clean)), added))
    c.make_table.ensures.survives c.insert.ensures.survives
