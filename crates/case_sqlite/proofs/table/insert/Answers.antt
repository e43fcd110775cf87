-- The values that are bound are the columns of the case.
use Rattle.std.proofs.Common.{subst}
use Rattle.std.specs.Prelude.{OnOk}
use Rattle.sqlite.specs.Held.{state}
use Rattle.sqlite.specs.State.{Survives}
use Rattle.case_sqlite.specs.Runs.{MakesTrees, RunsCommitted}
use Rattle.case_sqlite.specs.Statements.{insert_text}
use Rattle.case_sqlite.proofs.RunLemmas.{bound_columns}
use Rattle.case_sqlite.proofs.table.insert.Goals as goal

pub returns-then-has_place-clause-added : goal.returns-then-has_place-clause-added
returns-then-has_place-clause-added g c clean =
    subst (λ values. OnOk c.change.result (RunsCommitted g.S.Store insert_text values c.args.connection.now c.change.new.connection))
    (bound_columns c.case_values.result c.args.case.now c.case_values.ensures) (c.change.ensures.committed clean)

pub returns-then-has_place-clause-survives : goal.returns-then-has_place-clause-survives
returns-then-has_place-clause-survives g c =
    subst (λ values. Survives (state g.S.Store c.args.connection.now) (state g.S.Store c.change.new.connection) (MakesTrees g.S.Store insert_text values c.args.connection.now))
    (bound_columns c.case_values.result c.args.case.now c.case_values.ensures) c.change.ensures.survives
