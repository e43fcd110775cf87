-- The cases in the rows seen so far are those that were taken.
use Rattle.std.proofs.Common.{◌≡◌, take, Some}
use Rattle.case_keeper.specs.Cases.{passes_filter}
use Rattle.case_sqlite.specs.Readings.{cases_that}
use Rattle.case_sqlite.proofs.answers.all_passing.Given as goal

abbrev pub invariant-loop-row : goal.invariant-loop-row
invariant-loop-row l = cases_that (passes_filter l.filter) (take l.row-index l.rows) ≡ Some l.cases.items
