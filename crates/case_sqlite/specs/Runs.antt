-- What the calls of a keeper run in its database.
use Rattle.std.specs.Prelude.{◌≡◌, ◌⊎◌, ℕ, ◌≤◌, true, List, [], map, Option, Ok, IsTrue, MatchBool}
use Rattle.case_keeper.specs.declared.case.Case.{Case}
use Rattle.case_keeper.specs.declared.case.Filter.{Filter}
use Rattle.sqlite.specs.Held.{Held, state}
use Rattle.sqlite.specs.State.{State, HasCleanDisk, Executes, Shown, KeepsCommit}
use Rattle.sqlite_trees.specs.Tree.{Trees}
use Rattle.sqlite_trees.specs.View.{doubt}
use Rattle.sqlite_trees.specs.declared.store.Store.{Ghosts}
use Rattle.sqlite_value.specs.Order.{Row}
use Rattle.case_sqlite.specs.CaseRows.{case_columns, rows_of_case}
use Rattle.case_sqlite.specs.SqlKeepers.{connection_of}
use Rattle.case_sqlite.specs.Statements.{make_text, insert_text, find_text, list_text, label_values, filter_values}
use Rattle.case_sqlite.specs.declared.sql_keeper.SqlKeeper.{SqlKeeper}

-- a transaction is begun, in which nothing was done yet
abbrev pub transaction_begun : State → State
transaction_begun s = record s { in_transaction = true }

-- what the disk was once known to have returned wrong stays known
abbrev pub KeepsDoubt : State → State → Type 0
KeepsDoubt old new = doubt old.is_clean ≤ doubt new.is_clean

module _ {S : Type 0} (g : Ghosts S) where
  -- A statement, run in a transaction of its own, makes these trees of the database.
  pub record MakesTrees (text : List ℕ) (values : Row) (old : Held S) (db : Trees) : Type 0 where
    pub inside : Held S
    pub count : ℕ
    pub ran : Executes text values (transaction_begun (state g old)) (state g inside) (Ok count)
    pub trees : db ≡ (state g inside).now.trees

  -- A statement ran in a transaction of its own, and was committed: the database is what the
  -- statement made of it, and this is what a stop leaves.
  pub record RunsCommitted (text : List ℕ) (values : Row) (old new : Held S) : Type 0 where
    pub inside : Held S
    pub count : ℕ
    pub ran : Executes text values (transaction_begun (state g old)) (state g inside) (Ok count)
    pub now : (state g new).now ≡ (state g inside).now
    pub committed : (state g new).committed ≡ (state g inside).now
    pub is_open : IsTrue (state g new).is_open
    pub lasts : (db : Trees) → (state g new).may_leave db → db ≡ (state g inside).now.trees

  -- what the connection of the keeper shows of its database
  abbrev pub database : SqlKeeper S → State
  database keeper = state g (connection_of keeper)

  -- the disk of the database has returned so far what was written
  abbrev pub KeeperDiskIsClean : SqlKeeper S → Type 0
  KeeperDiskIsClean keeper = HasCleanDisk (database keeper)

  -- the connection once the table is there: that of the keeper, or what making the table left of it
  -- at the first call
  abbrev pub HasTable : SqlKeeper S → Held S → Type 0
  HasTable keeper connection =
      MatchBool keeper.has_table (connection ≡ connection_of keeper)
      (RunsCommitted make_text [] (connection_of keeper) connection)

  -- A query that only reads shows these rows, all of them, over the table of the keeper.
  pub record ShowsRows (text : List ℕ) (values : Row) (old new : SqlKeeper S)
      (rows : List Row) : Type 0 where
    pub table : Held S
    pub made : HasTable old table
    pub shown : Shown text values (state g table) (database new) rows
    pub known : IsTrue new.has_table

  -- what is found is the one row that the table shows for the label, nothing where it shows none
  abbrev pub FindsRow : SqlKeeper S → SqlKeeper S → List ℕ → Option Case → Type 0
  FindsRow old new label found =
      ShowsRows find_text (label_values label) old new (rows_of_case found)

  -- the cases that are listed are all rows that the table shows for the filter, in the order of
  -- their numbers
  abbrev pub ListsRows : SqlKeeper S → SqlKeeper S → Filter → List Case → Type 0
  ListsRows old new filter given =
      ShowsRows list_text (filter_values filter) old new (map case_columns given)

  -- The row of a case was added to the table, and the addition was committed.
  pub record AddsRow (old new : SqlKeeper S) (case : Case) : Type 0 where
    pub table : Held S
    pub made : HasTable old table
    pub added : RunsCommitted insert_text (case_columns case) table (connection_of new)
    pub known : IsTrue new.has_table

  -- A call that failed committed nothing but the making of the table.
  abbrev pub AddsNothing : SqlKeeper S → SqlKeeper S → Type 0
  AddsNothing old new =
      KeepsCommit (database old) (database new)
      ⊎ ((table : Held S) × HasTable old table × KeepsCommit (state g table) (database new))

  -- what a stop while a case is added may leave that it could not leave before: the table as it was
  -- made, or with the row of the case
  abbrev pub AddingMayLeave : SqlKeeper S → Case → Trees → Type 0
  AddingMayLeave old case db =
      MakesTrees make_text [] (connection_of old) db
      ⊎ ((table : Held S) × HasTable old table
      × MakesTrees insert_text (case_columns case) table db)
