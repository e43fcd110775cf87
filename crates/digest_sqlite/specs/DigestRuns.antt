-- What the calls of a keeper of cases with digests run in its database.
use Rattle.std.specs.Prelude.{◌≡◌, ◌⊎◌, ℕ, Bool, true, false, List, [], ◌∷◌, ◌++◌, Option, None, Some, Result, Ok, Err, IsTrue, MatchBool, MatchResult}
use Rattle.case_keeper.specs.Cases.{has_label}
use Rattle.case_keeper.specs.declared.case.Case.{Case}
use Rattle.case_keeper.specs.declared.keeper.KeepFault.TheVariants.{Failed}
use Rattle.digest_keeper.specs.declared.digested.DigestedCase.{DigestedCase}
use Rattle.digest_keeper.specs.declared.digested.KeptCase.{KeptCase}
use Rattle.sqlite.specs.Held.{Held, state}
use Rattle.sqlite.specs.State.{HasCleanDisk, KeepsCommit, Executes, ExecutesInside, FailsToQuery, Shown}
use Rattle.sqlite.specs.Steps.{FailsToCommit}
use Rattle.sqlite.specs.declared.error.Error.{Error}
use Rattle.sqlite_trees.specs.Tree.{Trees}
use Rattle.sqlite_trees.specs.declared.store.Store.{Ghosts}
use Rattle.sqlite_value.specs.Order.{Row}
use Rattle.case_sqlite.specs.CaseRows.{rows_of_case}
use Rattle.case_sqlite.specs.Faults.{fault_of}
use Rattle.case_sqlite.specs.Readings.{one_case_that}
use Rattle.case_sqlite.specs.Statements.{find_text}
use Rattle.digest_sqlite.specs.DigestRows.{HavePlaces, are_digest_rows, rows_of_digests}
use Rattle.digest_sqlite.specs.DigestStatements.{SqlStatement, filing_statements, find_table_text, find_digests_text, cases_table, digests_table, name_values}

-- a transaction is begun, in which nothing was done yet
abbrev pub begun_transaction : {S : Type 0} → Held S → Held S
begun_transaction connection = record connection { in_transaction = true }

module _ {S : Type 0} (g : Ghosts S) where
  -- these statements ran one after another, each to its end
  abbrev pub RunsEach : List SqlStatement → Held S → Held S → Type 0
  RunsEach [] old new = new ≡ old
  RunsEach (statement ∷ more) old new =
      (mid : Held S) × (count : ℕ)
      × Executes statement.text statement.values (state g old) (state g mid) (Ok count)
      × RunsEach more mid new

  -- These statements ran one after another in a transaction that goes on: nothing was committed.
  pub record RunsOn (statements : List SqlStatement) (old new : Held S) : Type 0 where
    pub ran : RunsEach statements old new
    pub goes_on : IsTrue new.in_transaction
    pub kept : KeepsCommit (state g old) (state g new)

  -- The database refused one of these statements with this error, after those before it had run one
  -- after another.
  pub record RefusesOne (statements : List SqlStatement) (old : Held S) (error : Error) : Type 0 where
    pub done : List SqlStatement
    pub refused : SqlStatement
    pub more : List SqlStatement
    pub all : statements ≡ done ++ refused ∷ more
    pub mid : Held S
    pub ran : RunsEach done old mid
    pub new : Held S
    pub is : ExecutesInside 0 refused.text refused.values (state g mid) (state g new) (Err error)

  -- What running statements one after another in a transaction leaves: at Ok all ran and the
  -- transaction goes on, and at Err nothing was committed, and the database refused one of them.
  abbrev pub RunsInside : {T : Type 0} → List SqlStatement → Held S → Held S → Result T Error
      → Type 0
  RunsInside statements old new result =
      HasCleanDisk (state g new) → IsTrue old.in_transaction
      → MatchResult result (λ _. RunsOn statements old new)
      (λ error. KeepsCommit (state g old) (state g new) × RefusesOne statements old error)

  -- These statements, run in one transaction, make these trees of the database.
  pub record MakesTreesTogether (statements : List SqlStatement) (old : Held S) (db : Trees)
      : Type 0 where
    pub inside : Held S
    pub ran : RunsEach statements (begun_transaction old) inside
    pub trees : db ≡ (state g inside).now.trees

  -- These statements ran in one transaction, and were committed together: the database is what
  -- they made of it, and this is what a stop leaves.
  pub record RunsTogether (statements : List SqlStatement) (old new : Held S) : Type 0 where
    pub inside : Held S
    pub ran : RunsEach statements (begun_transaction old) inside
    pub now : (state g new).now ≡ (state g inside).now
    pub committed : (state g new).committed ≡ (state g inside).now
    pub is_open : IsTrue (state g new).is_open
    pub lasts : (db : Trees) → (state g new).may_leave db → db ≡ (state g inside).now.trees

  -- The database refused to commit what these statements had made of it, all of which had run one
  -- after another.
  pub record RefusesToCommit (statements : List SqlStatement) (old : Held S) (error : Error)
      : Type 0 where
    pub inside : Held S
    pub ran : RunsEach statements old inside
    pub new : Held S
    pub is : FailsToCommit (state g inside) (state g new) error

  -- these statements were begun together in one transaction, and the database refused one of them, or
  -- to commit
  abbrev pub RefusesTogether : List SqlStatement → Held S → Error → Type 0
  RefusesTogether statements old error =
      RefusesOne statements (begun_transaction old) error
      ⊎ RefusesToCommit statements (begun_transaction old) error

  -- why no case of a list is filed: one has an offence at no place; a transaction is open; or the
  -- database refused, and not for want of memory
  abbrev pub FailsToFile : List DigestedCase → Held S → Type 0
  FailsToFile filed old =
      (¬ HavePlaces filed) ⊎ IsTrue old.in_transaction
      ⊎ ((error : Error) × (fault_of error ≡ Failed)
      × RefusesTogether (filing_statements filed) old error)

  -- The database was asked whether it has a table: it showed the name of one, or nothing.
  pub record ShowsWhether (table : List ℕ) (old new : Held S) (is_there : Bool) : Type 0 where
    pub rows : List Row
    pub shown : Shown find_table_text (name_values table) (state g old) (state g new) rows
    pub is : MatchBool is_there (Unit {0}) (rows ≡ [])

  -- A query of a table showed these rows, all of them; none, where the table is not there.
  pub record ShowsIfThere (table text values : List ℕ) (old new : Held S) (rows : List Row)
      : Type 0 where
    pub mid : Held S
    pub is_there : Bool
    pub asked : ShowsWhether table old mid is_there
    pub shown : MatchBool is_there
        (Shown text (name_values values) (state g mid) (state g new) rows)
        ((new ≡ mid) × (rows ≡ []))

  -- what is found under a label is the one row of the cases for it and the one row of the digests,
  -- each where it is there
  abbrev pub FindsBothRows : List ℕ → Held S → Held S → Option KeptCase → Type 0
  FindsBothRows label old new None =
      ShowsIfThere cases_table find_text label old new (rows_of_case None)
  FindsBothRows label old new (Some kept) =
      (mid : Held S)
      × ShowsIfThere cases_table find_text label old mid (rows_of_case (Some kept.case))
      × ShowsIfThere digests_table find_digests_text label mid new
      (rows_of_digests label kept.digests)

  -- The database refused a query, and not for want of memory.
  pub record RefusesQuery (text : List ℕ) (values : Row) (old new : Held S) : Type 0 where
    pub error : Error
    pub refused : FailsToQuery text values (state g old) (state g new) error
    pub failed : fault_of error ≡ Failed

  -- the database refused to say whether a table is there, or, where it is, what it has for a name
  abbrev pub RefusesToShow : List ℕ → List ℕ → List ℕ → Held S → Held S → Type 0
  RefusesToShow table text name old new =
      RefusesQuery find_table_text (name_values table) old new
      ⊎ ((mid : Held S) × ShowsWhether table old mid true
      × RefusesQuery text (name_values name) mid new)

  -- why no case is found nor none: the database refused, or it showed rows that are neither none nor
  -- the one row of a case with the label
  abbrev pub FailsToFindCase : List ℕ → Held S → Held S → Type 0
  FailsToFindCase label old new =
      RefusesToShow cases_table find_text label old new
      ⊎ ((rows : List Row) × ShowsIfThere cases_table find_text label old new rows
      × (one_case_that (has_label label) rows ≡ Err Failed))

  -- why no digests are found nor none: the database refused, or it showed rows that are neither none
  -- nor the one row of digests with the label
  abbrev pub FailsToFindDigests : List ℕ → Held S → Held S → Type 0
  FailsToFindDigests label old new =
      RefusesToShow digests_table find_digests_text label old new
      ⊎ ((rows : List Row) × ShowsIfThere digests_table find_digests_text label old new rows
      × (are_digest_rows label rows ≡ false))

  -- why nothing is told of a label: that no case was found nor none, or, where a case was found, no
  -- digests nor none
  abbrev pub FailsToFind : List ℕ → Held S → Held S → Type 0
  FailsToFind label old new =
      FailsToFindCase label old new
      ⊎ ((mid : Held S) × (case : Case)
      × ShowsIfThere cases_table find_text label old mid (rows_of_case (Some case))
      × FailsToFindDigests label mid new)
