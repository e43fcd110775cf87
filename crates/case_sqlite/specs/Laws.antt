-- What holds of every row of the table of cases.
use Rattle.std.specs.Prelude.{◌≡◌, Option, Some}
use Rattle.case_keeper.specs.declared.case.Case.{Case}
use Rattle.sqlite_value.specs.Order.{Row}
use Rattle.case_sqlite.specs.CaseRows.{IsRowOf, RowSays}

-- no row is the row of two cases
abbrev pub RowHasOneCase : Type 0
RowHasOneCase = (row : Row) (a b : Case) → IsRowOf row a → IsRowOf row b → a ≡ b

-- what is read of the row of a case is this case
abbrev pub WrittenCaseIsRead : Type 0
WrittenCaseIsRead = (row : Row) (case : Case) (told : Option Case)
    → IsRowOf row case → RowSays row told → told ≡ Some case
