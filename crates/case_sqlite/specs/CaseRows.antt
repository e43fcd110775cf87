-- The rows of the table of cases: which row a case has, and what a row says.
use Rattle.std.specs.Prelude.{◌≡◌, ℕ, pos, ◌<◌, ◌≤◌, ◌^◌, List, [], ◌∷◌, map, Option, None, Some, IfSome, MatchOption, IsTrue}
use Rattle.std.specs.Option.{option_to_list}
use Rattle.audit_base.specs.Names.{is_name}
use Rattle.case_keeper.specs.declared.case.Case.{Case}
use Rattle.case_keeper.specs.declared.case.Offence.{Offence}
use Rattle.sqlite_value.specs.Order.{Row}
use Rattle.sqlite_value.specs.declared.value.Value.{Value}
use Rattle.sqlite_value.specs.declared.value.Value.TheVariants.{Int, Text}
use Rattle.case_sqlite.specs.Codes.{rule_number, property_number, log_number}

-- a number, as a column has it
abbrev pub integer_value : ℕ → Value
integer_value n = Int (pos n)

-- the columns of an offence are the number of its property, that of its log, and its place; of
-- none they are 0
abbrev pub offence_columns : Option Offence → Row
offence_columns None = integer_value 0 ∷ integer_value 0 ∷ integer_value 0 ∷ []
offence_columns (Some offence) =
    integer_value (property_number offence.property) ∷ integer_value (log_number offence.log)
    ∷ integer_value offence.place ∷ []

-- the columns of a case are its label, the number of its rule, its symbol, and those of its offence
abbrev pub case_columns : Case → Row
case_columns case =
    Text case.label ∷ integer_value (rule_number case.rule) ∷ Text case.symbol
    ∷ offence_columns case.offence

-- the row of a case that was found, or no row
abbrev pub rows_of_case : Option Case → List Row
rows_of_case found = map case_columns (option_to_list found)

-- the place of an offence is that of a record, from 1
abbrev pub OffenceHasPlace : Case → Type 0
OffenceHasPlace case =
    IfSome case.offence (λ offence. (1 ≤ offence.place) × (offence.place < 2 ^ 32))

-- A row is the row of a case: it has its columns, label and symbol are names, and an offence is
-- at a place.
pub record IsRowOf (row : Row) (case : Case) : Type 0 where
  pub columns : row ≡ case_columns case
  pub label : IsTrue (is_name case.label)
  pub symbol : IsTrue (is_name case.symbol)
  pub place : OffenceHasPlace case

-- what a row says: the case whose row it is, or nothing where it is the row of no case
abbrev pub RowSays : Row → Option Case → Type 0
RowSays row told = MatchOption told ((case : Case) → ¬ IsRowOf row case) (IsRowOf row)
