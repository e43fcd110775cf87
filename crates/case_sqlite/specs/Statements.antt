-- The statements of a keeper over a database: their texts, and the values that each is given.
use Rattle.std.specs.Prelude.{ℕ, List, [], ◌∷◌, ◌++◌, codes}
use Rattle.std.specs.Option.{option_map_or}
use Rattle.case_keeper.specs.declared.case.Filter.{Filter}
use Rattle.case_keeper.specs.declared.case.Mark.{Mark}
use Rattle.case_keeper.specs.declared.case.Mark.TheVariants.{Accepted, Broken}
use Rattle.sqlite_value.specs.Order.{Row}
use Rattle.sqlite_value.specs.declared.value.Value.{Value}
use Rattle.sqlite_value.specs.declared.value.Value.TheVariants.{Null, Text}
use Rattle.case_sqlite.specs.CaseRows.{integer_value}
use Rattle.case_sqlite.specs.Codes.{property_number}

-- the columns of the table, as a query names them
abbrev pub columns_text : List ℕ
columns_text = codes "label, rule, symbol, property, log, place"

-- the table is made where it is not there: each row has a number that no row had before, and a
-- label of its own
abbrev pub make_text : List ℕ
make_text =
    codes "CREATE TABLE IF NOT EXISTS cases (number INTEGER PRIMARY KEY AUTOINCREMENT, "
    ++ codes "label TEXT NOT NULL UNIQUE, rule INTEGER NOT NULL, symbol TEXT NOT NULL, "
    ++ codes "property INTEGER NOT NULL, log INTEGER NOT NULL, place INTEGER NOT NULL)"

-- one row is added, with these six values in its columns
abbrev pub insert_text : List ℕ
insert_text =
    codes "INSERT INTO cases (" ++ columns_text ++ codes ") VALUES (?1, ?2, ?3, ?4, ?5, ?6)"

-- the rows with a label are shown
abbrev pub find_text : List ℕ
find_text = codes "SELECT " ++ columns_text ++ codes " FROM cases WHERE label = ?1"

-- the rows with a symbol and with the number of a property are shown, where these are given, in
-- the order of their numbers
abbrev pub list_text : List ℕ
list_text =
    codes "SELECT " ++ columns_text ++ codes " FROM cases WHERE (?1 IS NULL OR symbol = ?1) "
    ++ codes "AND (?2 IS NULL OR property = ?2) ORDER BY number"

-- what the query for a label is given: the label
abbrev pub label_values : List ℕ → Row
label_values label = Text label ∷ []

-- a mark as the column of properties has it: 0 of an accepted log, else the number of the property
abbrev pub mark_value : Mark → Value
mark_value Accepted = integer_value 0
mark_value (Broken property) = integer_value (property_number property)

-- the symbol that a filter names, or null
abbrev pub symbol_value : Filter → Value
symbol_value wanted = option_map_or Text wanted.symbol Null

-- the mark that a filter names, as the column of properties has it, or null
abbrev pub property_value : Filter → Value
property_value wanted = option_map_or mark_value wanted.mark Null

-- what the query of a list is given: the symbol and the mark that the filter names
abbrev pub filter_values : Filter → Row
filter_values wanted = symbol_value wanted ∷ property_value wanted ∷ []
