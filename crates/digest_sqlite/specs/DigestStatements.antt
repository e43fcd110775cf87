-- The statements of a keeper of cases with digests: their texts, and the values that each is given.
use Rattle.std.specs.Prelude.{ℕ, List, [], ◌∷◌, ◌++◌, codes}
use Rattle.case_sqlite.specs.CaseRows.{case_columns}
use Rattle.case_sqlite.specs.Statements.{make_text, insert_text}
use Rattle.digest_keeper.specs.declared.digested.DigestedCase.{DigestedCase}
use Rattle.sqlite_value.specs.Order.{Row}
use Rattle.sqlite_value.specs.declared.value.Value.TheVariants.{Text}
use Rattle.digest_sqlite.specs.DigestRows.{digest_columns}

-- A statement: its text, and the values that it is given.
pub record SqlStatement : Type 0 where
  pub text : List ℕ
  pub values : Row

-- the statement of a text and of the values that it is given
abbrev pub statement_of : List ℕ → Row → SqlStatement
statement_of text values = record { text = text; values = values }

-- the table of digests is made where it is not there: each label has one row
abbrev pub make_digests_text : List ℕ
make_digests_text =
    codes "CREATE TABLE IF NOT EXISTS digests (label TEXT PRIMARY KEY, "
    ++ codes "orders TEXT NOT NULL, trades TEXT NOT NULL)"

-- one row of digests is added, with these three values in its columns
abbrev pub insert_digests_text : List ℕ
insert_digests_text = codes "INSERT INTO digests (label, orders, trades) VALUES (?1, ?2, ?3)"

-- the digests of a label are shown
abbrev pub find_digests_text : List ℕ
find_digests_text = codes "SELECT label, orders, trades FROM digests WHERE label = ?1"

-- the name of a table is shown, where the table is there
abbrev pub find_table_text : List ℕ
find_table_text = codes "SELECT name FROM sqlite_schema WHERE type = 'table' AND name = ?1"

-- the names of both tables
abbrev pub cases_table : List ℕ
cases_table = codes "cases"

abbrev pub digests_table : List ℕ
digests_table = codes "digests"

-- what a query for a name is given: the name
abbrev pub name_values : List ℕ → Row
name_values name = Text name ∷ []

-- both tables are made where they are not there
abbrev pub making_statements : List SqlStatement
making_statements =
    statement_of make_text [] ∷ statement_of make_digests_text [] ∷ []

-- a case is added
abbrev pub adding_case : DigestedCase → SqlStatement
adding_case digested = record { text = insert_text; values = case_columns digested.case }

-- the digests of a case are added
abbrev pub adding_digests : DigestedCase → SqlStatement
adding_digests digested = record {
  text = insert_digests_text;
  values = digest_columns digested.case.label digested.digests;
}

-- a case is added, and then its digests
abbrev pub adding_statements : DigestedCase → List SqlStatement
adding_statements digested = adding_case digested ∷ adding_digests digested ∷ []

-- each of these cases is added with its digests, one after another
abbrev pub adding_each : List DigestedCase → List SqlStatement
adding_each [] = []
adding_each (digested ∷ more) = adding_statements digested ++ adding_each more

-- what filing cases with digests runs: both tables are made, and each case is added with its digests
abbrev pub filing_statements : List DigestedCase → List SqlStatement
filing_statements filed = making_statements ++ adding_each filed
