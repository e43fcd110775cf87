-- Tables of a page: their cells, their headings and their head.
use Rattle.std.specs.Prelude.{ℕ, List, [], ◌++◌, codes, decimal, replicate}
use Rattle.std.specs.List.{flat_map}
use Rattle.audit_base.specs.Numbers.{price_text}
use Rattle.page_markup.specs.declared.words.AttributeName.TheVariants as name
use Rattle.page_markup.specs.declared.words.Tag.TheVariants as tag
use Rattle.page_parts.specs.declared.cells.TableColumn.{TableColumn}
use Rattle.page_parts.specs.declared.cells.TableColumn.TheVariants as column
use Rattle.page_markup.specs.Escapes.{escaped}
use Rattle.page_parts.specs.Elements.{element, said, text_element}

-- the cells of a table: words; a name, whose spaces are kept; a number; a price
abbrev pub words_cell : List ℕ → List ℕ
words_cell words = text_element tag.Cell words

abbrev pub name_cell : List ℕ → List ℕ
name_cell words = element tag.Cell (said name.Class (codes "name")) (escaped words)

abbrev pub number_cell : ℕ → List ℕ
number_cell number = element tag.Cell (said name.Class (codes "number")) (escaped (decimal number))

abbrev pub price_cell : ℕ → List ℕ
price_cell price = element tag.Cell (said name.Class (codes "number")) (escaped (price_text price))

-- the heading of a row
abbrev pub row_heading : List ℕ → List ℕ
row_heading words = element tag.HeaderCell (said name.Scope (codes "row")) (escaped words)

-- so many cells with nothing in them
abbrev pub gaps : ℕ → List ℕ
gaps count = flat_map (λ cell. cell) (replicate count (words_cell []))

-- the heading of a column
abbrev pub column_words : TableColumn → List ℕ
column_words column.Role = codes "Role"
column_words column.Mark = codes "Mark"
column_words column.Log = codes "Log"
column_words column.Record = codes "Record"
column_words column.Side = codes "Side"
column_words column.Firm = codes "Firm"
column_words column.Id = codes "Id"
column_words column.Quantity = codes "Quantity"
column_words column.Limit = codes "Limit"
column_words column.Traded = codes "Traded"
column_words column.Left = codes "Left"
column_words column.Due = codes "Due"
column_words column.Symbol = codes "Symbol"
column_words column.Answer = codes "Answer"
column_words column.Orders = codes "Orders"
column_words column.Trades = codes "Trades"
column_words column.Volume = codes "Volume"

-- numbers stand at the right
abbrev pub column_class : TableColumn → List ℕ
column_class column.Role = codes "text"
column_class column.Mark = codes "text"
column_class column.Log = codes "text"
column_class column.Record = codes "number"
column_class column.Side = codes "text"
column_class column.Firm = codes "text"
column_class column.Id = codes "text"
column_class column.Quantity = codes "number"
column_class column.Limit = codes "number"
column_class column.Traded = codes "number"
column_class column.Left = codes "number"
column_class column.Due = codes "number"
column_class column.Symbol = codes "text"
column_class column.Answer = codes "text"
column_class column.Orders = codes "number"
column_class column.Trades = codes "number"
column_class column.Volume = codes "number"

abbrev pub column_heading : TableColumn → List ℕ
column_heading of = element tag.HeaderCell
    (said name.Scope (codes "col") ++ said name.Class (column_class of)) (escaped (column_words of))

-- the head of a table with these columns
abbrev pub head_of_table : List TableColumn → List ℕ
head_of_table columns =
    element tag.TableHead [] (element tag.Row [] (flat_map column_heading columns))

-- a table: its caption, its head and its rows
abbrev pub table_element : List ℕ → List ℕ → List ℕ → List ℕ
table_element caption head rows = element tag.Table []
    (text_element tag.Caption caption ++ head ++ element tag.TableBody [] rows)
