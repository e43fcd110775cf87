-- The rows of the table of a day, from the lines of the day's text: each symbol has one line that
-- gives its row, `SYMBOL,totals,ORDERS,TRADES,VOLUME` or `SYMBOL,rejected,PROPERTY,LOG,PLACE`.
use Rattle.std.specs.Prelude.{ℕ, Bool, List, [], ◌∷◌, ◌++◌, codes, if◌then◌else◌}
use Rattle.std.specs.List.{flat_map}
use Rattle.page_markup.specs.declared.words.AttributeName.TheVariants as name
use Rattle.page_markup.specs.declared.words.Tag.TheVariants as tag
use Rattle.page_markup.specs.Escapes.{escaped}
use Rattle.page_parts.specs.Elements.{element, link, said}
use Rattle.page_parts.specs.declared.cells.TableColumn.{TableColumn}
use Rattle.page_parts.specs.declared.cells.TableColumn.TheVariants.{Symbol, Answer, Log, Record, Orders, Trades, Volume}
use Rattle.page_parts.specs.TableElements.{gaps, words_cell}
use Rattle.day_page.specs.DayLines.{field_at, is_word, text_lines}
use Rattle.day_page.specs.FileNames.{page_address}
use Rattle.day_page.specs.Links.{has_page}
use Rattle.day_page.specs.PropertyWords.{is_of_volume, rejected_words}

-- the columns of the table
abbrev pub day_columns : List TableColumn
day_columns = Symbol ∷ Answer ∷ Log ∷ Record ∷ Orders ∷ Trades ∷ Volume ∷ []

-- the heading of a row: the symbol, whose spaces are kept, or a link to its page
abbrev pub row_heading_of : List ℕ → List ℕ
row_heading_of inner = element tag.HeaderCell
    (said name.Scope (codes "row") ++ said name.Class (codes "name")) inner

abbrev pub symbol_heading : List ℕ → List ℕ
symbol_heading symbol = row_heading_of (escaped symbol)

abbrev pub linked_heading : List ℕ → List ℕ
linked_heading symbol = row_heading_of (link (page_address symbol) symbol)

-- a cell of a number as the report writes it
abbrev pub digits_cell : List ℕ → List ℕ
digits_cell digits = element tag.Cell (said name.Class (codes "number")) (escaped digits)

-- the cells and the row of a symbol that is accepted: its orders, its trades and its volume
abbrev pub totals_cells : List ℕ → List ℕ → List ℕ → List ℕ
totals_cells orders trades volume = digits_cell orders ++ digits_cell trades ++ digits_cell volume

abbrev pub accepted_cells : List ℕ → List ℕ → List ℕ → List ℕ → List ℕ
accepted_cells symbol orders trades volume = symbol_heading symbol
    ++ words_cell (codes "accepted") ++ gaps 2 ++ totals_cells orders trades volume

abbrev pub accepted_row : List ℕ → List ℕ → List ℕ → List ℕ → List ℕ
accepted_row symbol orders trades volume =
    element tag.Row [] (accepted_cells symbol orders trades volume)

-- the cells of the record that offends, its log as the report writes it and its place; none does
-- where the volume is not the greatest
abbrev pub record_cells : List ℕ → List ℕ → List ℕ → List ℕ
record_cells property log place = if is_of_volume property then []
    else words_cell log ++ digits_cell place

-- the heading of the row of a symbol that is rejected, by whether it has a page
abbrev pub rejected_heading : Bool → List ℕ → List ℕ
rejected_heading linked symbol =
    if linked then linked_heading symbol else symbol_heading symbol

-- the cells and the row of a symbol that is rejected, by whether it has a page
abbrev pub rejected_cells : Bool → List ℕ → List ℕ → List ℕ → List ℕ → List ℕ
rejected_cells linked symbol property log place = rejected_heading linked symbol
    ++ words_cell (rejected_words property) ++ record_cells property log place

abbrev pub rejected_row : Bool → List ℕ → List ℕ → List ℕ → List ℕ → List ℕ
rejected_row linked symbol property log place =
    element tag.Row [] (rejected_cells linked symbol property log place)

-- the row of a line of totals, and that of a line that rejects, by their fields, where this is asked
-- of the day
abbrev pub row_of_totals : List ℕ → List ℕ
row_of_totals line =
    accepted_row (field_at 0 line) (field_at 2 line) (field_at 3 line) (field_at 4 line)

abbrev pub row_of_rejection : List ℕ → List ℕ → List ℕ
row_of_rejection asked line =
    rejected_row (has_page asked (field_at 0 line) (field_at 2 line))
    (field_at 0 line) (field_at 2 line) (field_at 3 line) (field_at 4 line)

-- the row that a line gives, by the word in its second field; other lines give none
abbrev pub row_of_line : List ℕ → List ℕ → List ℕ
row_of_line asked line = if is_word (field_at 1 line) (codes "totals") then row_of_totals line
    else (if is_word (field_at 1 line) (codes "rejected") then row_of_rejection asked line else [])

-- the rows that the lines of a text give, in their order, where this is asked of the day
abbrev pub rows_of_text : List ℕ → List ℕ → List ℕ
rows_of_text asked text = flat_map (row_of_line asked) (text_lines text)
