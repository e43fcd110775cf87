-- The page of a day, from the day's text.
use Rattle.std.specs.Prelude.{ℕ, Bool, List, [], ◌++◌, codes, if◌then◌else◌}
use Rattle.page_markup.specs.declared.words.Tag.TheVariants as tag
use Rattle.page_parts.specs.Documents.{IsPage}
use Rattle.page_parts.specs.Elements.{text_element}
use Rattle.page_parts.specs.TableElements.{head_of_table, table_element}
use Rattle.day_page.specs.DayLines.{behind_commas, field_at, first_line, is_word}
use Rattle.day_page.specs.Rows.{day_columns, rows_of_text}

-- The first line of the text of a day is `day,SYMBOLS,ACCEPTED,REJECTED,RULE`. Where the reports of
-- the trade log do not pair, it is `rejected,unpaired,trades,PLACE`, and no symbol is told of.
abbrev pub tells_symbols : List ℕ → Bool
tells_symbols line = is_word (field_at 0 line) (codes "day")

-- what is asked of the day, by which its symbols were judged: a rule, or the phases of a day
abbrev pub asked_of_day : List ℕ → List ℕ
asked_of_day line = behind_commas 4 line

-- the heading of the page, with that
abbrev pub day_heading : List ℕ → List ℕ
day_heading line = if tells_symbols line
    then codes "Every symbol of the day by " ++ asked_of_day line
    else codes "Every symbol of the day"

-- the counts in a sentence
abbrev pub counts_sentence : List ℕ → List ℕ
counts_sentence line = codes "Symbols: " ++ field_at 1 line ++ codes ". Accepted: "
    ++ field_at 2 line ++ codes ". Rejected: " ++ field_at 3 line ++ codes "."

-- that the reports do not pair, in a sentence
unfoldable pub unpaired_front : List ℕ
unpaired_front = codes "The reports of the trade log do not pair: record "

unfoldable pub unpaired_end : List ℕ
unpaired_end = codes " of the trade log is one that does not agree with the first of its trade,"
    ++ codes " or one that has no second (unpaired)."

abbrev pub unpaired_sentence : List ℕ → List ℕ
unpaired_sentence line = unpaired_front ++ field_at 3 line ++ unpaired_end

-- what the first line says, in a sentence
abbrev pub day_sentence : List ℕ → List ℕ
day_sentence line =
    if tells_symbols line then counts_sentence line else unpaired_sentence line

-- what the table is about, and its head
unfoldable pub day_caption : List ℕ
day_caption = codes "The symbols, in the order of their numbers"

unfoldable pub day_head : List ℕ
day_head = head_of_table day_columns

-- the table of the symbols that a text tells of, where its first line counts them
abbrev pub day_table : List ℕ → List ℕ
day_table text =
    table_element day_caption day_head (rows_of_text (asked_of_day (first_line text)) text)

abbrev pub table_if_told : List ℕ → List ℕ
table_if_told text = if tells_symbols (first_line text) then day_table text else []

-- the chief part of the page under a title: what the first line says, and the table
abbrev pub day_part : List ℕ → List ℕ → List ℕ
day_part title text = text_element tag.H1 title
    ++ text_element tag.Paragraph (day_sentence (first_line text)) ++ table_if_told text

-- this is the page of the day with this text
abbrev pub IsPageOfDayText : List ℕ → List ℕ → Type 0
IsPageOfDayText text page =
    IsPage (day_heading (first_line text)) (day_part (day_heading (first_line text)) text) page
