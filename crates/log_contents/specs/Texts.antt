-- The text of the contents of two logs.
use Rattle.std.specs.Prelude.{◌≡◌, ℕ, Bool, nat_eq, ◌==◌, ◌&&◌, Option, Some, None, List, [], ◌∷◌, ◌++◌, codes, decimal, drop, length, slice_index, if◌then◌else◌}
use Rattle.std.specs.List.{flat_map, list_any, starts_with}
use Rattle.audit_base.specs.Stamps.{stamp_text}
use Rattle.audit_base.specs.declared.terms.Which.{Which}
use Rattle.audit_base.specs.declared.terms.Which.TheVariants.{Orders, Trades}
use Rattle.audit_report.specs.Lines.{line_text, log_word}
use Rattle.day_symbols.specs.Symbols.{distinct_names}
use Rattle.log_contents.specs.declared.time_spans.TimeSpan.{TimeSpan}
use Rattle.log_contents.specs.Counts.{count_of_kind, kinds_in_order}
use Rattle.log_contents.specs.Facts.{AreWithin}
use Rattle.log_contents.specs.Summaries.{LogItems}

-- `LOG,KIND,COUNT`
abbrev pub counted_line : Which → List ℕ → ℕ → List ℕ
counted_line log kind count = line_text (log_word log ∷ kind ∷ decimal count ∷ [])

-- a line for each kind of a log, in the order in which each appears first
abbrev pub kind_lines : Which → List (List ℕ) → List ℕ
kind_lines log kinds =
    flat_map (λ kind. counted_line log kind (count_of_kind kind kinds)) (kinds_in_order kinds)

-- the execution types of reports that end, change, hold back or undo what of an order may trade:
-- partial fill, fill, done for day, canceled, replaced, rejected, suspended, expired, restated,
-- trade correct and trade cancel
unfoldable pub attention_types : List ℕ
attention_types = codes "1234589CDGH"

-- what the kind of a report of another execution type begins with
unfoldable pub execution_front : List ℕ
execution_front = codes "passed:150="

-- a kind that asks for attention: it is `passed:150=` and one byte, which is one of those types
abbrev pub needs_attention : List ℕ → Bool
needs_attention kind =
    length kind == 12 && starts_with nat_eq kind execution_front
    && list_any (λ byte. byte == slice_index kind 11) attention_types

-- `attention,LOG,150=V,COUNT`, where the kind is `passed:150=V`
abbrev pub attention_line : Which → List ℕ → ℕ → List ℕ
attention_line log kind count =
    line_text (codes "attention" ∷ log_word log ∷ drop 7 kind ∷ decimal count ∷ [])

-- the same of a kind that asks for attention, and of any other nothing
abbrev pub attention_line_if_needed : Which → List ℕ → ℕ → List ℕ
attention_line_if_needed log kind count =
    if needs_attention kind then attention_line log kind count else []

-- a line for each kind of a log that asks for attention
abbrev pub attention_lines : Which → List (List ℕ) → List ℕ
attention_lines log kinds =
    flat_map (λ kind. attention_line_if_needed log kind (count_of_kind kind kinds))
    (kinds_in_order kinds)

-- `symbols,N`
abbrev pub symbols_line : ℕ → List ℕ
symbols_line count = line_text (codes "symbols" ∷ decimal count ∷ [])

-- `times,LOG,FIRST,LAST`, where the log has a record
abbrev pub times_line : Which → Option TimeSpan → List ℕ
times_line log None = []
times_line log (Some span) =
    line_text (codes "times" ∷ log_word log ∷ stamp_text span.first ∷ stamp_text span.last ∷ [])

-- the text of two logs that have this, with the spans of their times
abbrev pub contents_text : LogItems → LogItems → Option TimeSpan → Option TimeSpan → List ℕ
contents_text orders trades order_times trade_times =
    kind_lines Orders orders.kinds ++ kind_lines Trades trades.kinds
    ++ attention_lines Orders orders.kinds ++ attention_lines Trades trades.kinds
    ++ symbols_line (length (distinct_names (orders.symbols ++ trades.symbols)))
    ++ times_line Orders order_times ++ times_line Trades trade_times

-- The text says of two logs that have this: how many messages or records of each kind each has,
-- which kinds ask for attention, how many symbols the records of both have, and the least and the
-- greatest time of each log that has records.
pub record IsContentsText (orders trades : LogItems) (text : List ℕ) : Type 0 where
  pub order_times : Option TimeSpan
  pub trade_times : Option TimeSpan
  pub order_times_are : AreWithin orders.times order_times
  pub trade_times_are : AreWithin trades.times trade_times
  pub text_is : text ≡ contents_text orders trades order_times trade_times
