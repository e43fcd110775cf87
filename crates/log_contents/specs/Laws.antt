-- The laws of counted kinds, as statements.
use Rattle.std.specs.Prelude.{◌≡◌, ◌≢◌, ℕ, List, None, Ok, length}
use Rattle.std.specs.List.{sum}
use Rattle.audit_base.specs.declared.terms.Form.{Form}
use Rattle.day_symbols.specs.Laws.{AreEachOnce}
use Rattle.fix_fields.specs.Grammar.{TagValue}
use Rattle.fix_messages.specs.Bodies.{MessageMeaning}
use Rattle.log_contents.specs.Counts.{counts_of, kinds_in_order}
use Rattle.log_contents.specs.DayItems.{order_log_items, trade_log_items}
use Rattle.log_contents.specs.Kinds.{kind_of_message}
use Rattle.log_contents.specs.Summaries.{LogItems}
use Rattle.log_contents.specs.Texts.{IsContentsText}
use Rattle.log_contents.specs.ToldLines.{HasContentsLines}

-- each kind once: the kinds in their order have no repetition, each kind is among them, and each
-- of them is one of the kinds
abbrev pub EachKindOnce : Type 0
EachKindOnce = (kinds : List (List ℕ)) → AreEachOnce kinds (kinds_in_order kinds)

-- the counts of all kinds sum to how many messages or records there are
abbrev pub CountsSumToAll : Type 0
CountsSumToAll =
    (kinds : List (List ℕ)) → sum (counts_of (kinds_in_order kinds) kinds) ≡ length kinds

-- each message that passes the tests of its table has a kind, whether it is read or passed over
abbrev pub EachMessageHasKind : {R : Type 0} → MessageMeaning R → Type 0
EachMessageHasKind meaning = (fields : List TagValue) → kind_of_message meaning fields ≢ Ok None

-- nothing is forged: whatever the values of the messages of two logs are, each line of the text of
-- their contents is of one of its four kinds, and no value writes a line or a field of its own
abbrev pub NothingIsForged : Type 0
NothingIsForged = (orders_form trades_form : Form) (orders trades text : List ℕ)
    (order_items trade_items : LogItems)
    → order_log_items orders_form orders ≡ Ok order_items
    → trade_log_items trades_form trades ≡ Ok trade_items
    → IsContentsText order_items trade_items text → HasContentsLines text
