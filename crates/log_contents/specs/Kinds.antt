-- The kind of a message or a record: how it is counted, and why it was passed over. Of a message it
-- has a value, as that is told.
use Rattle.std.specs.Prelude.{ℕ, Bool, nat_le, ◌&&◌, codes, Option, Some, None, Result, Ok, Err, List, ◌++◌, length, if◌then◌else◌}
use Rattle.std.specs.Char.{is_ascii_alphanumeric}
use Rattle.std.specs.List.{list_all}
use Rattle.audit_base.specs.declared.faults.BadPlace.{BadPlace}
use Rattle.audit_base.specs.declared.records.OrderRecord.{OrderRecord}
use Rattle.audit_base.specs.declared.records.OrderRecord.TheVariants.{New, Cancel, Replace}
use Rattle.audit_base.specs.declared.records.TradeRecord.{TradeRecord}
use Rattle.audit_base.specs.declared.terms.Life.{Life}
use Rattle.audit_base.specs.declared.terms.Life.TheVariants as life
use Rattle.fix_fields.specs.Grammar.{TagValue}
use Rattle.fix_messages.specs.declared.meanings.MessageFault.{MessageFault}
use Rattle.fix_messages.specs.Bodies.{MessageMeaning}
use Rattle.fix_messages.specs.Logs.{read_fix_log}
use Rattle.fix_messages.specs.Rows.{type_of, value_of, has_value_of, is_value_word, is_copy}

-- the most letters and digits of a value that is told as it is
abbrev pub longest_told : ℕ
longest_told = 16

-- a value that is told as it is: 1 to 16 letters and digits
abbrev pub is_told : List ℕ → Bool
is_told value =
    nat_le 1 (length value) && nat_le (length value) longest_told
    && list_all is_ascii_alphanumeric value

-- a value of a message as it is told: any other is told as `?`, since it may hold a comma or a line
-- end, and so could write lines of its own
abbrev pub told_value : List ℕ → List ℕ
told_value value = if is_told value then value else codes "?"

-- the first execution type (tag 150), or that there is none
abbrev pub execution_text : List TagValue → List ℕ
execution_text fields =
    if has_value_of 150 fields then codes "150=" ++ told_value (value_of 150 fields)
    else codes "150"

-- why a message is passed over: it is a copy, or a report of another execution type, or of
-- another type
abbrev pub why_passed_over : List TagValue → List ℕ
why_passed_over fields =
    if is_copy fields then codes "43=Y"
    else if is_value_word (codes "8") (type_of fields) then execution_text fields
    else codes "35=" ++ told_value (type_of fields)

-- `passed:` and why
abbrev pub passed_kind : List TagValue → List ℕ
passed_kind fields = codes "passed:" ++ why_passed_over fields

-- the kind of a message by what it means: its type where it is read, and else why it is passed
-- over
abbrev pub kind_by_meaning : {R : Type 0} → List TagValue → Result (Option R) MessageFault
    → Result (Option (List ℕ)) MessageFault
kind_by_meaning fields (Ok None) = Ok (Some (passed_kind fields))
kind_by_meaning fields (Ok (Some entry)) = Ok (Some (told_value (type_of fields)))
kind_by_meaning fields (Err why) = Err why

-- the kind of a message with these fields, in a log in which messages have this meaning; a message
-- that fails a test has none
abbrev pub kind_of_message : {R : Type 0} → MessageMeaning R → MessageMeaning (List ℕ)
kind_of_message meaning fields = kind_by_meaning fields (meaning fields)

-- the kinds of the messages of a FIX log, one for each of them in their order
abbrev pub kinds_of_messages : {R : Type 0} → MessageMeaning R → List ℕ
    → Result (List (List ℕ)) BadPlace
kinds_of_messages meaning log = read_fix_log (kind_of_message meaning) log

-- the kind of a new order, by its life
abbrev pub kind_of_life : Life → List ℕ
kind_of_life life.Rests = codes "N"
kind_of_life life.Immediate = codes "I"
kind_of_life life.Market = codes "M"

-- the kind of a record of a CSV order log, as its first column has it
abbrev pub kind_of_order : OrderRecord → List ℕ
kind_of_order (New key time symbol side quantity price life) = kind_of_life life
kind_of_order (Cancel key time symbol target) = codes "X"
kind_of_order (Replace key time symbol target side quantity price) = codes "R"

-- the kind of a record of a CSV trade log
abbrev pub kind_of_trade : TradeRecord → List ℕ
kind_of_trade trade = codes "T"
