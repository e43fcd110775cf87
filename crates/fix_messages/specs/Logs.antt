-- What a FIX log says: its records, or its first bad message. The definitions take what the
-- fields of a message mean, so that they serve order logs and trade logs.
use Rattle.std.specs.Prelude.{◌≡◌, ◌↔◌, ◌⊎◌, Bool, false, not, ℕ, zero, suc, ◌+◌, ◌-◌, Option, Some, None, Result, Ok, Err, List, [], ◌∷◌, ◌++◌, length, IsTrue, if◌then◌else◌}
use Rattle.std.specs.List.{list_all, flat_map}
use Rattle.std.specs.Option.{option_to_list}
use Rattle.audit_base.specs.declared.faults.Reason.{Reason}
use Rattle.audit_base.specs.declared.faults.Reason.TheVariants as reason
use Rattle.audit_base.specs.declared.faults.BadPlace.{BadPlace}
use Rattle.audit_base.specs.declared.records.OrderRecord.{OrderRecord}
use Rattle.fix_framing.specs.Breaks.{is_line_end_byte}
use Rattle.fix_framing.specs.Frames.{IsFrame, frame_fault, frame_size, body_of}
use Rattle.fix_framing.specs.declared.frames.FrameFault.{FrameFault}
use Rattle.fix_framing.specs.declared.frames.FrameFault.TheVariants.{Begin, Length, Truncated, Trailer, Checksum}
use Rattle.trade_reports.specs.declared.reports.Report.{Report}
use Rattle.fix_messages.specs.Bodies.{MessageMeaning, BodySays, BodiesSay, body_says}
use Rattle.fix_messages.specs.OrderTables.{order_of_message}
use Rattle.fix_messages.specs.ReportTable.{report_of_message}

-- a fault of a frame as the reason of a bad place
abbrev pub frame_reason : FrameFault → Reason
frame_reason Begin = reason.Begin
frame_reason Length = reason.Length
frame_reason Truncated = reason.Truncated
frame_reason Trailer = reason.Trailer
frame_reason Checksum = reason.Checksum

-- a place of a log at which a message has to begin: its offset, and the body of the message, or
-- the first test of frames that fails there
pub record MessageItem : Type 0 where
  pub start : ℕ
  pub body : Result (List ℕ) FrameFault

-- the item at a text that does not begin with CR or LF, and the items
-- after its message, if there is one
abbrev pub item_and : ℕ → List ℕ → Option FrameFault → List MessageItem → List MessageItem
item_and at text None later = record { start = at; body = Ok (body_of text) } ∷ later
item_and at text (Some fault) later = record { start = at; body = Err fault } ∷ []

-- The items of a log from byte `at` on, whose first `inside` bytes belong to the message before:
-- CR and LF bytes are passed over, a message begins at any other byte, and after a place where
-- none begins nothing is read.
abbrev pub items_from : ℕ → ℕ → List ℕ → List MessageItem
items_from inside at [] = []
items_from zero at (byte ∷ rest) =
    if is_line_end_byte byte then items_from zero (at + 1) rest
    else item_and at (byte ∷ rest) (frame_fault (byte ∷ rest))
    (items_from (frame_size (byte ∷ rest) - 1) (at + 1) rest)
items_from (suc inside) at (byte ∷ rest) = items_from inside (at + 1) rest

-- what an item says, by what bodies say
abbrev pub item_says : {R : Type 0} → (List ℕ → Result (Option R) Reason)
    → Result (List ℕ) FrameFault → Result (Option R) Reason
item_says says (Ok body) = says body
item_says says (Err fault) = Err (frame_reason fault)

-- one record before others: it counts for the place of what is bad after it
abbrev pub with_record_of_message : {R : Type 0} → R → Result (List R) BadPlace
    → Result (List R) BadPlace
with_record_of_message entry (Ok entries) = Ok (entry ∷ entries)
with_record_of_message entry (Err bad) =
    Err (record { place = bad.place + 1; offset = bad.offset; reason = bad.reason })

-- an item at this offset, and what the items after it say
abbrev pub after_item : {R : Type 0} → ℕ → Result (Option R) Reason → Result (List R) BadPlace
    → Result (List R) BadPlace
after_item start (Ok None) later = later
after_item start (Ok (Some entry)) later = with_record_of_message entry later
after_item start (Err why) later = Err (record { place = 1; offset = start; reason = why })

-- the records of these items, or the first of them that is bad
abbrev pub read_items : {R : Type 0} → (List ℕ → Result (Option R) Reason) → List MessageItem
    → Result (List R) BadPlace
read_items says [] = Ok []
read_items says (item ∷ items) =
    after_item item.start (item_says says item.body) (read_items says items)

-- what a log says: its records, or its first bad place
unfoldable pub read_fix_log : {R : Type 0} → MessageMeaning R → List ℕ → Result (List R) BadPlace
read_fix_log meaning log = read_items (body_says meaning) (items_from 0 0 log)

-- what a FIX order log says: its records, or its first bad place
abbrev pub fix_order_records : List ℕ → Result (List OrderRecord) BadPlace
fix_order_records log = read_fix_log order_of_message log

-- what a FIX log of trade reports says: its reports, or its first bad place
abbrev pub fix_report_records : List ℕ → Result (List Report) BadPlace
fix_report_records log = read_fix_log report_of_message log

-- the text is messages with these bodies in order, with only CR and LF bytes around them
abbrev pub AreMessages : List ℕ → List (List ℕ) → Type 0
AreMessages text [] = IsTrue (list_all is_line_end_byte text)
AreMessages text (body ∷ bodies) =
    (gap : List ℕ) × (frame : List ℕ) × (rest : List ℕ) × IsTrue (list_all is_line_end_byte gap)
    × IsFrame frame body × (text ≡ gap ++ (frame ++ rest)) × AreMessages rest bodies

-- The text is messages each of which means a record or nothing,
-- and these are their records in order.
pub record HasRecords {R : Type 0} (meaning : MessageMeaning R) (text : List ℕ) (entries : List R)
    : Type 0 where
  pub bodies : List (List ℕ)
  pub messages : AreMessages text bodies
  pub meanings : List (Option R)
  pub good : BodiesSay meaning bodies meanings
  pub records : entries ≡ flat_map option_to_list meanings

-- the log is good with these records
abbrev pub IsGoodFixLog : {R : Type 0} → MessageMeaning R → List ℕ → List R → Type 0
IsGoodFixLog meaning log entries = HasRecords meaning log entries

-- the text begins with a byte that is neither CR nor LF
abbrev pub begins_past_breaks : List ℕ → Bool
begins_past_breaks [] = false
begins_past_breaks (byte ∷ rest) = not (is_line_end_byte byte)

-- No message begins where one has to: the first test of frames that fails there is the reason.
pub record LacksFrame (text : List ℕ) (why : Reason) : Type 0 where
  pub begins : IsTrue (begins_past_breaks text)
  pub fault : FrameFault
  pub fails : frame_fault text ≡ Some fault
  pub reason_is : why ≡ frame_reason fault

-- A message begins the text, and its body fails a test.
pub record HasBadBody {R : Type 0} (meaning : MessageMeaning R) (text : List ℕ) (why : Reason)
    : Type 0 where
  pub frame : List ℕ
  pub body : List ℕ
  pub rest : List ℕ
  pub cut : text ≡ frame ++ rest
  pub message : IsFrame frame body
  pub fails : BodySays meaning body (Err why)

-- The log is bad there: after messages that are good, and CR and LF bytes, no message begins, or
-- one that fails a test. The place is one more than the number of records before it, and the
-- offset that of its first byte.
pub record IsBadFixLog {R : Type 0} (meaning : MessageMeaning R) (log : List ℕ) (bad : BadPlace)
    : Type 0 where
  pub front : List ℕ
  pub left : List ℕ
  pub cut : log ≡ front ++ left
  pub entries : List R
  pub good : HasRecords meaning front entries
  pub why : Reason
  pub fails : LacksFrame left why ⊎ HasBadBody meaning left why
  pub place : bad ≡ record { place = length entries + 1; offset = length front; reason = why }

-- A log is read in one way: it is good with one list of records
-- or bad at one place, and never both.
pub record IsOnlyFixReading {R : Type 0} (meaning : MessageMeaning R) (log : List ℕ)
    (reading : Result (List R) BadPlace) : Type 0 where
  pub good : (entries : List R) → IsGoodFixLog meaning log entries ↔ (reading ≡ Ok entries)
  pub bad : (place : BadPlace) → IsBadFixLog meaning log place ↔ (reading ≡ Err place)
