-- How the reason of a bad place is written.
use Rattle.std.specs.Prelude.{ℕ, List, ◌++◌, codes, decimal}
use Rattle.audit_base.specs.Columns.{column_name}
use Rattle.audit_base.specs.declared.terms.Which.{Which}
use Rattle.audit_base.specs.declared.faults.Reason.{Reason}
use Rattle.audit_base.specs.declared.faults.Reason.TheVariants.{Header, Break, Columns, Column, Begin, Length, Truncated, Trailer, Checksum, Field, MsgType, Missing, Repeated, Value, Unsupported}

-- a word that says what is wrong, and, where it is said of a column,
-- a byte or a tag, a colon and this
abbrev pub reason_text : Which → Reason → List ℕ
reason_text log Header = codes "header"
reason_text log Break = codes "break"
reason_text log Columns = codes "columns"
reason_text log (Column column) = codes "value:" ++ column_name log column
reason_text log Begin = codes "begin"
reason_text log Length = codes "length"
reason_text log Truncated = codes "truncated"
reason_text log Trailer = codes "trailer"
reason_text log Checksum = codes "checksum"
reason_text log (Field byte) = codes "field:" ++ decimal byte
reason_text log MsgType = codes "msgtype"
reason_text log (Missing tag) = codes "missing:" ++ decimal tag
reason_text log (Repeated tag) = codes "repeated:" ++ decimal tag
reason_text log (Value tag) = codes "value:" ++ decimal tag
reason_text log (Unsupported tag) = codes "unsupported:" ++ decimal tag
