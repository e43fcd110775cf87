-- What the contents of a log stand for.
use Rattle.std.specs.Prelude.{ℕ, Bool, List, map, if◌then◌else◌}
use Rattle.audit_base.specs.Moments.{Moment}
use Rattle.fix_fields.specs.Grammar.{TagValue}
use Rattle.fix_messages.specs.Rows.{type_of}
use Rattle.log_contents.specs.declared.contents.Contents.{Contents}
use Rattle.log_contents.specs.Counts.{HasCounted}
use Rattle.log_contents.specs.Facts.{AreFactsOf}
use Rattle.log_contents.specs.Kinds.{passed_kind, told_value}

-- the contents have the facts of these records
abbrev pub HasRecords : {R : Type 0} → (R → List ℕ) → (R → Moment) → Contents R → List R → Type 0
HasRecords symbol_of time_of contents entries =
    AreFactsOf symbol_of time_of contents.facts entries

-- the contents have counted these kinds
abbrev pub HasKinds : {R : Type 0} → Contents R → List (List ℕ) → Type 0
HasKinds contents kinds = HasCounted contents.kinds kinds

-- the kind of a message with these fields, given whether it is read
abbrev pub kind_if_read : Bool → List TagValue → List ℕ
kind_if_read is_read fields =
    if is_read then told_value (type_of fields) else passed_kind fields

-- The contents of a CSV log with these records: their facts, and a kind for each.
pub record HasCsvRecords {R : Type 0} (symbol_of : R → List ℕ) (time_of : R → Moment)
    (kind_of : R → List ℕ) (contents : Contents R) (entries : List R) : Type 0 where
  pub records : HasRecords symbol_of time_of contents entries
  pub kinds : HasKinds contents (map kind_of entries)
