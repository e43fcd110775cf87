-- What the numbers of a record of an order log may be.
use Rattle.std.specs.Prelude.{⊤, All, List}
use Rattle.audit_base.specs.declared.records.OrderRecord.{OrderRecord}
use Rattle.audit_base.specs.declared.records.OrderRecord.TheVariants.{New, Cancel, Replace}
use Rattle.audit_base.specs.Numbers.{AreInRange}

-- the numbers of a new order and of a replacement are a quantity and a price; a cancel has none
abbrev pub RecordInRange : OrderRecord → Type 0
RecordInRange (New key time symbol side quantity price life) = AreInRange quantity price
RecordInRange (Cancel key time symbol target) = ⊤
RecordInRange (Replace key time symbol target side quantity price) = AreInRange quantity price

-- that holds of each record of the log
abbrev pub RecordsInRange : List OrderRecord → Type 0
RecordsInRange entries = All RecordInRange entries
