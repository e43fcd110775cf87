-- Orders whose names are in a message.
use Rattle.audit_base.specs.declared.records.OrderRecord.{OrderRecord}
use Rattle.audit_base.specs.declared.records.OrderRecord.TheVariants as record_of
use Rattle.fix_messages.specs.declared.heads.MessageHead.{MessageHead}
use Rattle.fix_messages.specs.declared.order_texts.InstructionParts.{InstructionParts}
use Rattle.fix_messages.specs.declared.order_texts.InstructionParts.TheVariants.{New, Cancel, Replace}

-- the record that such an order is
abbrev pub order_of_text : MessageHead → InstructionParts → OrderRecord
order_of_text head (New side quantity price life) =
    record_of.New head.key head.time head.symbol side quantity price life
order_of_text head (Cancel target) = record_of.Cancel head.key head.time head.symbol target
order_of_text head (Replace target side quantity price) =
    record_of.Replace head.key head.time head.symbol target side quantity price
