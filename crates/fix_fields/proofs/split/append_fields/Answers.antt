use Rattle.std.proofs.Common.{◌≡◌, Result, Ok, Err, List, subst, sym}
use Rattle.std.specs.Prelude.{OnOk}
use Rattle.fix_fields.specs.declared.field.Field.{Field}
use Rattle.fix_fields.specs.declared.field.FieldFault.{FieldFault}
use Rattle.fix_fields.specs.Ranges.{AreFieldsOf, HandsFields}
use Rattle.fix_fields.proofs.split.append_fields.Goals as goal

-- a list that was handed the fields of a body is the list of them
list-of : (result : Result (Unit {0}) FieldFault) (items : List Field) (body : List _) → OnOk result (HandsFields (λ fields. items ≡ fields) body) → OnOk result (AreFieldsOf body items)
list-of (Ok done) items body hands = subst (AreFieldsOf body) (sym hands.taken) hands.are
list-of (Err why) items body hands = tt

pub returns-clause-fields : goal.returns-clause-fields
returns-clause-fields c = list-of c.hand_fields.result c.hand_fields.new.taker.items c.args.body.now c.hand_fields.ensures.fields
