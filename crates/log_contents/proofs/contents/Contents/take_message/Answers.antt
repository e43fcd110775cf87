use Rattle.std.proofs.Common.{◌∙◌, ◌-◌, ap, subst, Err, List, take, ℕ}
use Rattle.std.specs.Prelude.{IfErr}
use Rattle.std.specs.List.{slice_range}
use Rattle.std.proofs.lemmas.List.{take_rest}
use Rattle.fix_fields.specs.Refusals.{RefusesBody}
use Rattle.fix_fields.specs.TagNotes.{HasNotes}
use Rattle.fix_messages.proofs.BodyLemmas.{notes-say, takes-bad, unreadable-says, untyped-says}
use Rattle.log_contents.specs.Kinds.{kind_of_message}
use Rattle.log_contents.proofs.MessageLemmas.{says-same}
use Rattle.log_contents.proofs.contents.Contents.take_message.Goals as goal

pub take_fields-requires-clause-notes : goal.take_fields-requires-clause-notes
take_fields-requires-clause-notes g c =
    subst (λ (t : List ℕ). HasNotes (take (c.args.to - c.args.from) t) c.note_front_fields.new.notes) (take_rest c.args.text.now c.args.from) c.in-Ok.ensures.notes

pub returns-in-Ok-clause-records : goal.returns-in-Ok-clause-records
returns-in-Ok-clause-records g c =
    let has = subst (λ (t : List ℕ). HasNotes (take (c.args.to - c.args.from) t) c.note_front_fields.new.notes) (take_rest c.args.text.now c.args.from) c.in-Ok.ensures.notes in
    says-same _ _ c.take_fields.result _ _ (notes-say g.R.FixRecord.meaning (slice_range c.args.text.now c.args.from c.args.to) c.note_front_fields.new.notes has) c.take_fields.ensures.records

pub returns-in-Ok-clause-kinds : goal.returns-in-Ok-clause-kinds
returns-in-Ok-clause-kinds g c =
    let has = subst (λ (t : List ℕ). HasNotes (take (c.args.to - c.args.from) t) c.note_front_fields.new.notes) (take_rest c.args.text.now c.args.from) c.in-Ok.ensures.notes in
    says-same _ _ c.take_fields.result _ _ (notes-say (kind_of_message g.R.FixRecord.meaning) (slice_range c.args.text.now c.args.from c.args.to) c.note_front_fields.new.notes has) c.take_fields.ensures.kinds

pub returns-in-Err-Field-clause-records : goal.returns-in-Err-Field-clause-records
returns-in-Err-Field-clause-records g c =
    let told = subst (λ (t : List ℕ). IfErr c.note_front_fields.result (λ e. RefusesBody (take (c.args.to - c.args.from) t) e)) (take_rest c.args.text.now c.args.from) c.note_front_fields.ensures.fault in
    let fault = rw (c.in-Err-Field.is ∙ ap Err c.in-Err-Field.field-0-is) at told in
    rw c.in-Err-Field.field-0-is (takes-bad _ _ _ (unreadable-says g.R.FixRecord.meaning (slice_range c.args.text.now c.args.from c.args.to) c.in-Err-Field.at fault))

pub returns-in-Err-Field-clause-kinds : goal.returns-in-Err-Field-clause-kinds
returns-in-Err-Field-clause-kinds g c =
    let told = subst (λ (t : List ℕ). IfErr c.note_front_fields.result (λ e. RefusesBody (take (c.args.to - c.args.from) t) e)) (take_rest c.args.text.now c.args.from) c.note_front_fields.ensures.fault in
    let fault = rw (c.in-Err-Field.is ∙ ap Err c.in-Err-Field.field-0-is) at told in
    rw c.in-Err-Field.field-0-is (takes-bad _ _ _ (unreadable-says (kind_of_message g.R.FixRecord.meaning) (slice_range c.args.text.now c.args.from c.args.to) c.in-Err-Field.at fault))

pub returns-in-Err-MsgType-clause-records : goal.returns-in-Err-MsgType-clause-records
returns-in-Err-MsgType-clause-records g c =
    let fault = rw (c.in-Err-MsgType.is ∙ ap Err c.in-Err-MsgType.field-0-is) at c.note_front_fields.ensures.fault in
    takes-bad _ _ _ (untyped-says g.R.FixRecord.meaning (slice_range c.args.text.now c.args.from c.args.to) (rw (take_rest c.args.text.now c.args.from) at fault))

pub returns-in-Err-MsgType-clause-kinds : goal.returns-in-Err-MsgType-clause-kinds
returns-in-Err-MsgType-clause-kinds g c =
    let fault = rw (c.in-Err-MsgType.is ∙ ap Err c.in-Err-MsgType.field-0-is) at c.note_front_fields.ensures.fault in
    takes-bad _ _ _ (untyped-says (kind_of_message g.R.FixRecord.meaning) (slice_range c.args.text.now c.args.from c.args.to) (rw (take_rest c.args.text.now c.args.from) at fault))
