use Rattle.std.proofs.Common.{◌∙◌, ◌-◌, ap, subst, Err, List, Option, Result, take, ℕ}
use Rattle.std.specs.Prelude.{IfErr, IfOk}
use Rattle.std.specs.List.{slice_range}
use Rattle.std.proofs.lemmas.List.{take_rest}
use Rattle.audit_base.specs.declared.faults.Reason.{Reason}
use Rattle.fix_fields.specs.Refusals.{RefusesBody}
use Rattle.fix_fields.specs.TagNotes.{HasNotes}
use Rattle.fix_messages.specs.Steps.{TakesSaid}
use Rattle.fix_messages.proofs.BodyLemmas.{notes-say, takes-bad, unreadable-says, untyped-says}
use Rattle.fix_messages.proofs.entries.take_body.Goals as goal

pub take_fields-requires-clause-notes : goal.take_fields-requires-clause-notes
take_fields-requires-clause-notes g c =
    subst (λ (t : List ℕ). HasNotes (take (c.args.to - c.args.from) t) c.note_front_fields.new.notes) (take_rest c.args.text.now c.args.from) c.in-Ok.ensures.notes

pub returns-in-Ok : goal.returns-in-Ok
returns-in-Ok g c =
    let has = subst (λ (t : List ℕ). HasNotes (take (c.args.to - c.args.from) t) c.note_front_fields.new.notes) (take_rest c.args.text.now c.args.from) c.in-Ok.ensures.notes in
    let says = notes-say g.R.FixRecord.meaning (slice_range c.args.text.now c.args.from c.args.to) c.note_front_fields.new.notes has in
    subst (λ (said : Result (Option _) Reason). IfOk c.take_fields.result (TakesSaid said (g.K.Collector.has_taken c.args.entries.now) (g.K.Collector.has_taken c.take_fields.new.entries))) says c.take_fields.ensures

pub returns-in-Err-Field : goal.returns-in-Err-Field
returns-in-Err-Field g c =
    let told = subst (λ (t : List ℕ). IfErr c.note_front_fields.result (λ e. RefusesBody (take (c.args.to - c.args.from) t) e)) (take_rest c.args.text.now c.args.from) c.note_front_fields.ensures.fault in
    let fault = rw (c.in-Err-Field.is ∙ ap Err c.in-Err-Field.field-0-is) at told in
    rw c.in-Err-Field.field-0-is (takes-bad _ _ (g.K.Collector.has_taken c.args.entries.now)
    (unreadable-says g.R.FixRecord.meaning (slice_range c.args.text.now c.args.from c.args.to) c.in-Err-Field.at fault))

pub returns-in-Err-MsgType : goal.returns-in-Err-MsgType
returns-in-Err-MsgType g c =
    let fault = rw (c.in-Err-MsgType.is ∙ ap Err c.in-Err-MsgType.field-0-is) at c.note_front_fields.ensures.fault in
    takes-bad _ _ (g.K.Collector.has_taken c.args.entries.now)
    (untyped-says g.R.FixRecord.meaning (slice_range c.args.text.now c.args.from c.args.to) (rw (take_rest c.args.text.now c.args.from) at fault))
