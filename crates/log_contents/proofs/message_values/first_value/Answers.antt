use Rattle.std.proofs.Common.{arith, refl}
use Rattle.fix_messages.specs.BodyFields.{fields_of}
use Rattle.fix_messages.proofs.TagLemmas.{many-within, one-within, says-value}
use Rattle.log_contents.proofs.message_values.first_value.Goals as goal

pub slice_bounds-result-count : goal.slice_bounds-result-count
slice_bounds-result-count c =
    let within = one-within c.args.body.now c.args.notes.now c.requires.notes c.args.tag _ (fields_of c.args.body.now) c.in-One.ensures refl c.in-One.from c.in-One.to refl in
    omega (arith, within.0, within.1)

pub slice_bounds-result-start : goal.slice_bounds-result-start
slice_bounds-result-start c =
    let within = one-within c.args.body.now c.args.notes.now c.requires.notes c.args.tag _ (fields_of c.args.body.now) c.in-One.ensures refl c.in-One.from c.in-One.to refl in
    omega (arith, within.0, within.1)

pub slice_bounds-result-end-in-One : goal.slice_bounds-result-end-in-One
slice_bounds-result-end-in-One c =
    let within = one-within c.args.body.now c.args.notes.now c.requires.notes c.args.tag _ (fields_of c.args.body.now) c.in-One.ensures refl c.in-One.from c.in-One.to refl in
    omega (arith, within.0, within.1)

pub slice_bounds-result-count-in-Many : goal.slice_bounds-result-count-in-Many
slice_bounds-result-count-in-Many c =
    let within = many-within c.args.body.now c.args.notes.now c.requires.notes c.args.tag _ (fields_of c.args.body.now) c.in-Many.ensures refl c.in-Many.from c.in-Many.to refl in
    omega (arith, within.0, within.1)

pub slice_bounds-result-start-in-Many : goal.slice_bounds-result-start-in-Many
slice_bounds-result-start-in-Many c =
    let within = many-within c.args.body.now c.args.notes.now c.requires.notes c.args.tag _ (fields_of c.args.body.now) c.in-Many.ensures refl c.in-Many.from c.in-Many.to refl in
    omega (arith, within.0, within.1)

pub slice_bounds-result-end-in-Many : goal.slice_bounds-result-end-in-Many
slice_bounds-result-end-in-Many c =
    let within = many-within c.args.body.now c.args.notes.now c.requires.notes c.args.tag _ (fields_of c.args.body.now) c.in-Many.ensures refl c.in-Many.from c.in-Many.to refl in
    omega (arith, within.0, within.1)

pub returns-in-Absent : goal.returns-in-Absent
returns-in-Absent c = says-value c.args.body.now c.args.notes.now c.requires.notes c.args.tag _ (fields_of c.args.body.now) c.in-Absent.ensures refl

pub returns-in-One : goal.returns-in-One
returns-in-One c = says-value c.args.body.now c.args.notes.now c.requires.notes c.args.tag _ (fields_of c.args.body.now) c.in-One.ensures refl

pub returns-in-Many : goal.returns-in-Many
returns-in-Many c = says-value c.args.body.now c.args.notes.now c.requires.notes c.args.tag _ (fields_of c.args.body.now) c.in-Many.ensures refl
