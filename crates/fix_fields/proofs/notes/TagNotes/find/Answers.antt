use Rattle.std.proofs.Common.{sym, get_or, ◌∙◌}
use Rattle.fix_fields.proofs.NoteLemmas.{noted-many, noted-none, noted-one}
use Rattle.fix_fields.proofs.notes.TagNotes.find.Goals as goal

pub returns-then-self-place-eq0 : goal.returns-then-self-place-eq0
returns-then-self-place-eq0 c = λ fields are.
    let place = c.in-Some.place in
    sym (noted-none (get_or c.args.self.now.counts place 0) (get_or c.args.self.now.starts place 0) (get_or c.args.self.now.ends place 0) c.if-self-place-eq0.true)
    ∙ are c.args.tag place (sym c.in-Some.ensures.value)

pub returns-then-self-place-eq1 : goal.returns-then-self-place-eq1
returns-then-self-place-eq1 c = λ fields are.
    let place = c.in-Some.place in
    sym (noted-one (get_or c.args.self.now.counts place 0) (get_or c.args.self.now.starts place 0) (get_or c.args.self.now.ends place 0) c.if-self-place-eq1.true)
    ∙ are c.args.tag place (sym c.in-Some.ensures.value)

pub returns-else-self-place-eq1 : goal.returns-else-self-place-eq1
returns-else-self-place-eq1 c = λ fields are.
    let place = c.in-Some.place in
    sym (noted-many (get_or c.args.self.now.counts place 0) (get_or c.args.self.now.starts place 0) (get_or c.args.self.now.ends place 0) c.if-self-place-eq0.false c.if-self-place-eq1.false)
    ∙ are c.args.tag place (sym c.in-Some.ensures.value)
