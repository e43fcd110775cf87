use Rattle.fix_fields.proofs.MarkLemmas.{first-marked, none-marked}
use Rattle.fix_fields.proofs.marks.MarkedText.marked_from.Goals as goal

pub returns-then-left-eq0-clause-none : goal.returns-then-left-eq0-clause-none
returns-then-left-eq0-clause-none c =
    let s = c.args.self.now in
    none-marked s.text.now s.start s.marks c.args.at s.marked c.requires c.if-left-eq0.true

pub returns-clause-first : goal.returns-clause-first
returns-clause-first c =
    let s = c.args.self.now in
    first-marked s.text.now s.start s.marks c.args.at s.marked c.requires c.lowest_bit.result c.lowest_bit.ensures.set c.lowest_bit.ensures.below
