use Rattle.std.proofs.Common.{arith, refl}
use Rattle.fix_messages.proofs.TagLemmas.{one-within, says-only}
use Rattle.fix_messages.proofs.message.Message.only.Goals as goal

pub slice_bounds-result-count : goal.slice_bounds-result-count
slice_bounds-result-count c =
    let s = c.self.inside in
    let within = one-within s.body.now s.notes.now c.self.invariant c.args.tag _ c.args.self.now c.in-One.ensures c.self.view_is c.in-One.from c.in-One.to refl in
    omega (arith, within.0, within.1)

pub slice_bounds-result-start : goal.slice_bounds-result-start
slice_bounds-result-start c =
    let s = c.self.inside in
    let within = one-within s.body.now s.notes.now c.self.invariant c.args.tag _ c.args.self.now c.in-One.ensures c.self.view_is c.in-One.from c.in-One.to refl in
    omega (arith, within.0, within.1)

pub slice_bounds-result-end : goal.slice_bounds-result-end
slice_bounds-result-end c =
    let s = c.self.inside in
    let within = one-within s.body.now s.notes.now c.self.invariant c.args.tag _ c.args.self.now c.in-One.ensures c.self.view_is c.in-One.from c.in-One.to refl in
    omega (arith, within.0, within.1)

pub returns-in-Absent : goal.returns-in-Absent
returns-in-Absent c =
    let s = c.self.inside in
    says-only s.body.now s.notes.now c.self.invariant c.args.tag _ c.args.self.now c.in-Absent.ensures c.self.view_is

pub returns-in-One : goal.returns-in-One
returns-in-One c =
    let s = c.self.inside in
    says-only s.body.now s.notes.now c.self.invariant c.args.tag _ c.args.self.now c.in-One.ensures c.self.view_is

pub returns-in-Many : goal.returns-in-Many
returns-in-Many c =
    let s = c.self.inside in
    says-only s.body.now s.notes.now c.self.invariant c.args.tag _ c.args.self.now c.in-Many.ensures c.self.view_is
