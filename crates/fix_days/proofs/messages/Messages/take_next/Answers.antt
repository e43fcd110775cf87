use Rattle.std.proofs.Common.{List, ℕ, [], ◌∷◌, refl, subst, arith}
use Rattle.std.specs.List.{slice_range}
use Rattle.log_source.specs.Handing.{HandsOnMore}
use Rattle.fix_days.proofs.MessageLemmas.{ends-fault, ends-wait, goes-message, room-offset, room-place}
use Rattle.fix_days.proofs.messages.Messages.take_next.Goals as goal

pub bad_at-bad-requires-clause-place : goal.bad_at-bad-requires-clause-place
bad_at-bad-requires-clause-place g c = room-place g.B.Bodies.has_taken c.args.self.now c.requires.room

pub bad_at-bad-requires-clause-offset : goal.bad_at-bad-requires-clause-offset
bad_at-bad-requires-clause-offset g c = room-offset g.B.Bodies.has_taken c.args.self.now c.in-Fault.at c.requires.room c.in-Fault.ensures.answers.place

pub overflow_add-self : goal.overflow_add-self
overflow_add-self g c = let few = room-place g.B.Bodies.has_taken c.args.self.now c.requires.room in omega (arith, few)

pub returns-in-Wait : goal.returns-in-Wait
returns-in-Wait g c = ends-wait g.B.Bodies.has_taken c.args.self.now _ c.requires.good refl refl refl refl c.in-Wait.ensures.answers

pub returns-in-Fault : goal.returns-in-Fault
returns-in-Fault g c =
    ends-fault g.B.Bodies.has_taken c.args.self.now c.shut.new.self c.next_frame.new.self c.in-Fault.at c.in-Fault.fault c.bad_at-bad.result c.shut.ensures.bad c.shut.ensures.nothing c.shut.ensures.bodies c.shut.ensures.start c.in-Fault.ensures.answers
    c.bad_at-bad.ensures

pub returns-in_ok-take-in-Whole : goal.returns-in_ok-take-in-Whole
returns-in_ok-take-in-Whole g c =
    goes-message g.B.Bodies.has_taken c.args.self.now _ c.in-Whole.start c.in-Whole.body c.in-Whole.to c.requires.good refl refl refl c.in-Whole.ensures.answers
    (subst (λ (t : List ℕ). HandsOnMore (g.B.Bodies.has_taken c.args.self.now.bodies) (g.B.Bodies.has_taken c.take.new.self) (slice_range t c.in-Whole.body c.in-Whole.to ∷ [])) c.held.ensures c.in_ok-take-in-Whole.ensures)
