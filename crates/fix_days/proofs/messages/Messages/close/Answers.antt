use Rattle.std.proofs.Common.{refl}
use Rattle.std.proofs.lemmas.Bool.{false≢true}
use Rattle.fix_days.proofs.MessageLemmas.{ends-bad, ends-cut, ends-good, not-all, room-offset, room-place, within-text}
use Rattle.fix_days.proofs.messages.Messages.close.Goals as goal

pub returns-in-Some : goal.returns-in-Some
returns-in-Some g c = λ text stood. ends-bad g.B.Bodies.has_taken c.args.self c.in-Some.bad text c.in-Some.is stood

pub bad_at-requires-clause-place : goal.bad_at-requires-clause-place
bad_at-requires-clause-place g c = room-place g.B.Bodies.has_taken c.args.self (within-text g.B.Bodies.has_taken c.args.self c.in_default.is c.requires)

pub bad_at-requires-clause-offset : goal.bad_at-requires-clause-offset
bad_at-requires-clause-offset g c =
    room-offset g.B.Bodies.has_taken c.args.self c.in-Err.at (within-text g.B.Bodies.has_taken c.args.self c.in_default.is c.requires) c.in-Err.ensures.err

pub returns-in-Ok : goal.returns-in-Ok
returns-in-Ok g c = λ text stood. ends-good g.B.Bodies.has_taken c.args.self text c.in_default.is (c.in-Ok.ensures.ok.0 refl) stood

pub returns : goal.returns
returns g c = λ text stood.
    ends-cut g.B.Bodies.has_taken c.args.self c.in-Err.at c.bad_at.result text c.in_default.is c.in-Err.ensures.err (not-all _ (λ all. false≢true (c.in-Err.ensures.ok.1 all))) c.bad_at.ensures stood
