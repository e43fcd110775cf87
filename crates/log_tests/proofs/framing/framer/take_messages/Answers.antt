use Rattle.fix_framing.specs.declared.framer.Step.TheVariants.{Whole}
use Rattle.log_tests.proofs.RoomLemmas.{room-answered, room-kept}
use Rattle.log_tests.proofs.framing.framer.take_messages.Goals as goal

pub messages-preserved : goal.messages-preserved
messages-preserved g c =
    λ piece room. room-answered g.H.Headers.headers c.messages.framer c.next_frame.new.self (Whole c.in-Whole.start c.in-Whole.body c.in-Whole.to) piece (c.messages.invariant piece room) c.in-Whole.ensures.answers

pub returns-in-Wait : goal.returns-in-Wait
returns-in-Wait g c =
    λ piece room. room-kept g.H.Headers.headers c.messages.framer c.next_frame.new.self piece (c.messages.invariant piece room) c.in-Wait.ensures.answers.keeps
