use Rattle.std.proofs.Common.{[], lit≤}
use Rattle.fix_framing.specs.Headers.{fix44}
use Rattle.log_tests.proofs.RoomLemmas.{room-fed}
use Rattle.log_tests.proofs.framing.framer.a_framer_goes_on_within_a_message.Goals as goal

pub feed-requires-2 : goal.feed-requires-2
feed-requires-2 g c = c.take_messages.ensures _ (room-fed fix44 _ _ _ _ (record { fed = []; frames = []; stands = c.new-framer.ensures.stands; most = lit≤ tt }) c.in_ok-feed.ensures.ok)
