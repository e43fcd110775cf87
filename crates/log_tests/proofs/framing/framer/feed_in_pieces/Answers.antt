use Rattle.std.proofs.Common.{◌+◌, ◌-◌, ◌++◌, take, drop, sym, ap, ◌∙◌, ◌≡◌, arith}
use Rattle.std.proofs.lemmas.List.{take-append-drop, drop-drop}
use Rattle.log_tests.proofs.RoomLemmas.{room-fed}
use Rattle.log_tests.proofs.framing.framer.feed_in_pieces.Goals as goal

pub pieces-preserved : goal.pieces-preserved
pieces-preserved g c =
    let text = c.args.log.now.text.now in
    let from = c.pieces.from in
    let count = c.min-count.result in
    let same : from + count - from ≡ count = omega arith in
    let fed = rw same at c.in-Ok.ensures.ok in
    let split : drop from text ≡ take count (drop from text) ++ drop (from + count) text =
    sym (take-append-drop count (drop from text)) ∙ ap (λ xs. take count (drop from text) ++ xs) (drop-drop count from text) in
    let room = rw split at c.pieces.invariant in
    c.take_messages-given.ensures (drop (from + count) text) (room-fed g.H.Headers.headers c.pieces.framer c.feed.new.self (take count (drop from text)) (drop (from + count) text) room fed)
