use Rattle.std.proofs.Common.{◌≡◌, Bool, true, false, MatchBool}
use Rattle.fix_days.proofs.lines.LineFeed.take_messages.Goals as goal

-- what holds where another message may follow
going : (more : Bool) (P Q : Type 0) → more ≡ true → MatchBool more P Q → P
going true P Q is holds = holds
going false P Q is holds = absurd (cc is)

pub messages-preserved : goal.messages-preserved
messages-preserved g c =
    let goes = going c.in_ok-take_next.field-0 _ _ c.if-not-branch.false c.in_ok-take_next.ensures in
    let room = c.messages.invariant.1 in (
      goes.good,
      record { day = room.day; reads = goes.reads room.day room.reads; within = room.within },
      λ day read. goes.reads day (c.messages.invariant.2 day read),
    )
