use Rattle.std.proofs.Common.{◌≡◌, Bool, true, false, MatchBool}
use Rattle.log_contents.proofs.MessageFeedLemmas.{messages-end, messages-more, no-messages, one-message}
use Rattle.log_contents.proofs.message_feed.MessageFeed.take_messages.Goals as goal

-- what holds where another message may follow
going : (more : Bool) (P Q : Type 0) → more ≡ true → MatchBool more P Q → P
going true P Q is holds = holds
going false P Q is holds = absurd (cc is)

-- what holds where none may
ended : (more : Bool) (P Q : Type 0) → more ≡ false → MatchBool more P Q → Q
ended true P Q is holds = absurd (cc is)
ended false P Q is holds = holds

pub messages-preserved : goal.messages-preserved
messages-preserved g c =
    let goes = going c.in_ok-take_next.field-0 _ _ c.if-not-branch.false c.in_ok-take_next.ensures in (
      goes.records.good,
      messages-more _ g.R.FixRecord.meaning _ _ c.messages.invariant.1 goes,
      one-message _ g.R.FixRecord.meaning _ _ _ c.messages.invariant.2 goes,
    )
