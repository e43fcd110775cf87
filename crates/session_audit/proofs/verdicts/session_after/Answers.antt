use Rattle.std.proofs.Common.{rules}
use Rattle.std.proofs.lemmas.Result.{IfOk-weaker}
use Rattle.session_audit.proofs.SessionLemmas.{found_session, sound-session}
use Rattle.session_audit.proofs.verdicts.session_after.Goals as goal

pub returns-in-Found : goal.returns-in-Found
returns-in-Found c = search (rules, found_session)

pub returns-in-Sound : goal.returns-in-Sound
returns-in-Sound c =
    IfOk-weaker c.session_of_deals.result _ _
    (λ session is. rw c.in-Sound.is (sound-session c.args.symbol.now c.args.phases.now c.args.table c.in-Sound.resolved session is))
    c.session_of_deals.ensures
