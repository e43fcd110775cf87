use Rattle.std.proofs.lemmas.Result.{IfOk-weaker}
use Rattle.day_sessions.proofs.judged_sessions.session_report.Goals as goal

pub returns : goal.returns
returns c = IfOk-weaker c.report_after.result _ _
    (λ report told. record { one = c.in_ok-session.session; is = c.in_ok-session.ensures; told_is = told })
    c.report_after.ensures
