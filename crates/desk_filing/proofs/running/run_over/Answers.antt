use Rattle.std.proofs.Common.{refl}
use Rattle.desk_filing.proofs.TopLemmas.{files_judged, files_within}
use Rattle.desk_filing.proofs.running.run_over.Goals as goal

pub returns-in-File-clause-files : goal.returns-in-File-clause-files
returns-in-File-clause-files g c =
    files_judged _ _ _ _ _ c.args.request.now _ _ c.file_judged.result.status c.judge_symbol-judged.result (c.file_judged.ensures.runs _ c.judge_symbol-judged.ensures.judges) c.file_judged.ensures.length c.judge_symbol-judged.ensures.within c.judge_symbol-judged.ensures.later
    c.of_day-orders.ensures.limit refl

pub returns-in-FileAll-clause-files : goal.returns-in-FileAll-clause-files
returns-in-FileAll-clause-files g c =
    files_judged _ _ _ _ _ c.args.request.now _ _ c.file_judged-in-FileAll.result.status c.judge_day-judged.result (c.file_judged-in-FileAll.ensures.runs _ c.judge_day-judged.ensures.judges) c.file_judged-in-FileAll.ensures.length c.judge_day-judged.ensures.within c.judge_day-judged.ensures.later
    c.of_day-orders.ensures.limit refl

pub returns-in-Check-clause-files : goal.returns-in-Check-clause-files
returns-in-Check-clause-files g c =
    files_within _ _ _ _ _ c.args.request.now _ _ c.check.result.status c.check.ensures.runs c.check.ensures.length c.check.ensures.later c.of_day-orders.ensures.limit refl
