use Rattle.std.proofs.Common.{◌∙◌, ap}
use Rattle.std.proofs.lemmas.Result.{IfOk-weaker}
use Rattle.audit_report.specs.Texts.{verdict_text}
use Rattle.day_verdicts.specs.CheckedSymbols.{after_given}
use Rattle.day_verdicts.proofs.judging.report_of.Goals as goal

pub returns : goal.returns
returns c = IfOk-weaker c.report_after.result _ _
    (λ report told. record {
      one = c.in_ok-judged.judged;
      is = c.in_ok-judged.ensures.verdict;
      told_is = told ∙ ap (after_given c.args.checks c.args.given.now c.args.times.now) (λ i. record { accepted = c.is_acceptance-accepted.ensures i; text = (c.in_ok-text.ensures ∙ ap verdict_text c.into_verdict.ensures) i });
    })
    c.report_after.ensures
