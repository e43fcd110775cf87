use Rattle.std.proofs.Common.{◌∙◌, ◌++◌, sym, ap, ℕ, List}
use Rattle.further_checks.specs.FurtherTexts.{further_text}
use Rattle.symbol_offences.specs.OffenceLines.{failure_lines}
use Rattle.symbol_offences.proofs.AnswerLemmas.{as-accepted, as-failing, no-first}
use Rattle.symbol_offences.proofs.verdict_answers.answer_failing.Goals as goal

pub returns-in_default : goal.returns-in_default
returns-in_default c =
    as-accepted c.args.quoted.now c.args.accepted c.args.found.now c.verdict_answer.result (no-first c.args.found.now (sym (rw c.in_default.is at c.first.ensures.value))) c.verdict_answer.ensures

pub returns : goal.returns
returns c =
    as-failing c.args.quoted.now c.args.accepted c.in-Some.first.now c.args.found.now c.rejecting.result _ (sym c.in-Some.ensures.value) c.rejecting.ensures
    (c.in_ok-append_failures.ensures
    ∙ ap (λ (t : List ℕ). t ++ failure_lines c.args.quoted.now c.args.found.now)
    (c.in_ok-append_further_text.ensures ∙ ap (λ (t : List ℕ). t ++ further_text c.in-Some.first.now) c.new-text.ensures.items))
