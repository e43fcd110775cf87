use Rattle.std.proofs.Common.{subst, ℕ, List, Some, None}
use Rattle.desk_page.specs.PageAnswers.{in_words}
use Rattle.page_parts.specs.declared.sentences.VerdictInWords.{VerdictInWords}
use Rattle.page_parts.specs.VerdictPages.{IsVerdictPage}
use Rattle.desk_page.proofs.pages.page_before_rule.Goals as goal

pub returns : goal.returns
returns c =
    subst (λ (picture : List ℕ). IsVerdictPage (in_words c.args.question.now (Some c.args.finding.now) None) picture c.args.named.now c.in_ok-text.text.items) c.new-none.ensures
    (subst (λ (said : VerdictInWords). IsVerdictPage said c.new-none.result c.args.named.now c.in_ok-text.text.items) c.in_words-said.ensures c.in_ok-text.ensures)
