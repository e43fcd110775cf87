use Rattle.std.proofs.Common.{◌∙◌, ap, subst, Some}
use Rattle.desk_page.specs.PageAnswers.{in_words}
use Rattle.page_parts.specs.declared.sentences.SymbolTotals.{SymbolTotals}
use Rattle.page_parts.specs.declared.sentences.VerdictInWords.{VerdictInWords}
use Rattle.page_parts.specs.VerdictPages.{IsVerdictPage}
use Rattle.desk_page.proofs.pages.page_of_market.Goals as goal

pub returns : goal.returns
returns g c = record {
  picture = _;
  shows = c.in_ok-picture.ensures;
  page = subst (λ (said : VerdictInWords). IsVerdictPage said c.in_ok-picture.picture c.args.named.now c.in_ok-text.text.items)
      (c.in_words-said.ensures ∙ ap (λ (totals : SymbolTotals). in_words c.args.question.now c.args.finding.now (Some totals)) c.totals_of_market.ensures) c.in_ok-text.ensures;
}
