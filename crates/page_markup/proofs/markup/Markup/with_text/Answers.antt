use Rattle.std.proofs.Common.{sym, subst}
use Rattle.page_markup.specs.Trees.{IsMarkup}
use Rattle.page_markup.proofs.TreeLemmas.{joined_is, words_are}
use Rattle.page_markup.proofs.markup.Markup.with_text.Goals as goal

pub invariant_of-result : goal.invariant_of-result
invariant_of-result c =
    subst IsMarkup (sym c.in_ok-append_escaped.ensures) (joined_is _ _ c.self.invariant (words_are c.args.words.now))
