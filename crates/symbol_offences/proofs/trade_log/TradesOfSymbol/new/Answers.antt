use Rattle.std.proofs.Common.{refl, sym, ap, ◌∙◌, ℕ, List, []}
use Rattle.symbol_offences.proofs.KeptLemmas.{no-trades_kept, no-times_kept}
use Rattle.symbol_offences.proofs.trade_log.TradesOfSymbol.new.Goals as goal

pub returns : goal.returns
returns g c = record {
  named = c.requires.symbol;
  count = refl;
  keeps_so = c.requires.keeping;
  times_are = c.new.ensures.items ∙ sym (no-times_kept g.Q.QuestionGhost.keeping.times g.Q.QuestionGhost.symbol);
  records_are = c.new-2.ensures
      ∙ ap (λ (s : List ℕ). record { symbol = s; trades = [] }) c.requires.symbol
      ∙ sym (no-trades_kept g.Q.QuestionGhost.keeping.records g.Q.QuestionGhost.symbol);
}
