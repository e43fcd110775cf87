use Rattle.std.proofs.Common.{refl, sym, ap, ◌∙◌, ℕ, List, []}
use Rattle.symbol_offences.proofs.KeptLemmas.{none-kept}
use Rattle.symbol_offences.proofs.order_log.OrdersOfSymbol.new.Goals as goal

pub returns : goal.returns
returns g c = record {
  named = c.requires.symbol;
  count = refl;
  keeps_so = c.requires.keeps;
  records_are = c.new.ensures
      ∙ ap (λ (s : List ℕ). record { symbol = s; entries = [] }) c.requires.symbol
      ∙ ap (λ (l : List _). record { symbol = g.Q.QuestionGhost.symbol; entries = l }) (sym (none-kept g.Q.QuestionGhost.keeping.records [] refl));
}
