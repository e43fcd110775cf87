use Rattle.std.proofs.Common.{◌≡◌, ◌+◌, ◌++◌, ◌∷◌, [], ℕ, List, Some, false, length-append, sym, ap, ◌∙◌}
use Rattle.std.specs.Prelude.{map, slice_get}
use Rattle.audit_base.specs.Histories.{symbol_of}
use Rattle.day_symbols.specs.Shares.{is_looked_at}
use Rattle.day_symbols.specs.Symbols.{distinct_names}
use Rattle.day_symbols.proofs.MetLemmas.{known-at, passed-over}
use Rattle.day_records.specs.DayOrders.{order_symbols}
use Rattle.day_records.proofs.DayOrderLemmas.{outside-more, symbols-more}
use Rattle.day_records.proofs.day_orders.DayOrdersCollector.pass_over.Goals as goal

pub returns : goal.returns
returns g c = λ entries entry passed has.
    let own : List ℕ = symbol_of entry in
    let looked : is_looked_at g.D.ShareGhost.share (order_symbols entries) own ≡ false =
    (λ i. is_looked_at (sym has.shared i) (sym has.symbols_are i) own) ∙ passed in
    let outside = passed-over g.D.ShareGhost.share (order_symbols entries) own looked in
    let same : distinct_names (map symbol_of entries ++ own ∷ []) ≡ order_symbols entries = known-at (map symbol_of entries) own outside.index outside.got in
    let got : slice_get (distinct_names (map symbol_of entries ++ own ∷ [])) outside.index ≡ Some own = ap (λ (s : List (List ℕ)). slice_get s outside.index) same ∙ outside.got in
    record {
      shared = has.shared;
      count = ap (λ (n : ℕ). n + 1) has.count ∙ sym (length-append entries (entry ∷ []));
      symbols_are = has.symbols_are ∙ sym same ∙ sym (symbols-more entries entry);
      histories_are = outside-more g.D.ShareGhost.share c.args.self.now.kept.items entries entry outside.index got outside.outside has.histories_are;
    }
