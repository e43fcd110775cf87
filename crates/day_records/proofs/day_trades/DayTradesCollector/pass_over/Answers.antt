use Rattle.std.proofs.Common.{◌≡◌, ◌+◌, ◌++◌, ◌∷◌, [], ℕ, List, Some, false, length-append, sym, ap, ◌∙◌}
use Rattle.std.specs.Prelude.{slice_get}
use Rattle.day_symbols.specs.Shares.{is_looked_at}
use Rattle.day_symbols.specs.Symbols.{distinct_names, symbols_of_logs}
use Rattle.day_symbols.proofs.MetLemmas.{known-at, passed-over}
use Rattle.day_records.proofs.DayTradesLemmas.{outside-more, traded-more}
use Rattle.day_records.proofs.day_trades.DayTradesCollector.pass_over.Goals as goal

pub returns : goal.returns
returns g c = λ trades trade passed known. record {
  entries = known.entries;
  has = known.has;
  after_each = λ entries may.
      let has = known.after_each entries may in
      let own : List ℕ = trade.symbol in
      let before : List (List ℕ) = symbols_of_logs entries trades in
      let looked : is_looked_at g.M.DayGhost.share (distinct_names before) own ≡ false =
      (λ i. is_looked_at (sym has.shared i) (sym has.symbols_are i) own) ∙ passed in
      let outside = passed-over g.M.DayGhost.share (distinct_names before) own looked in
      let same : distinct_names (before ++ own ∷ []) ≡ distinct_names before = known-at before own outside.index outside.got in
      let got : slice_get (distinct_names (before ++ own ∷ [])) outside.index ≡ Some own = ap (λ (s : List (List ℕ)). slice_get s outside.index) same ∙ outside.got in
      record {
        shared = has.shared;
        admits = has.admits;
        count = ap (λ (n : ℕ). n + 1) has.count ∙ sym (length-append trades (trade ∷ []));
        symbols_are = has.symbols_are ∙ sym same ∙ sym (traded-more entries trades trade);
        records_are = outside-more g.M.DayGhost.share c.args.self.now.kept.items entries trades trade outside.index got outside.outside has.records_are;
        fits_indices = has.fits_indices;
      };
}
