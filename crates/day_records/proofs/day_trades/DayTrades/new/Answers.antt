use Rattle.std.proofs.Common.{refl, sym, ◌∙◌}
use Rattle.day_records.proofs.DayTradesLemmas.{begun-all, no-trades}
use Rattle.day_records.proofs.day_trades.DayTrades.new.Goals as goal

pub returns : goal.returns
returns g c = record {
  entries = c.requires.some.0;
  has = c.requires.some.1;
  after_each = λ entries may.
      let orders = c.requires.orders entries may in
      record {
        shared = c.requires.share;
        admits = c.requires.admission;
        count = refl;
        symbols_are = orders.symbols_are ∙ sym (no-trades entries);
        records_are = begun-all g.M.DayGhost.share c.args.orders.kept.items entries c.in_ok-kept.kept.items orders.histories_are c.in_ok-kept.ensures;
        fits_indices = orders.fits_indices;
      };
}
