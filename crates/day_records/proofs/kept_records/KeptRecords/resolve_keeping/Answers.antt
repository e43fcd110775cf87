use Rattle.std.proofs.Common.{refl}
use Rattle.day_records.proofs.ReplayLemmas.{few-after, gives}
use Rattle.day_records.proofs.kept_records.KeptRecords.resolve_keeping.Goals as goal

pub history_of-requires : goal.history_of-requires
history_of-requires c = record {
  symbol = c.requires.symbol;
  entries = c.requires.entries;
  are = c.requires.has.orders_are;
  fits_indices = c.requires.fits_indices;
}

pub of-known-requires : goal.of-known-requires
of-known-requires c = few-after c.args.self.now.orders c.in_ok-history.history record {
  symbol = c.requires.symbol;
  entries = c.requires.entries;
  are = c.requires.has.orders_are;
  fits_indices = c.requires.fits_indices;
} c.in_ok-history.ensures

pub returns : goal.returns
returns c = gives c.args.admission c.args.self.now c.args.self.now.orders c.args.self.now.trades c.in_ok-history.history c.of-known.result c.take_trades.new.known refl refl c.in_ok-history.ensures c.of-known.ensures c.in_ok-take_trades.ensures
