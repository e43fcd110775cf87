use Rattle.std.proofs.Common.{[], refl, false, lit≤}
use Rattle.std.specs.Prelude.{codes}
use Rattle.audit_base.specs.Columns.{trade_columns}
use Rattle.csv_logs.specs.Lines.{nonempty_lines}
use Rattle.csv_logs.specs.TradeLines.{trade_of_row}
use Rattle.csv_logs.specs.Feeds.{HasNoBadLine}
use Rattle.log_tests.proofs.csv.a_feed_made_by_a_literal_takes_a_whole_log.Goals as goal

open-new : HasNoBadLine trade_columns trade_of_row [] [] 0 false []
unfolding nonempty_lines
open-new = record { lines = []; cut = refl; whole = refl; size = refl; unfinished = refl; good = (refl, refl) }

pub feed-requires : goal.feed-requires
feed-requires g c = record {
  bytes = [];
  stands = rw (c.new-2.ensures.items) (record { entries = []; has = c.new.ensures.items; stands = open-new });
  room = lit≤ tt;
}

pub finish-requires : goal.finish-requires
finish-requires g c = record {
  log = codes "trade,time,symbol,buy_firm,buy_id,sell_firm,sell_id,quantity,price\nT1,20240102-09:00:01,Z,A,b1,B,s1,100,9.5\n";
  stands = c.in_ok-feed.ensures [] (rw (c.new-2.ensures.items) (record { entries = []; has = c.new.ensures.items; stands = open-new }));
  within = lit≤ tt;
}
