use Rattle.std.proofs.Common.{◌≡◌, length, arith}
use Rattle.day_records.proofs.day_orders.DayOrders.make_room.Goals as goal

pub returns-in_ok-push-clause-room : goal.returns-in_ok-push-clause-room
returns-in_ok-push-clause-room g c =
    let last : c.args.share_index ≡ length c.args.self.now.kept.items = omega (arith, c.if-share_index-len.true, c.len.ensures, c.args.self.now.kept.ok.0) in
    record {
      as_it_was = λ apart. absurd (apart last);
      one_more = λ _. record { one = c.new.result; fresh = c.new.ensures; last = c.in_ok-push.ensures.items };
    }
