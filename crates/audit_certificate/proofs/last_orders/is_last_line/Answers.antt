use Rattle.std.proofs.lemmas.Bool.{both_ways}
use Rattle.audit_certificate.proofs.LastLemmas.{tells-last, tells-none}
use Rattle.audit_certificate.proofs.last_orders.is_last_line.Goals as goal

pub returns-then-not-all_filled_ahead : goal.returns-then-not-all_filled_ahead
returns-then-not-all_filled_ahead c = tells-none c.args.orders.now c.args.traded.now c.args.side c.args.line.now c.last_trading-last.result c.last_trading-last.ensures.same
    (λ filled. both_ways _ c.if-not-all_filled_ahead.true (c.all_filled_ahead.ensures.1 filled))

pub returns : goal.returns
returns c = tells-last c.args.orders.now c.args.traded.now c.args.side c.args.line.now c.last_trading-last.result c.place_of.result c.is_last_text.result c.last_trading-last.ensures.same c.place_of.ensures
    (c.all_filled_ahead.ensures.0 c.if-not-all_filled_ahead.false) c.is_last_text.ensures
