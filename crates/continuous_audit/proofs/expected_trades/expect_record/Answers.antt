use Rattle.std.proofs.Common.{◌≡◌, ◌∙◌, ℕ, suc, sym, subst, arith}
use Rattle.audit_base.specs.Orders.{place_at}
use Rattle.audit_base.specs.Deals.{number_at}
use Rattle.audit_base.proofs.OffenceLemmas.{get_or-default}
use Rattle.continuous_audit.specs.Endings.{AreEndingsDropped}
use Rattle.continuous_audit.specs.Spreads.{IsAfterOwn}
use Rattle.continuous_audit.proofs.BooksLemmas.{hold-below}
use Rattle.continuous_audit.proofs.MatchLemmas.{some-expected}
use Rattle.continuous_audit.proofs.ReadyLemmas.{left-next, next-above, next-first}
use Rattle.continuous_audit.proofs.RecordLemmas.{no-cause}
use Rattle.continuous_audit.proofs.RestLemmas.{traded-gap}
use Rattle.continuous_audit.proofs.expected_trades.expect_record.Goals as goal

pub drop_own-requires-clause-dropped : goal.drop_own-requires-clause-dropped
drop_own-requires-clause-dropped c = subst (λ (m : ℕ). AreEndingsDropped c.args.endings.now m (place_at c.args.orders.now c.args.order)) (sym c.in_ok-trade_order.ensures.started) c.requires.dropped

pub enter_own-requires-clause-earlier : goal.enter_own-requires-clause-earlier
enter_own-requires-clause-earlier c =
    let e = some-expected c.args.orders.now c.requires.order_list c.requires.regular in
    hold-below c.args.orders.now c.requires.order_list e.0 e.1.conforms.named c.args.order c.requires.order c.drop_own.new.self.books
    (c.drop_own.ensures.holds e.0 e.1.conforms.named (c.in_ok-trade_order.ensures.matched e.0 e.1).books)

pub returns-clause-matched : goal.returns-clause-matched
returns-clause-matched c = λ deals expected.
    let orders = c.args.orders.now in
    let n = c.args.order in
    let named = expected.conforms.named in
    let after = c.in_ok-trade_order.ensures.matched deals expected in
    let left = c.trade_order.new.so_far.order_numbers.left.items in
    let count = c.in_ok-trade_order.ensures.counted.order_numbers.left_count in
    let left_is : c.index-left.result.now ≡ number_at left n = c.index-left.ensures ∙ get_or-default left n c.index-left.result.now 0 (let inside = c.requires.order in omega arith) in
    let own : IsAfterOwn orders deals n c.index-left.result.now c.drop_own.new.self.books = record { named = named; left_is = left_is ∙ after.left_is n (omega arith); holds = c.drop_own.ensures.holds deals named after.books } in
    let above = next-above orders c.requires.order_list n c.requires.order in
    let next = next-first orders c.requires.order_list n c.requires.order in
    record {
      traded_is = λ x lt. after.traded_is x lt ∙ sym (traded-gap orders deals (suc (place_at orders n)) _ x above (no-cause orders c.requires.order_list deals named n c.requires.order _ above next));
      chain_traded_is = after.chain_traded_is;
      left_is = (left-next orders c.requires.order_list deals named n c.requires.order left (record { count = count; is = after.left_is })).is;
      books = c.drop_before_next.ensures.holds deals named (c.in_ok-enter_own.ensures.entered deals own);
      pairs = after.pairs;
    }
