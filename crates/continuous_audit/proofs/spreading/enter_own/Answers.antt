use Rattle.std.proofs.Common.{◌≡◌, ◌∙◌, sym}
use Rattle.std.proofs.lemmas.Result.{on_ok_weaker}
use Rattle.audit_base.specs.Orders.{order_at}
use Rattle.continuous_audit.specs.Books.{books_with_order}
use Rattle.continuous_audit.proofs.StandLemmas.{entered-read, absent-read}
use Rattle.continuous_audit.proofs.spreading.enter_own.Goals as goal

pub returns-then-stays-clause-entered : goal.returns-then-stays-clause-entered
returns-then-stays-clause-entered c = on_ok_weaker c.enter.result (λ made deals at.
    let own_is : c.at-own.result ≡ order_at c.args.orders.now c.args.order = c.at-own.ensures in
    entered-read c.args.orders.now c.requires.order_list deals at.named c.args.order c.requires.order c.args.books.now at.holds c.at-own.result own_is c.args.left at.left_is (sym c.stays.ensures ∙ c.if-stays.true) _ (made ∙ (λ i. books_with_order (c.side.ensures i) (record { index = c.args.order; limit = c.limit.ensures i; left = c.args.left }) c.args.books.now))) c.enter.ensures.ok

pub returns-else-stays-clause-entered : goal.returns-else-stays-clause-entered
returns-else-stays-clause-entered c = λ deals at.
    let own_is : c.at-own.result ≡ order_at c.args.orders.now c.args.order = c.at-own.ensures in
    absent-read c.args.orders.now c.requires.order_list deals at.named c.args.order c.requires.order c.args.books.now at.holds c.at-own.result own_is c.args.left at.left_is (sym c.stays.ensures ∙ c.if-stays.false)
