use Rattle.std.proofs.Common.{◌≡◌, ◌<◌, ◌∙◌, ap, sym, arith}
use Rattle.audit_base.specs.Orders.{order_at, other_side}
use Rattle.continuous_audit.proofs.StandLemmas.{none-read, clear-read, found-read, first-earlier}
use Rattle.continuous_audit.proofs.spreading.spread_of.Goals as goal

pub returns-in-None-clause-finding : goal.returns-in-None-clause-finding
returns-in-None-clause-finding c deals at apart =
    let own_is : c.at-own.result ≡ order_at c.args.orders.now c.args.order = c.at-own.ensures in
    none-read c.args.orders.now c.requires.order_list deals c.args.order c.requires.order c.args.books.now at.holds apart c.at-own.result own_is c.args.left at.left_is c.other.result (c.other.ensures ∙ ap other_side c.side.ensures) (sym c.best.ensures ∙ c.in-None.is)

pub returns-then-not-meets-clause-finding : goal.returns-then-not-meets-clause-finding
returns-then-not-meets-clause-finding c deals at apart =
    let own_is : c.at-own.result ≡ order_at c.args.orders.now c.args.order = c.at-own.ensures in
    clear-read c.args.orders.now c.requires.order_list deals c.args.order c.requires.order c.args.books.now at.holds apart c.at-own.result own_is c.args.left at.left_is c.other.result (c.other.ensures ∙ ap other_side c.side.ensures) c.in-Some.best (sym c.best.ensures ∙ c.in-Some.is)
    (sym c.meets.ensures ∙ c.if-not-meets.true)

pub returns-else-not-meets-clause-finding : goal.returns-else-not-meets-clause-finding
returns-else-not-meets-clause-finding c deals at apart =
    let own_is : c.at-own.result ≡ order_at c.args.orders.now c.args.order = c.at-own.ensures in
    found-read c.args.orders.now c.requires.order_list deals c.args.order c.requires.order c.args.books.now at.holds apart c.at-own.result own_is c.args.left at.left_is c.other.result (c.other.ensures ∙ ap other_side c.side.ensures) c.in-Some.best (sym c.best.ensures ∙ c.in-Some.is)
    (sym c.meets.ensures ∙ c.if-not-meets.false)

pub returns-else-not-meets-clause-upto : goal.returns-else-not-meets-clause-upto
returns-else-not-meets-clause-upto c other e =
    let early : c.in-Some.best.index < c.args.order = first-earlier c.args.order c.args.books.now c.requires.earlier c.other.result c.in-Some.best (sym c.best.ensures ∙ c.in-Some.is) in
    let same : c.in-Some.best.index ≡ other = cc in
    omega arith
