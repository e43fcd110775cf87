use Rattle.std.proofs.Common.{◌≡◌, ◌∙◌, ℕ, List, All, option_map, ap, sym, subst, arith}
use Rattle.audit_base.specs.declared.orders.Order.{Order}
use Rattle.audit_base.specs.Flaws.{finding_of}
use Rattle.audit_base.specs.Orders.{side_at, other_side}
use Rattle.continuous_audit.specs.Books.{book_list, books_with_fills}
use Rattle.continuous_audit.specs.Holding.{IsWithinBook}
use Rattle.continuous_audit.proofs.DealingLemmas.{within-bids, within-asks, after_fills-new, best-inside, finding-none, holds-none}
use Rattle.continuous_audit.proofs.passing.pass_deals.Goals as goal

pub fill-requires-clause-bids : goal.fill-requires-clause-bids
fill-requires-clause-bids c = subst (λ (xs : List ℕ). All (IsWithinBook xs) c.args.books.now.bids.resting) (sym c.deref.ensures.value) (within-bids c.args.market.now.orders.now c.requires.market.order_list c.args.market.now.deals.now c.requires.market.deal_list c.args.order c.requires.order
    c.args.numbers.now.order_numbers.left.items c.requires.dealt.known.left.count (λ x lt. c.requires.dealt.known.left.is x (omega arith)) c.args.books.now c.requires.books)

pub fill-requires-clause-asks : goal.fill-requires-clause-asks
fill-requires-clause-asks c = subst (λ (xs : List ℕ). All (IsWithinBook xs) c.args.books.now.asks.resting) (sym c.deref.ensures.value) (within-asks c.args.market.now.orders.now c.requires.market.order_list c.args.market.now.deals.now c.requires.market.deal_list c.args.order c.requires.order
    c.args.numbers.now.order_numbers.left.items c.requires.dealt.known.left.count (λ x lt. c.requires.dealt.known.left.is x (omega arith)) c.args.books.now c.requires.books)

pub check_priority-requires-clause-best : goal.check_priority-requires-clause-best
check_priority-requires-clause-best c =
    let side_is : c.other-side.result ≡ other_side (side_at c.args.market.now.orders.now c.args.order) = c.other-side.ensures ∙ ap other_side c.side.ensures ∙ ap (λ (o : Order). other_side o.side) c.at.ensures in
    let fill_is = c.fill.ensures ∙ ap (λ (xs : List ℕ). books_with_fills c.other-side.result xs c.args.books.now) c.deref.ensures.value in
    let is = best-inside c.args.market.now.orders.now c.requires.market.order_list c.args.market.now.deals.now c.requires.market.deal_list c.args.order c.requires.order
    c.args.numbers.now.order_numbers.left.items c.requires.dealt.known.left.count (λ x lt. c.requires.dealt.known.left.is x (omega arith)) c.args.books.now c.requires.books
    c.other-side.result side_is c.fill.new.self fill_is c.in-Some.best (sym c.best.ensures ∙ c.in-Some.is) in
    record { earlier = is.0; of_side = is.1 }

pub returns-in-Some-clause-found : goal.returns-in-Some-clause-found
returns-in-Some-clause-found c =
    let side_is : c.other-side.result ≡ other_side (side_at c.args.market.now.orders.now c.args.order) = c.other-side.ensures ∙ ap other_side c.side.ensures ∙ ap (λ (o : Order). other_side o.side) c.at.ensures in
    let fill_is = c.fill.ensures ∙ ap (λ (xs : List ℕ). books_with_fills c.other-side.result xs c.args.books.now) c.deref.ensures.value in
    c.check_priority.ensures (book_list c.other-side.result c.fill.new.self) (sym c.best.ensures ∙ c.in-Some.is)
    (after_fills-new c.args.market.now.orders.now c.requires.market.order_list c.args.market.now.deals.now c.requires.market.deal_list c.args.order c.requires.order
    c.args.numbers.now.order_numbers.left.items c.requires.dealt.known.left.count (λ x lt. c.requires.dealt.known.left.is x (omega arith)) c.args.books.now c.requires.books
    c.other-side.result side_is c.fill.new.self fill_is)

pub returns-in-Some-clause-holds : goal.returns-in-Some-clause-holds
returns-in-Some-clause-holds c = λ none.
    let side_is : c.other-side.result ≡ other_side (side_at c.args.market.now.orders.now c.args.order) = c.other-side.ensures ∙ ap other_side c.side.ensures ∙ ap (λ (o : Order). other_side o.side) c.at.ensures in
    let fill_is = c.fill.ensures ∙ ap (λ (xs : List ℕ). books_with_fills c.other-side.result xs c.args.books.now) c.deref.ensures.value in
    let passed = c.check_priority.ensures (book_list c.other-side.result c.fill.new.self) (sym c.best.ensures ∙ c.in-Some.is)
    (after_fills-new c.args.market.now.orders.now c.requires.market.order_list c.args.market.now.deals.now c.requires.market.deal_list c.args.order c.requires.order
    c.args.numbers.now.order_numbers.left.items c.requires.dealt.known.left.count (λ x lt. c.requires.dealt.known.left.is x (omega arith)) c.args.books.now c.requires.books
    c.other-side.result side_is c.fill.new.self fill_is) in
    holds-none c.args.market.now.orders.now c.requires.market.order_list c.args.market.now.deals.now c.requires.market.deal_list c.args.order c.requires.order
    c.args.numbers.now.order_numbers.left.items c.requires.dealt.known.left.count (λ x lt. c.requires.dealt.known.left.is x (omega arith)) c.args.books.now c.requires.books
    c.other-side.result side_is c.fill.new.self fill_is (passed.same ∙ ap (option_map (finding_of c.args.market.now.orders.now)) none)

pub returns-in-None-clause-found : goal.returns-in-None-clause-found
returns-in-None-clause-found c =
    let side_is : c.other-side.result ≡ other_side (side_at c.args.market.now.orders.now c.args.order) = c.other-side.ensures ∙ ap other_side c.side.ensures ∙ ap (λ (o : Order). other_side o.side) c.at.ensures in
    let fill_is = c.fill.ensures ∙ ap (λ (xs : List ℕ). books_with_fills c.other-side.result xs c.args.books.now) c.deref.ensures.value in
    record {
      inside = tt;
      same = finding-none c.args.market.now.orders.now c.requires.market.order_list c.args.market.now.deals.now c.requires.market.deal_list c.args.order c.requires.order
          c.args.numbers.now.order_numbers.left.items c.requires.dealt.known.left.count (λ x lt. c.requires.dealt.known.left.is x (omega arith)) c.args.books.now c.requires.books
          c.other-side.result side_is c.fill.new.self fill_is (sym c.best.ensures ∙ c.in-None.is);
    }

pub returns-in-None-clause-holds : goal.returns-in-None-clause-holds
returns-in-None-clause-holds c = λ none.
    let side_is : c.other-side.result ≡ other_side (side_at c.args.market.now.orders.now c.args.order) = c.other-side.ensures ∙ ap other_side c.side.ensures ∙ ap (λ (o : Order). other_side o.side) c.at.ensures in
    let fill_is = c.fill.ensures ∙ ap (λ (xs : List ℕ). books_with_fills c.other-side.result xs c.args.books.now) c.deref.ensures.value in
    holds-none c.args.market.now.orders.now c.requires.market.order_list c.args.market.now.deals.now c.requires.market.deal_list c.args.order c.requires.order
    c.args.numbers.now.order_numbers.left.items c.requires.dealt.known.left.count (λ x lt. c.requires.dealt.known.left.is x (omega arith)) c.args.books.now c.requires.books
    c.other-side.result side_is c.fill.new.self fill_is
    (finding-none c.args.market.now.orders.now c.requires.market.order_list c.args.market.now.deals.now c.requires.market.deal_list c.args.order c.requires.order
    c.args.numbers.now.order_numbers.left.items c.requires.dealt.known.left.count (λ x lt. c.requires.dealt.known.left.is x (omega arith)) c.args.books.now c.requires.books
    c.other-side.result side_is c.fill.new.self fill_is (sym c.best.ensures ∙ c.in-None.is))
