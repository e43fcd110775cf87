use Rattle.std.proofs.Common.{◌∙◌, ap, sym}
use Rattle.audit_base.specs.declared.terms.Side.{Side}
use Rattle.audit_base.specs.declared.terms.Side.TheVariants.{Buy, Sell}
use Rattle.continuous_offences.specs.StateAfterDeals.{deals_of, orders_of}
use Rattle.continuous_offences.specs.Passing.{best_waiting}
use Rattle.continuous_offences.proofs.BookLemmas.{book-inside}
use Rattle.continuous_offences.proofs.StateLemmas.{best-read}
use Rattle.continuous_offences.proofs.books.RestingBooks.best.Goals as goal

pub first_resting-requires-clause-inside : goal.first_resting-requires-clause-inside
first_resting-requires-clause-inside c =
    let d = c.args.dealt.now in
    book-inside (orders_of d) (deals_of d) Buy d.order c.args.place _ c.args.self.now.bids.resting c.requires.dealt.order c.requires.books.bids

pub first_resting-requires-in-Sell-clause-inside : goal.first_resting-requires-in-Sell-clause-inside
first_resting-requires-in-Sell-clause-inside c =
    let d = c.args.dealt.now in
    book-inside (orders_of d) (deals_of d) Sell d.order c.args.place _ c.args.self.now.asks.resting c.requires.dealt.order c.requires.books.asks

pub returns-in-Buy-clause-best : goal.returns-in-Buy-clause-best
returns-in-Buy-clause-best c =
    let call = c.first_resting in
    let read = best-read c.args.dealt.now c.requires.dealt Buy c.args.place c.args.self.now.bids call.new.book call.ensures.list call.ensures.ranked c.requires.books.bid_side c.requires.books.bids in
    call.ensures.best ∙ read.0 ∙ ap (λ (s : Side). best_waiting c.args.dealt.now s c.args.place) (sym c.in-Buy.is)

pub returns-in-Buy-clause-books : goal.returns-in-Buy-clause-books
returns-in-Buy-clause-books c =
    let call = c.first_resting in
    let read = best-read c.args.dealt.now c.requires.dealt Buy c.args.place c.args.self.now.bids call.new.book call.ensures.list call.ensures.ranked c.requires.books.bid_side c.requires.books.bids in
    record { bid_side = read.1; ask_side = c.requires.books.ask_side; bids = read.2; asks = c.requires.books.asks }

pub returns-in-Sell-clause-best : goal.returns-in-Sell-clause-best
returns-in-Sell-clause-best c =
    let call = c.first_resting-in-Sell in
    let read = best-read c.args.dealt.now c.requires.dealt Sell c.args.place c.args.self.now.asks call.new.book call.ensures.list call.ensures.ranked c.requires.books.ask_side c.requires.books.asks in
    call.ensures.best ∙ read.0 ∙ ap (λ (s : Side). best_waiting c.args.dealt.now s c.args.place) (sym c.in-Sell.is)

pub returns-in-Sell-clause-books : goal.returns-in-Sell-clause-books
returns-in-Sell-clause-books c =
    let call = c.first_resting-in-Sell in
    let read = best-read c.args.dealt.now c.requires.dealt Sell c.args.place c.args.self.now.asks call.new.book call.ensures.list call.ensures.ranked c.requires.books.ask_side c.requires.books.asks in
    record { bid_side = c.requires.books.bid_side; ask_side = read.1; bids = c.requires.books.bids; asks = read.2 }
