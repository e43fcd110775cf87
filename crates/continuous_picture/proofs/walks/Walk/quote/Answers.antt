use Rattle.std.proofs.Common.{◌∙◌}
use Rattle.audit_base.specs.declared.terms.Side.TheVariants.{Buy, Sell}
use Rattle.continuous_picture.specs.declared.active.StateAfterRecord.{StateAfterRecord}
use Rattle.continuous_picture.specs.Active.{is_active_in_book}
use Rattle.continuous_picture.proofs.WalkLemmas.{best-read, book-inside, known-now, known-tells}
use Rattle.continuous_picture.proofs.walks.Walk.quote.Goals as goal

pub first_active-bid-requires-clause-known : goal.first_active-bid-requires-clause-known
first_active-bid-requires-clause-known c = known-now _ c.requires.market c.requires.fits c.requires.sizes c.args.self.now c.requires.walk c.deref.ensures.value

pub first_active-bid-requires-clause-inside : goal.first_active-bid-requires-clause-inside
first_active-bid-requires-clause-inside c = book-inside c.args.market.now c.requires.market c.args.place Buy c.args.self.now.next c.args.self.now.bids.resting c.requires.walk.come c.requires.walk.bids

pub first_active-ask-requires-clause-known : goal.first_active-ask-requires-clause-known
first_active-ask-requires-clause-known c = known-now _ c.requires.market c.requires.fits c.requires.sizes c.args.self.now c.requires.walk c.deref.ensures.value

pub first_active-ask-requires-clause-inside : goal.first_active-ask-requires-clause-inside
first_active-ask-requires-clause-inside c = book-inside c.args.market.now c.requires.market c.args.place Sell c.args.self.now.next c.args.self.now.asks.resting c.requires.walk.come c.requires.walk.asks

pub returns-clause-quote : goal.returns-clause-quote
returns-clause-quote c =
    let m = c.args.market.now in
    let w = c.args.self.now in
    let k : StateAfterRecord = record { market = c.args.market; sizes = c.args.sizes; traded = c.deref.result; place = c.args.place } in
    let bid = best-read m c.requires.market c.args.place w c.requires.walk (is_active_in_book k) (known-tells k w.next c.requires.walk.come) Buy w.bids c.first_active-bid.new.book c.first_active-bid.ensures.list c.first_active-bid.ensures.ranked c.requires.walk.bid_side c.requires.walk.bids in
    let ask = best-read m c.requires.market c.args.place w c.requires.walk (is_active_in_book k) (known-tells k w.next c.requires.walk.come) Sell w.asks c.first_active-ask.new.book c.first_active-ask.ensures.list c.first_active-ask.ensures.ranked c.requires.walk.ask_side c.requires.walk.asks in
    record { bid = c.first_active-bid.ensures.best ∙ bid.0; ask = c.first_active-ask.ensures.best ∙ ask.0 }

pub returns-clause-walk : goal.returns-clause-walk
returns-clause-walk c =
    let m = c.args.market.now in
    let w = c.args.self.now in
    let k : StateAfterRecord = record { market = c.args.market; sizes = c.args.sizes; traded = c.deref.result; place = c.args.place } in
    let bid = best-read m c.requires.market c.args.place w c.requires.walk (is_active_in_book k) (known-tells k w.next c.requires.walk.come) Buy w.bids c.first_active-bid.new.book c.first_active-bid.ensures.list c.first_active-bid.ensures.ranked c.requires.walk.bid_side c.requires.walk.bids in
    let ask = best-read m c.requires.market c.args.place w c.requires.walk (is_active_in_book k) (known-tells k w.next c.requires.walk.come) Sell w.asks c.first_active-ask.new.book c.first_active-ask.ensures.list c.first_active-ask.ensures.ranked c.requires.walk.ask_side c.requires.walk.asks in
    record { come = c.requires.walk.come; traded = c.requires.walk.traded; bid_side = bid.1; ask_side = ask.1; bids = bid.2; asks = ask.2 }
