-- The slot that is started has a new hash.
use Rattle.std.proofs.Common.{[], sym, subst}
use Rattle.log_digests.specs.DigestShelves.{feed_of_log, name_of_log}
use Rattle.log_source.specs.Sources.{Starts}
use Rattle.log_digests.proofs.ShelfLemmas.{starts_digested}
use Rattle.log_digests.proofs.digest_shelf.DigestShelfShelf.start.Goals as goal
use Rattle.sha2.specs.Hashers.{Holds256}

pub returns-in-Orders-clause-slot : goal.returns-in-Orders-clause-slot
returns-in-Orders-clause-slot g c =
    let self = c.args.self.now in
    starts_digested (feed_of_log self.orders self.trades c.args.which) (feed_of_log c.new-self.result self.trades c.args.which) _ _ _ _ c.start.result
    (subst (λ w. Holds256 (feed_of_log c.new-self.result self.trades w).hasher []) (sym c.in-Orders.is) c.new-self.ensures)
    (subst (λ w. Starts (g.F.Shelf.tells self.shelf) (g.F.Shelf.log_of self.shelf c.args.which (name_of_log self.orders_name.now self.trades_name.now w)) (g.F.Shelf.slot self.shelf c.args.which) (g.F.Shelf.slot c.start.new.self c.args.which) c.start.result) (sym c.in-Orders.is) c.start.ensures.slot)

pub returns-in-Trades-clause-slot : goal.returns-in-Trades-clause-slot
returns-in-Trades-clause-slot g c =
    let self = c.args.self.now in
    starts_digested (feed_of_log self.orders self.trades c.args.which) (feed_of_log self.orders c.new-self-in-Trades.result c.args.which) _ _ _ _ c.start-in-Trades.result
    (subst (λ w. Holds256 (feed_of_log self.orders c.new-self-in-Trades.result w).hasher []) (sym c.in-Trades.is) c.new-self-in-Trades.ensures)
    (subst (λ w. Starts (g.F.Shelf.tells self.shelf) (g.F.Shelf.log_of self.shelf c.args.which (name_of_log self.orders_name.now self.trades_name.now w)) (g.F.Shelf.slot self.shelf c.args.which) (g.F.Shelf.slot c.start-in-Trades.new.self c.args.which) c.start-in-Trades.result) (sym c.in-Trades.is) c.start-in-Trades.ensures.slot)
