-- The slot that was read gave more, and its hash was handed it.
use Rattle.std.proofs.Common.{◌++◌, List, ℕ, take, sym, subst}
use Rattle.log_digests.specs.DigestShelves.{feed_of_log}
use Rattle.log_digests.proofs.ShelfLemmas.{reads_digested}
use Rattle.log_digests.proofs.digest_shelf.DigestShelfShelf.read.Goals as goal
use Rattle.sha2.specs.Hashers.{Holds256}

pub returns-in-Orders-clause-slot : goal.returns-in-Orders-clause-slot
returns-in-Orders-clause-slot g c =
    let self = c.args.self.now in
    reads_digested (feed_of_log self.orders self.trades c.args.which) (feed_of_log c.take.new.self self.trades c.args.which) _ _ c.in_ok-count.count c.read.new.buf
    (subst (λ w. (bytes : List ℕ) → Holds256 (feed_of_log self.orders self.trades w).hasher bytes → Holds256 (feed_of_log c.take.new.self self.trades w).hasher (bytes ++ take c.in_ok-count.count c.read.new.buf)) (sym c.in-Orders.is) c.take.ensures)
    c.in_ok-count.ensures.slot

pub returns-in-Trades-clause-slot : goal.returns-in-Trades-clause-slot
returns-in-Trades-clause-slot g c =
    let self = c.args.self.now in
    reads_digested (feed_of_log self.orders self.trades c.args.which) (feed_of_log self.orders c.take-in-Trades.new.self c.args.which) _ _ c.in_ok-count.count c.read.new.buf
    (subst (λ w. (bytes : List ℕ) → Holds256 (feed_of_log self.orders self.trades w).hasher bytes → Holds256 (feed_of_log self.orders c.take-in-Trades.new.self w).hasher (bytes ++ take c.in_ok-count.count c.read.new.buf)) (sym c.in-Trades.is) c.take-in-Trades.ensures)
    c.in_ok-count.ensures.slot
