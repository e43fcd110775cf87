-- The digest is that of the bytes that the hash holds.
use Rattle.std.proofs.Common.{◌≡◌, List, ℕ, true, sym, subst}
use Rattle.log_digests.specs.Digests.{digest_of}
use Rattle.log_digests.specs.DigestShelves.{feed_of_log, may_be_of}
use Rattle.log_digests.proofs.ShelfLemmas.{held_bytes}
use Rattle.log_digests.proofs.digest_shelf.DigestShelf.digest.Goals as goal

pub returns-in-Orders : goal.returns-in-Orders
returns-in-Orders g c =
    let self = c.args.self.now in
    subst (λ w. (bytes : List ℕ) → may_be_of (feed_of_log self.orders self.trades w) bytes ≡ true → c.digest_so_far.result ≡ digest_of bytes) (sym c.in-Orders.is)
    (λ bytes may. c.digest_so_far.ensures bytes (held_bytes self.orders bytes may))

pub returns-in-Trades : goal.returns-in-Trades
returns-in-Trades g c =
    let self = c.args.self.now in
    subst (λ w. (bytes : List ℕ) → may_be_of (feed_of_log self.orders self.trades w) bytes ≡ true → c.digest_so_far-in-Trades.result ≡ digest_of bytes) (sym c.in-Trades.is)
    (λ bytes may. c.digest_so_far-in-Trades.ensures bytes (held_bytes self.trades bytes may))
