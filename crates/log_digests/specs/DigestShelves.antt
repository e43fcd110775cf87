-- A shelf that takes digests: what its hashes are of.
use Rattle.std.specs.Prelude.{ℕ, Bool, ◌&&◌, ◌==◌, ◌/◌, ◌%◌, ◌*◌, ◌^◌, List, length, take, drop}
use Rattle.std.specs.Str.{bytes_eq}
use Rattle.audit_base.specs.declared.terms.Which.{Which}
use Rattle.audit_base.specs.declared.terms.Which.TheVariants.{Orders, Trades}
use Rattle.log_source.specs.Sources.{Slot, with_account}
use Rattle.log_digests.specs.declared.feeds.DigestFeed.{DigestFeed}
use Rattle.sha2.specs.Sha256.{hash_after, initial_hash_256}

-- the name of the log of a slot, of these two
abbrev pub name_of_log : List ℕ → List ℕ → Which → List ℕ
name_of_log orders trades Orders = orders
name_of_log orders trades Trades = trades

-- a hash may be of these bytes: it counted as many, it is what their whole blocks of 64 come to
-- under SHA-256 (FIPS 180-4, 6.2), and it keeps the bytes that are left
abbrev pub may_be_of : DigestFeed → List ℕ → Bool
may_be_of feed bytes =
    (feed.hasher.core.total == length bytes % 2 ^ 64)
    && (bytes_eq feed.hasher.core.h (hash_after initial_hash_256 bytes (length bytes / 64))
    && bytes_eq (take (length bytes % 64) feed.hasher.core.buffer)
    (drop (length bytes / 64 * 64) bytes))

-- the hash of the log of a slot, of these two
abbrev pub feed_of_log : DigestFeed → DigestFeed → Which → DigestFeed
feed_of_log orders trades Orders = orders
feed_of_log orders trades Trades = trades

-- the slot of the shelf below, with the hash for an account of what its reads gave
abbrev pub digested_slot : Slot → DigestFeed → Slot
digested_slot slot feed = with_account slot (may_be_of feed)
