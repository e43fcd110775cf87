-- A slot with the hash of what was read of its log for an account, as it is started and read.
use Rattle.std.proofs.Common.{◌≡◌, ℕ, Bool, true, false, List, [], ◌++◌, ◌&&◌, take, Ok, Err}
use Rattle.std.specs.Prelude.{Option, Result}
use Rattle.std.proofs.lemmas.Bool.{and_parts, eqb-true, eq-eqb}
use Rattle.std.proofs.lemmas.Slice.Eq.{bytes_eq-Decides}
use Rattle.log_source.specs.Sources.{Slot, Starts, Reads}
use Rattle.log_source.specs.declared.shelf.Failed.{Failed}
use Rattle.log_source.specs.declared.shelf.StartFault.{StartFault}
use Rattle.log_digests.specs.DigestShelves.{digested_slot, may_be_of}
use Rattle.log_digests.specs.declared.feeds.DigestFeed.{DigestFeed}
use Rattle.sha2.specs.Hashers.{Holds256}
use Rattle.sha2.specs.Sha256.{Holds}

both : (a b : Bool) → a ≡ true → b ≡ true → (a && b) ≡ true
both true b e f = f
both false b e f = cc

-- the bytes that a hash may be of are those that it holds
pub held_bytes : (feed : DigestFeed) (bytes : List ℕ) → may_be_of feed bytes ≡ true → Holds256 feed.hasher bytes
unfolding Holds
held_bytes feed bytes e =
    let first = and_parts _ _ e in
    let second = and_parts _ _ first.1 in
    (eqb-true _ _ first.0, ((bytes_eq-Decides _ _).0 second.0, (bytes_eq-Decides _ _).0 second.1))

-- and the other way round
pub may_be_held : (feed : DigestFeed) (bytes : List ℕ) → Holds256 feed.hasher bytes → may_be_of feed bytes ≡ true
unfolding Holds
may_be_held feed bytes held =
    both _ _ (eq-eqb _ _ held.0) (both _ _ ((bytes_eq-Decides _ _).1 held.1.0) ((bytes_eq-Decides _ _).1 held.1.1))

-- a start of the log of a slot, with a new hash
pub starts_digested : {T : Type 0} (feed fresh : DigestFeed) (tells : Bool) (log : Option (List ℕ)) (old new : Slot) (result : Result T StartFault) → Holds256 fresh.hasher []
    → Starts tells log old new result → Starts tells log (digested_slot old feed) (digested_slot new fresh) result
starts_digested feed fresh tells log old new result held starts = record {
  fresh = starts.fresh;
  given = may_be_held fresh [] held;
  counted = starts.counted;
  later = starts.later;
  started = starts.started;
  known = starts.known;
  cause = starts.cause;
}

-- a read that gave bytes, which the hash was handed
pub reads_digested : (before after : DigestFeed) (old new : Slot) (n : ℕ) (buf : List ℕ) → ((bytes : List ℕ) → Holds256 before.hasher bytes → Holds256 after.hasher (bytes ++ take n buf))
    → Reads old new (Ok n) buf → Reads (digested_slot old before) (digested_slot new after) (Ok n) buf
reads_digested before after old new n buf holds reads = record {
  bound = reads.bound;
  bytes = reads.bytes;
  taken = reads.taken;
  given = λ bytes may. may_be_held after (bytes ++ take n buf) (holds bytes (held_bytes before bytes may));
  started = reads.started;
  starts = reads.starts;
  later = reads.later;
  cause = reads.cause;
}

-- a read that failed, of which the hash was handed nothing
pub fails_digested : (feed : DigestFeed) (old new : Slot) (fault : Failed) (buf : List ℕ) → Reads old new (Err fault) buf → Reads (digested_slot old feed) (digested_slot new feed) (Err fault) buf
fails_digested feed old new fault buf reads = record {
  bound = reads.bound;
  bytes = reads.bytes;
  taken = reads.taken;
  given = λ bytes may. may;
  started = reads.started;
  starts = reads.starts;
  later = reads.later;
  cause = reads.cause;
}
