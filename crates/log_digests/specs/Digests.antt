-- The digest of a log: what it is of its bytes, and what is known of a log that was digested.
use Rattle.std.specs.Prelude.{◌≡◌, ℕ, ◌≤◌, true, List, length}
use Rattle.audit_base.specs.declared.terms.Which.{Which}
use Rattle.log_source.specs.Taking.{IsWholeLog}
use Rattle.log_source.specs.declared.shelf.Shelf as shelf
use Rattle.sha2.specs.Sha256.{sha256}

-- the digest of a log: that of its whole bytes under SHA-256 (FIPS 180-4)
abbrev pub digest_of : List ℕ → List ℕ
digest_of bytes = sha256 bytes

-- The digest is that of the bytes that were taken of the log, as the slot keeps account of them,
-- no more than the limit, which are
-- the whole log where the logs of the shelf are known.
pub record IsDigestOfLog {F : Type 0} (shelves : shelf.Ghosts F) (which : Which) (name : List ℕ)
    (limit : ℕ) (old new : F) (digest : List ℕ) : Type 0 where
  pub bytes : List ℕ
  pub digest_is : digest ≡ digest_of bytes
  pub within : length bytes ≤ limit
  pub count : length bytes ≡ (shelves.slot new which).taken
  pub given : (shelves.slot new which).gave bytes ≡ true
  pub whole : IsWholeLog shelves which name old bytes

-- two feeds stand for the same bytes
abbrev pub StandsForBoth : {A B : Type 0} → (A → List ℕ → Type 0) → (B → List ℕ → Type 0) → A → B
    → List ℕ → Type 0
StandsForBoth one other first second bytes = one first bytes × other second bytes
