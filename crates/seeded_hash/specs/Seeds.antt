-- What a hash that has a seed begins with.
use Rattle.std.specs.Prelude.{◌≡◌, ℕ}
use Rattle.std.specs.List.{fold}
use Rattle.std.specs.Hash as fed
use Rattle.std.specs.Hash.DefaultHasher as sip
use Rattle.std.specs.declared.hash.DefaultHasher.{DefaultHasher}
use Rattle.seeded_hash.specs.declared.seed.HashSeed.{HashSeed}

-- the hasher that the two numbers of a seed have been written to, one after the other
abbrev pub seeded_hasher : ℕ → ℕ → DefaultHasher
seeded_hasher first second =
    fold sip.write (fold sip.write sip.initial (fed.u64 first)) (fed.u64 second)

-- the seed is that of some two numbers
pub record IsOfTwoNumbers (seed : HashSeed) : Type 0 where
  pub first : ℕ
  pub second : ℕ
  pub starts : seed.start ≡ seeded_hasher first second
