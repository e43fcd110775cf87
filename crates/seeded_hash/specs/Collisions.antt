-- How seldom two blocks have one hash.
use Rattle.std.specs.Prelude.{◌≡◌, ◌≢◌, ◌<◌, ◌≤◌, ◌*◌, ◌^◌, ℕ, List, All, AllPairs, length, slice_set}
use Rattle.seeded_hash.specs.Blocks.{block_word_at, write, finish}
use Rattle.seeded_hash.specs.declared.blocks.BlockHasher.{BlockHasher}

-- the hash of a block, where the factor of the word at an index is this
abbrev pub hash_with : BlockHasher → ℕ → List ℕ → ℕ → ℕ
hash_with hasher index block factor =
    finish (write (record hasher { factors = slice_set hasher.factors index factor }) block)

-- two blocks of 32 bytes
pub record AreBlocks (first second : List ℕ) : Type 0 where
  pub first_size : length first ≡ 32
  pub second_size : length second ≡ 32
  pub first_bytes : All (λ byte. byte < 256) first
  pub second_bytes : All (λ byte. byte < 256) second

-- Two blocks that differ in a word have one hash for few values of its factor,
-- whatever the other secrets are: of the 2^64 values, for at most 2^35.
abbrev pub FewFactorsCollide : Type 0
FewFactorsCollide = (hasher : BlockHasher) (index : ℕ) (first second : List ℕ) (values : List ℕ)
    → length hasher.factors ≡ 8 → index < 8 → AreBlocks first second
    → block_word_at first (4 * index) ≢ block_word_at second (4 * index)
    → AllPairs (λ m n. m < n) values
    → All (λ n. (n < 2 ^ 64)
    × (hash_with hasher index first n ≡ hash_with hasher index second n)) values
    → length values ≤ 2 ^ 35
