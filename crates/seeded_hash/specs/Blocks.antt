-- The hash of a block of 32 bytes.
use Rattle.std.specs.Prelude.{ℕ, ◌+◌, ◌*◌, ◌/◌, ◌%◌, ◌^◌, List, [], ◌∷◌, ◌++◌, length, min, take, drop, replicate, slice_index}
use Rattle.std.specs.List.{fold}
use Rattle.std.specs.Hash as fed
use Rattle.std.specs.Hash.DefaultHasher as sip
use Rattle.std.specs.declared.hash.DefaultHasher.{DefaultHasher}
use Rattle.seeded_hash.specs.declared.blocks.BlockHasher.{BlockHasher}

-- the four bytes of a block from a place on as a number, the lowest first
unfoldable pub block_word_at : List ℕ → ℕ → ℕ
block_word_at block at = slice_index block at + slice_index block (at + 1) * 256
    + slice_index block (at + 2) * 65536 + slice_index block (at + 3) * 16777216

-- the word of a block at an index, times its factor
abbrev pub term_at : List ℕ → List ℕ → ℕ → ℕ
term_at factors block index = slice_index factors index * block_word_at block (4 * index)

-- four of the eight terms, from an index on
abbrev pub half_sum : List ℕ → List ℕ → ℕ → ℕ
half_sum factors block from = term_at factors block from + term_at factors block (from + 1)
    + term_at factors block (from + 2) + term_at factors block (from + 3)

-- all eight
abbrev pub block_sum : List ℕ → List ℕ → ℕ
block_sum factors block = half_sum factors block 0 + half_sum factors block 4

-- the first 32 bytes of a text, padded with zeros
abbrev pub block_of : List ℕ → List ℕ
block_of text = let size = min (length text) 32 in take size text ++ drop size (replicate 32 0)

-- the state after a text
abbrev pub write : BlockHasher → List ℕ → BlockHasher
write hasher text =
    record hasher { sum = (hasher.sum + block_sum hasher.factors (block_of text)) % 2 ^ 64 }

-- the hash: the upper half of the sum
abbrev pub finish : BlockHasher → ℕ
finish hasher = hasher.sum / 2 ^ 32

-- the number that a seed gives at an index
unfoldable pub secret_at : DefaultHasher → ℕ → ℕ
secret_at start index = sip.finish (fold sip.write start (fed.u64 index))

-- the secret numbers of a seed, eight factors and a sum to begin with
abbrev pub secrets_of : DefaultHasher → BlockHasher
secrets_of start = record {
  factors = secret_at start 0 ∷ secret_at start 1 ∷ secret_at start 2 ∷ secret_at start 3
      ∷ secret_at start 4 ∷ secret_at start 5 ∷ secret_at start 6 ∷ secret_at start 7 ∷ [];
  sum = secret_at start 8;
}
