-- Two texts of at most 30 bytes together, in one block of 32.
use Rattle.std.specs.Prelude.{ℕ, ◌+◌, ◌-◌, Bool, Option, Some, None, List, ◌∷◌, ◌++◌, length, take, drop, replicate, min, slice_index, nat_le, bytes_eq, if◌then◌else◌}
use Rattle.seeded_hash.specs.declared.short_pairs.ShortPair.{ShortPair}

-- the texts have at most 30 bytes together
abbrev pub fit_short_block : List ℕ → List ℕ → Bool
fit_short_block first second = nat_le (length first + length second) 30

-- a block with a text written over its bytes from a place on
abbrev pub put_at : List ℕ → ℕ → List ℕ → List ℕ
put_at block at text = take at block ++ text ++ drop (at + length text) block

-- both sizes, and zeros
abbrev pub sizes_block : ℕ → ℕ → List ℕ
sizes_block first second = first ∷ second ∷ replicate 30 0

-- the block of two texts: the sizes of both, their bytes, and zeros
abbrev pub short_block : List ℕ → List ℕ → List ℕ
short_block first second =
    put_at (put_at (sizes_block (length first) (length second)) 2 first) (2 + length first) second

-- the pair of two texts, where they are short
abbrev pub short_pair_of : List ℕ → List ℕ → Option ShortPair
short_pair_of first second =
    if fit_short_block first second then Some (record { block = short_block first second })
    else None

-- the texts of a block that is one of two texts: as many bytes as its first two
-- say, and no more than it has
abbrev pub first_text : List ℕ → List ℕ
first_text block = take (min (slice_index block 0) 30) (drop 2 block)

abbrev pub second_start : List ℕ → ℕ
second_start block = 2 + min (slice_index block 0) 30

abbrev pub second_text : List ℕ → List ℕ
second_text block =
    take (min (slice_index block 1) (32 - second_start block)) (drop (second_start block) block)

-- these are the same blocks
abbrev pub same_block : ShortPair → ShortPair → Bool
same_block a b = bytes_eq a.block b.block

-- what is held of two texts in two tables, one of short pairs, the other of what is not short:
-- by the pair that they are given as
abbrev pub value_by_pair : {A : Type 0} → (ShortPair → Option A) → Option A → Option ShortPair
    → Option A
value_by_pair short long (Some pair) = short pair
value_by_pair short long None = long
