-- How a name of 1 to 64 bytes lies in a block of 64.
use Rattle.std.specs.Prelude.{◌≡◌, ℕ, ◌-◌, ◌≤◌, List, ◌++◌, length, take, replicate, IsTrue}
use Rattle.std.proofs.Common.{ap, sym, ◌∙◌, arith}
use Rattle.std.proofs.lemmas.List.{length-take-le}
use Rattle.audit_base.specs.declared.names.Name.TheInside.{Inside}
use Rattle.audit_base.specs.Names.{is_name}

-- the bytes of a name are the first ones of its block
abbrev pub name_in_block : Inside → List ℕ
name_in_block n = take n.size n.bytes

-- the block of a name: its bytes, and zeros up to 64
abbrev pub block_of_name : List ℕ → Inside
block_of_name text = record { bytes = text ++ replicate (64 - length text) 0; size = length text }

-- the block has 64 bytes, those past the name are zeros, and the others are a name
pub record IsNameBlock (n : Inside) : Type 0 where
  pub within : n.size ≤ 64
  pub block : length n.bytes ≡ 64
  pub zeros : n.bytes ≡ take n.size n.bytes ++ replicate (64 - n.size) 0
  pub name : IsTrue (is_name (take n.size n.bytes))

-- a block is packed from what it shows
pub block-of-name-in-block : (n : Inside) → IsNameBlock n → block_of_name (name_in_block n) ≡ n
block-of-name-in-block n is =
    let h : n.size ≤ length n.bytes = omega (arith, is.within, is.block) in
    let e : length (take n.size n.bytes) ≡ n.size = length-take-le n.size n.bytes h in
    let z : take n.size n.bytes ++ replicate (64 - length (take n.size n.bytes)) 0 ≡ n.bytes =
    ap (λ (k : ℕ). take n.size n.bytes ++ replicate (64 - k) 0) e ∙ sym is.zeros in
    λ i. record { bytes = z i; size = e i }
