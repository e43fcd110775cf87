use Rattle.std.proofs.Common.{◌≡◌, ◌++◌, ◌+◌, ◌≤◌, length, vec_items}
use Rattle.std.specs.Prelude.{vec_len, vec_capacity}
use Rattle.indexmap.specs.IndexMap.{keys}
use Rattle.order_list.proofs.keys.keys_in_order.Given as goal

-- the keys so far, behind which the others come, for which there is room
abbrev pub invariant-loop-pair : goal.invariant-loop-pair
invariant-loop-pair l =
    (vec_items l.listed ++ l.pair-iterator ≡ keys l.fn.map)
    × (vec_len l.listed + length l.pair-iterator ≤ vec_capacity l.listed)
