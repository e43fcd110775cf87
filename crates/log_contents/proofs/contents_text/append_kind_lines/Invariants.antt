use Rattle.std.proofs.Common.{◌≡◌, ◌++◌, ℕ, List, take}
use Rattle.std.specs.List.{flat_map}
use Rattle.log_contents.specs.Counts.{HasCounted, count_of_kind, kinds_in_order}
use Rattle.log_contents.specs.Texts.{counted_line}
use Rattle.log_contents.proofs.contents_text.append_kind_lines.Given as goal

-- the lines of the kinds so far are written
abbrev pub invariant-loop-index : goal.invariant-loop-index
invariant-loop-index l = (kinds : List (List ℕ)) → HasCounted l.kinds kinds
    → l.out.items ≡ l.initial.out.items ++ flat_map (λ (kind : List ℕ). counted_line l.log kind (count_of_kind kind kinds)) (take l.index (kinds_in_order kinds))
