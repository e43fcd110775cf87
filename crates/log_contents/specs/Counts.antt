-- How often each kind is there. A kind is a text: how one message or record is counted.
use Rattle.std.specs.Prelude.{◌≡◌, ℕ, ◌+◌, List, [], ◌∷◌, map, if◌then◌else◌}
use Rattle.audit_base.specs.Orders.{same_name}
use Rattle.day_symbols.specs.Symbols.{distinct_names}
use Rattle.log_contents.specs.declared.kind_counts.KindCounts.{KindCounts}

-- how many of these kinds are this one
abbrev pub count_of_kind : List ℕ → List (List ℕ) → ℕ
count_of_kind kind [] = 0
count_of_kind kind (other ∷ kinds) =
    (if same_name kind other then 1 else 0) + count_of_kind kind kinds

-- these kinds, each once, in the order in which each appears first
abbrev pub kinds_in_order : List (List ℕ) → List (List ℕ)
kinds_in_order kinds = distinct_names kinds

-- how many of the kinds are each of these
abbrev pub counts_of : List (List ℕ) → List (List ℕ) → List ℕ
counts_of names kinds = map (λ kind. count_of_kind kind kinds) names

-- the kinds that were counted so far, each once
abbrev pub kinds_counted : KindCounts → List (List ℕ)
kinds_counted counted = map (λ kind. kind.items) counted.kinds.keys

-- These kinds were counted: each is kept once, in the order in which each appears first, with how
-- many of them it is.
pub record HasCounted (counted : KindCounts) (kinds : List (List ℕ)) : Type 0 where
  pub order : kinds_counted counted ≡ kinds_in_order kinds
  pub counts : counted.counts.items ≡ counts_of (kinds_in_order kinds) kinds
