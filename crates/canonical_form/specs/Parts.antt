-- The parts that deals add to shares.
use Rattle.std.specs.Prelude.{◌≡◌, ◌<◌, ◌≤◌, ◌+◌, ℕ, Bool, ◌==◌, ◌&&◌, List, [], ◌∷◌, ◌++◌, All, AllPairs, sum_by, take, slice_index_or, ◌*◌, if◌then◌else◌}
use Rattle.std.specs.Ordering.{nat_cmp, ordering_then}
use Rattle.std.specs.declared.cmp.Ordering.{Ordering}
use Rattle.audit_base.specs.Numbers.{greatest_quantity}
use Rattle.audit_base.specs.declared.orders.Deal.{Deal}
use Rattle.audit_base.specs.Deals.{pair}
use Rattle.canonical_form.specs.declared.parts.DealPart.{DealPart}
use Rattle.canonical_form.specs.declared.shares.Share.{Share}
use Rattle.canonical_form.specs.Shares.{ShareBefore}

-- what is given past the end of a list of parts, and the part at an index
abbrev pub part_past_end : DealPart
part_past_end = record { bid = 0; ask = 0; quantity = 0 }

abbrev pub part_at : List DealPart → ℕ → DealPart
part_at parts i = slice_index_or parts i part_past_end

-- how parts compare
abbrev pub part_cmp : DealPart → DealPart → Ordering
part_cmp p q = ordering_then (nat_cmp p.bid q.bid)
    (ordering_then (nat_cmp p.ask q.ask) (nat_cmp p.quantity q.quantity))

-- what a part, or a share, adds to a pair
abbrev pub part_of_pair : ℕ → ℕ → DealPart → ℕ
part_of_pair bid ask p = if (p.bid == bid) && (p.ask == ask) then p.quantity else 0

abbrev pub share_of_pair : ℕ → ℕ → Share → ℕ
share_of_pair bid ask s = if (s.bid == bid) && (s.ask == ask) then s.quantity else 0

-- a part is of a quantity that a deal may have
pub record IsPartOfDeal (p : DealPart) : Type 0 where
  pub positive : 0 < p.quantity
  pub bounded : p.quantity ≤ greatest_quantity

-- the part of a deal
abbrev pub part_of_deal : Deal → DealPart
part_of_deal d = record { bid = d.bid; ask = d.ask; quantity = d.quantity }

-- the parts trade with each pair what the deals do
abbrev pub AreParts : List Deal → List DealPart → Type 0
AreParts deals parts = (bid ask : ℕ) → sum_by (part_of_pair bid ask) parts ≡ pair deals bid ask

-- the share of one part
abbrev pub share_of_part : DealPart → Share
share_of_part p = record { bid = p.bid; ask = p.ask; quantity = p.quantity }

-- a part is of the pair of a share
abbrev pub is_of_pair : Share → DealPart → Bool
is_of_pair s p = (s.bid == p.bid) && (s.ask == p.ask)

-- the share that is made after a part, and the finished ones before it
abbrev pub next_share : Share → DealPart → Share
next_share s p = if is_of_pair s p then record s { quantity = s.quantity + p.quantity }
    else share_of_part p

abbrev pub finished_shares : List Share → Share → DealPart → List Share
finished_shares shares s p = if is_of_pair s p then shares else shares ++ s ∷ []

-- the shares trade with each pair what the parts do, each pair has one at most,
-- and they are in order
pub record AreMergedShares (parts : List DealPart) (shares : List Share) : Type 0 where
  pub sums : (bid ask : ℕ) → sum_by (share_of_pair bid ask) shares
      ≡ sum_by (part_of_pair bid ask) parts
  pub positive : All (λ s. 0 < s.quantity) shares
  pub ascending : AllPairs ShareBefore shares

-- what is known after the first parts: the finished shares, and the one that is made, which is of
-- the last part's pair
pub record AreSharesSoFar (parts : List DealPart) (at : ℕ) (shares : List Share)
    (s : Share) : Type 0 where
  pub bid : (i : ℕ) → i + 1 ≡ at → s.bid ≡ (part_at parts i).bid
  pub ask : (i : ℕ) → i + 1 ≡ at → s.ask ≡ (part_at parts i).ask
  pub sums : (bid ask : ℕ) → sum_by (share_of_pair bid ask) shares + share_of_pair bid ask s
      ≡ sum_by (part_of_pair bid ask) (take at parts)
  pub positive : All (λ t. 0 < t.quantity) shares
  pub positive_here : 0 < s.quantity
  pub ascending : AllPairs ShareBefore shares
  pub under : All (λ t. ShareBefore t s) shares
  pub fits : s.quantity ≤ at * greatest_quantity
