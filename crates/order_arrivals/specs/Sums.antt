-- An amount for each order of a list, and what is made of the amounts.
use Rattle.std.specs.Prelude.{◌≡◌, ◌+◌, ℕ, List, length, replicate, slice_set}
use Rattle.audit_base.specs.declared.orders.Order.{Order}
use Rattle.audit_base.specs.Deals.{number_at}
use Rattle.audit_base.specs.Sums.{sum_below}
use Rattle.order_arrivals.specs.declared.families.Families.{Families}
use Rattle.order_arrivals.specs.Families.{AreFamilies}

-- the amount of each order, and the numbering that tells which orders are in a chain
pub record ChainAmounts : Type 0 where
  pub amounts : List ℕ
  pub families : Families

-- the sum of all amounts
abbrev pub amount_total : List ℕ → ℕ
amount_total amounts = sum_below (number_at amounts) (length amounts)

-- an amount of 0 for each order of a list
pub record AreNoAmounts (orders : List Order) (s : ChainAmounts) : Type 0 where
  pub families : AreFamilies orders s.families
  pub zeros : s.amounts ≡ replicate (length orders) 0

-- the amount of an order is this much more
pub record IsAmountAdded (order amount : ℕ) (old new : ChainAmounts) : Type 0 where
  pub families : new.families ≡ old.families
  pub amounts : new.amounts ≡ slice_set old.amounts order (number_at old.amounts order + amount)
  pub total : amount_total new.amounts ≡ amount_total old.amounts + amount
