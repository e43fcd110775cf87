-- What holds of every order list.
use Rattle.std.specs.Prelude.{◌≤◌, ℕ, List}
use Rattle.audit_base.specs.declared.orders.Order.{Order}
use Rattle.audit_base.specs.declared.orders.Deal.{Deal}
use Rattle.audit_base.specs.Calls.{Matching}
use Rattle.audit_base.specs.Deals.{volume}
use Rattle.audit_base.specs.Bounds.{cut}

-- no matching has a volume above the cut at any price
abbrev pub CutBoundsVolume : Type 0
CutBoundsVolume =
    (orders : List Order) (deals : List Deal) → Matching orders deals → (p : ℕ)
    → volume deals ≤ cut orders p
