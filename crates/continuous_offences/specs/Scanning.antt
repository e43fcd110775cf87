-- The first finding of the deals of an order that have been looked at.
use Rattle.std.specs.Prelude.{◌≡◌, ◌<◌, ◌≤◌, ℕ, List, Option, None, Some}
use Rattle.audit_base.specs.declared.findings.Finding.{Finding}
use Rattle.continuous_audit.specs.Scans.{deal_index_at, incoming_order_at}
use Rattle.continuous_audit.specs.declared.incoming_deals.IncomingDeal.{IncomingDeal}

-- a finding of each deal, by its index: of the incoming deals from one index on and before another
-- none has one
abbrev pub AreClean : (ℕ → Option Finding) → List IncomingDeal → ℕ → ℕ → Type 0
AreClean finding incoming_deals start at = (i : ℕ) → start ≤ i → i < at
    → finding (deal_index_at incoming_deals i) ≡ None

-- of the incoming deals from one index on and before another, which are those of an order, this is
-- the first finding, or none has one
abbrev pub IsFirstFound : (ℕ → Option Finding) → List IncomingDeal → ℕ → ℕ → ℕ → Option Finding
    → Type 0
IsFirstFound finding incoming_deals order start at None =
    AreClean finding incoming_deals start at
IsFirstFound finding incoming_deals order start at (Some f) = (i : ℕ) × (start ≤ i) × (i < at)
    × (incoming_order_at incoming_deals i ≡ order)
    × (finding (deal_index_at incoming_deals i) ≡ Some f)
    × AreClean finding incoming_deals start i
