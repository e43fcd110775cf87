-- The one list of shares of a list of deals.
use Rattle.std.specs.Prelude.{◌≡◌, ◌<◌, ◌⊎◌, ℕ, List, All, AllPairs, Contains}
use Rattle.audit_base.specs.declared.orders.Deal.{Deal}
use Rattle.audit_base.specs.Deals.{pair}
use Rattle.canonical_form.specs.declared.shares.Share.{Share}

-- the first is before the second: its bid is lower, or the bids are the same and its ask is lower
abbrev pub ShareBefore : Share → Share → Type 0
ShareBefore s t = (s.bid < t.bid) ⊎ ((s.bid ≡ t.bid) × (s.ask < t.ask))

-- one share for each bid and ask that trade with each other, with all that they trade, in order of
-- the bid, then of the ask
pub record AreShares (deals : List Deal) (shares : List Share) : Type 0 where
  pub quantities : All (λ s. s.quantity ≡ pair deals s.bid s.ask) shares
  pub positive : All (λ s. 0 < s.quantity) shares
  pub complete : (bid ask : ℕ) → 0 < pair deals bid ask
      → Contains shares (record { bid = bid; ask = ask; quantity = pair deals bid ask })
  pub ascending : AllPairs ShareBefore shares
