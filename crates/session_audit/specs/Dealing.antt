-- The causes of the deals, and the deals whose cause is between two places.
use Rattle.std.specs.Prelude.{◌≤◌, ℕ, zero, suc, Bool, true, false, ◌&&◌, nat_le, List, [], ◌∷◌, ◌++◌, All}
use Rattle.audit_base.specs.declared.orders.Order.{Order}
use Rattle.audit_base.specs.declared.orders.Deal.{Deal}
use Rattle.audit_base.specs.Deals.{deal_at, number_at}
use Rattle.audit_base.specs.Continuous.{cause}
use Rattle.session_audit.specs.Phases.{last_place}
use Rattle.session_audit.specs.PhaseOrders.{list_below}

-- the causes of the first n deals, in log order
abbrev pub causes_below : List Order → List Deal → ℕ → List ℕ
causes_below orders deals n = list_below (λ j. cause orders (deal_at deals j)) n

-- no cause is above the greatest place of a record
abbrev pub HaveCausesInRange : List Order → List Deal → Type 0
HaveCausesInRange orders deals = All (λ d. cause orders d ≤ last_place) deals

-- a place is from `first` to `last`
abbrev pub is_between : ℕ → ℕ → ℕ → Bool
is_between first last place = nat_le first place && nat_le place last

-- a deal, where the test holds
abbrev pub deals_if : Bool → Deal → List Deal
deals_if true d = d ∷ []
deals_if false d = []

-- those of the first n deals whose cause, by the list of causes, is from `first` to `last`
abbrev pub deals_between : List Deal → List ℕ → ℕ → ℕ → ℕ → List Deal
deals_between deals causes first last zero = []
deals_between deals causes first last (suc n) = deals_between deals causes first last n
    ++ deals_if (is_between first last (number_at causes n)) (deal_at deals n)
