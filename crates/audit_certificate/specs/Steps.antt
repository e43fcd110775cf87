-- What each step of the verification says of what is left of the text.
use Rattle.std.specs.Prelude.{◌≡◌, ◌≤◌, ℕ, List, length}
use Rattle.audit_base.specs.declared.terms.VolumeRule.{VolumeRule}
use Rattle.audit_base.specs.declared.terms.Side.{Side}
use Rattle.audit_base.specs.declared.terms.Side.TheVariants.{Buy, Sell}
use Rattle.audit_base.specs.declared.orders.Order.{Order}
use Rattle.audit_base.specs.declared.orders.Deal.{Deal}
use Rattle.audit_base.specs.Orders.{IsOrderList}
use Rattle.audit_base.specs.Deals.{AreTotals}
use Rattle.audit_certificate.specs.Lines.{text_after_line, BeginsWith}
use Rattle.audit_certificate.specs.Agreement.{IsHeadLine, IsBoundLine, IsLastLine}

-- the text begins with a line that passes, and this is what is after it
pub record IsAfter (Test : List ℕ → Type 0) (bytes rest : List ℕ) : Type 0 where
  pub begins : BeginsWith Test bytes
  pub rest_is : rest ≡ text_after_line bytes
  pub shorter : length rest ≤ length bytes

-- line 1 passes under this rule, or is refused under each
abbrev pub IsAfterHead : List ℕ → List Order → List Deal → List ℕ → VolumeRule → List ℕ → Type 0
IsAfterHead symbol orders deals bytes the_rule rest =
    IsAfter (IsHeadLine the_rule symbol orders deals) bytes rest

pub record IsRefusedHead (symbol : List ℕ) (orders : List Order) (deals : List Deal)
    (bytes : List ℕ) (number : ℕ) : Type 0 where
  pub number_is : number ≡ 1
  pub fails : (the_rule : VolumeRule)
      → BeginsWith (IsHeadLine the_rule symbol orders deals) bytes → ⊥

-- line 2 passes, or is refused
abbrev pub IsAfterBound : VolumeRule → List Order → ℕ → List ℕ → List ℕ → Type 0
IsAfterBound the_rule orders reached bytes rest =
    IsAfter (IsBoundLine the_rule orders reached) bytes rest

pub record IsRefusedBound (the_rule : VolumeRule) (orders : List Order) (reached : ℕ)
    (bytes : List ℕ) (number : ℕ) : Type 0 where
  pub number_is : number ≡ 2
  pub fails : BeginsWith (IsBoundLine the_rule orders reached) bytes → ⊥

-- the numbers of the lines of last orders
abbrev pub last_line_number : Side → ℕ
last_line_number Buy = 3
last_line_number Sell = 4

-- line 3 or 4 passes, or not, whichever deals the numbers are of
abbrev pub IsAfterLast : List Order → List ℕ → Side → List ℕ → List ℕ → Type 0
IsAfterLast orders traded side bytes rest = (deals : List Deal) → IsOrderList orders
    → AreTotals orders deals traded → IsAfter (IsLastLine orders deals side) bytes rest

pub record IsRefusedLast (orders : List Order) (traded : List ℕ) (side : Side)
    (bytes : List ℕ) (number : ℕ) : Type 0 where
  pub number_is : number ≡ last_line_number side
  pub fails : (deals : List Deal) → IsOrderList orders → AreTotals orders deals traded
      → BeginsWith (IsLastLine orders deals side) bytes → ⊥
