-- A row of columns with one more.
use Rattle.std.specs.Prelude.{◌≡◌, ℕ, List, [], ◌∷◌, ◌++◌}
use Rattle.audit_base.specs.declared.orders.Deal.{Deal}
use Rattle.audit_base.specs.declared.orders.Order.{Order}
use Rattle.continuous_picture.specs.declared.columns.PlaceColumn.{PlaceColumn}
use Rattle.continuous_picture.specs.Columns.{IsColumn}

-- the columns have one more behind the others, that of these places
pub record HasColumnBehind (orders : List Order) (deals : List Deal) (first next : ℕ)
    (old new : List PlaceColumn) : Type 0 where
  pub column : PlaceColumn
  pub is : IsColumn orders deals column
  pub first_is : column.first ≡ first
  pub next_is : column.next ≡ next
  pub behind : new ≡ old ++ column ∷ []
