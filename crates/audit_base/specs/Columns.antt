-- The columns of the CSV logs, nine of each.
use Rattle.std.specs.Prelude.{ℕ, List, [], ◌∷◌, codes, slice_index_or}
use Rattle.audit_base.specs.declared.terms.Which.{Which}
use Rattle.audit_base.specs.declared.terms.Which.TheVariants.{Orders, Trades}

-- the names of the columns of an order log
abbrev pub order_columns : List (List ℕ)
order_columns =
    codes "kind" ∷ codes "firm" ∷ codes "id" ∷ codes "time" ∷ codes "symbol" ∷ codes "side"
    ∷ codes "quantity" ∷ codes "price" ∷ codes "target" ∷ []

-- the names of the columns of a trade log
abbrev pub trade_columns : List (List ℕ)
trade_columns =
    codes "trade" ∷ codes "time" ∷ codes "symbol" ∷ codes "buy_firm" ∷ codes "buy_id"
    ∷ codes "sell_firm" ∷ codes "sell_id" ∷ codes "quantity" ∷ codes "price" ∷ []

-- the names of the columns of a log
abbrev pub columns : Which → List (List ℕ)
columns Orders = order_columns
columns Trades = trade_columns

-- the name of a column, which are numbered from 1 to 9; no other number has a name
abbrev pub column_name : Which → ℕ → List ℕ
column_name log column = slice_index_or ([] ∷ columns log) column []
