-- The entries of the ordered map that a book keeps.
use Rattle.std.specs.Prelude.{◌≡◌, List, All}
use Rattle.std.specs.List.Sorted.{IsStrictlySortedBy}
use Rattle.std.specs.Map.{keys_of}
use Rattle.audit_base.specs.declared.terms.Side.{Side}
use Rattle.order_book.specs.declared.books.Resting.{Resting}
use Rattle.rank_order.specs.declared.ranks.Rank.{Rank}
use Rattle.rank_order.specs.Ranks.{rank_cmp, rank_of}
use Rattle.order_book.specs.Books.{IsRestingOrder}

-- an order is kept under its rank
pub record IsBookEntry (side : Side) (e : Rank × Resting) : Type 0 where
  pub key : e.0 ≡ rank_of side e.1.index e.1.limit
  pub held : IsRestingOrder e.1

-- each order is kept under its rank, and the ranks rise strictly
pub record AreBookEntries (side : Side) (entries : List (Rank × Resting)) : Type 0 where
  pub each : All (IsBookEntry side) entries
  pub rising : IsStrictlySortedBy rank_cmp (keys_of entries)
