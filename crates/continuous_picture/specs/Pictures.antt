-- The numbers of the picture of continuous trading.
use Rattle.std.specs.Prelude.{◌≡◌, ℕ, List, Option, None, Some}
use Rattle.audit_base.specs.declared.orders.Deal.{Deal}
use Rattle.audit_base.specs.declared.orders.Order.{Order}
use Rattle.audit_base.specs.declared.terms.Side.TheVariants.{Buy, Sell}
use Rattle.continuous_picture.specs.declared.pictures.BookBefore.{BookBefore}
use Rattle.continuous_picture.specs.declared.pictures.ContinuousPicture.{ContinuousPicture}
use Rattle.continuous_picture.specs.BooksAt.{IsBookAt}
use Rattle.continuous_picture.specs.Columns.{AreColumns}

-- the book right before the record at a place: of each side the ten best orders that rest there
pub record IsBookBefore (orders : List Order) (deals : List Deal) (place : ℕ) (book : BookBefore)
    : Type 0 where
  pub place_is : book.place ≡ place
  pub bids : IsBookAt orders deals Buy place book.bids.items
  pub asks : IsBookAt orders deals Sell place book.asks.items

-- the same where a place is given, and else none
abbrev pub IsBookIfAsked : List Order → List Deal → Option ℕ → Option BookBefore → Type 0
IsBookIfAsked orders deals None None = Unit {0}
IsBookIfAsked orders deals None (Some book) = ⊥
IsBookIfAsked orders deals (Some place) None = ⊥
IsBookIfAsked orders deals (Some place) (Some book) = IsBookBefore orders deals place book

-- the columns of the places from that of the first order to before `end`, and the book that is
-- asked for
pub record IsContinuousPicture (orders : List Order) (deals : List Deal) (end : ℕ)
    (place : Option ℕ) (picture : ContinuousPicture) : Type 0 where
  pub columns : AreColumns orders deals end picture.columns.items
  pub book : IsBookIfAsked orders deals place picture.book
