use Rattle.std.proofs.Common.{subst, AllPairs}
use Rattle.audit_base.specs.declared.terms.Side.{Side}
use Rattle.order_book.specs.Books.{IsAheadInBook}
use Rattle.continuous_picture.proofs.BookAtLemmas.{book-whole}
use Rattle.continuous_picture.proofs.books_at.book_at.Goals as goal

pub returns : goal.returns
returns c =
    let m = c.args.market.now in
    let whole = c.in_ok-book.book.resting in
    record {
      whole = whole;
      is_whole = book-whole m.orders.now m.deals.now c.args.side c.args.place c.requires.market.order_list whole c.in_ok-book.ensures.lines
          (subst (λ (s : Side). AllPairs (IsAheadInBook s) whole) c.in_ok-book.ensures.side c.in_rank_order.ensures);
      first = c.in_ok-lines.ensures;
    }
