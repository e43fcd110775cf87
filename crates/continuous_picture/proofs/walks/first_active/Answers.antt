use Rattle.std.proofs.Common.{◌≡◌, ◌<◌, ◌∙◌, ap, sym, arith, false, length}
use Rattle.order_book.specs.Books.{BookSide}
use Rattle.order_book.specs.declared.books.Resting.{Resting}
use Rattle.continuous_picture.specs.Active.{is_active_in_book, known_orders}
use Rattle.continuous_picture.proofs.BookLemmas.{first-holds, first-kept, first-none, first-step, first-stays}
use Rattle.continuous_picture.proofs.walks.first_active.Goals as goal

pub is_active-requires-clause-order : goal.is_active-requires-clause-order
is_active-requires-clause-order c = first-holds (λ (r : Resting). r.index < length (known_orders c.args.known.now)) c.loop-best.book.resting c.in-Some.best (sym c.in-Some.ensures.best) c.loop-best.invariant.inside

pub loop-best-preserved : goal.loop-best-preserved
loop-best-preserved c =
    let test = is_active_in_book c.args.known.now in
    let xs = c.loop-best.book.resting in
    let best = c.in-Some.best in
    let found = sym c.in-Some.ensures.best in
    let gone = ap (λ (b : BookSide). b.resting) c.cancel.ensures.gone in
    let off : test best ≡ false = sym c.is_active.ensures ∙ c.if-is_active.false in
    record {
      inside = first-stays test (λ (r : Resting). r.index < length (known_orders c.args.known.now)) xs c.cancel.new.self.resting best found gone c.loop-best.invariant.inside;
      side = ap (λ (b : BookSide). b.side) c.cancel.ensures.gone ∙ c.loop-best.invariant.side;
      same = (first-step test xs c.cancel.new.self.resting best found off gone).0 ∙ c.loop-best.invariant.same;
    }

pub loop-best-smaller : goal.loop-best-smaller
loop-best-smaller c =
    let test = is_active_in_book c.args.known.now in
    let off : test c.in-Some.best ≡ false = sym c.is_active.ensures ∙ c.if-is_active.false in
    let fewer = (first-step test c.loop-best.book.resting c.cancel.new.self.resting c.in-Some.best (sym c.in-Some.ensures.best) off (ap (λ (b : BookSide). b.resting) c.cancel.ensures.gone)).1 in
    omega arith

pub returns-then-is_active-clause-list : goal.returns-then-is_active-clause-list
returns-then-is_active-clause-list c =
    let test = is_active_in_book c.args.known.now in
    let kept = first-kept test c.loop-best.book.resting c.in-Some.best (sym c.in-Some.ensures.best) (sym c.is_active.ensures ∙ c.if-is_active.true) in
    λ i. record { side = c.loop-best.invariant.side i; resting = (sym kept ∙ c.loop-best.invariant.same) i }

pub returns-clause-list : goal.returns-clause-list
returns-clause-list c =
    let test = is_active_in_book c.args.known.now in
    let kept = first-none test c.loop-best.book.resting (sym c.best.ensures.best ∙ c.in_default.is) in
    λ i. record { side = c.loop-best.invariant.side i; resting = (sym kept ∙ c.loop-best.invariant.same) i }
