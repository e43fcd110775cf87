use Rattle.std.proofs.Common.{◌≡◌, ◌<◌, ◌∙◌, ap, sym, arith, false, length}
use Rattle.order_book.specs.Books.{BookSide}
use Rattle.order_book.specs.declared.books.Resting.{Resting}
use Rattle.continuous_offences.specs.Books.{waits_in_book}
use Rattle.continuous_offences.specs.StateAfterDeals.{orders_of}
use Rattle.continuous_offences.proofs.BookLemmas.{first-holds, first-kept, first-none, first-step, first-stays}
use Rattle.continuous_offences.proofs.books.first_resting.Goals as goal

pub rests-requires-clause-order : goal.rests-requires-clause-order
rests-requires-clause-order c = first-holds (λ (r : Resting). r.index < length (orders_of c.args.dealt.now)) c.loop-best.book.resting c.in-Some.best (sym c.in-Some.ensures.best) c.loop-best.invariant.inside

pub loop-best-preserved : goal.loop-best-preserved
loop-best-preserved c =
    let test = waits_in_book c.args.dealt.now c.args.place in
    let xs = c.loop-best.book.resting in
    let best = c.in-Some.best in
    let found = sym c.in-Some.ensures.best in
    let gone = ap (λ (b : BookSide). b.resting) c.cancel.ensures.gone in
    let off : test best ≡ false = sym c.rests.ensures ∙ c.if-rests.false in
    record {
      inside = first-stays test (λ (r : Resting). r.index < length (orders_of c.args.dealt.now)) xs c.cancel.new.self.resting best found gone c.loop-best.invariant.inside;
      side = ap (λ (b : BookSide). b.side) c.cancel.ensures.gone ∙ c.loop-best.invariant.side;
      same = (first-step test xs c.cancel.new.self.resting best found off gone).0 ∙ c.loop-best.invariant.same;
    }

pub loop-best-smaller : goal.loop-best-smaller
loop-best-smaller c =
    let test = waits_in_book c.args.dealt.now c.args.place in
    let off : test c.in-Some.best ≡ false = sym c.rests.ensures ∙ c.if-rests.false in
    let fewer = (first-step test c.loop-best.book.resting c.cancel.new.self.resting c.in-Some.best (sym c.in-Some.ensures.best) off (ap (λ (b : BookSide). b.resting) c.cancel.ensures.gone)).1 in
    omega arith

pub returns-then-rests-clause-list : goal.returns-then-rests-clause-list
returns-then-rests-clause-list c =
    let test = waits_in_book c.args.dealt.now c.args.place in
    let kept = first-kept test c.loop-best.book.resting c.in-Some.best (sym c.in-Some.ensures.best) (sym c.rests.ensures ∙ c.if-rests.true) in
    λ i. record { side = c.loop-best.invariant.side i; resting = (sym kept ∙ c.loop-best.invariant.same) i }

pub returns-clause-list : goal.returns-clause-list
returns-clause-list c =
    let test = waits_in_book c.args.dealt.now c.args.place in
    let kept = first-none test c.loop-best.book.resting (sym c.best.ensures.best ∙ c.in_default.is) in
    λ i. record { side = c.loop-best.invariant.side i; resting = (sym kept ∙ c.loop-best.invariant.same) i }
