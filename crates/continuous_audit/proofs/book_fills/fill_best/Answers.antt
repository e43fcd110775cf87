use Rattle.std.proofs.Common.{ap, ◌∙◌}
use Rattle.order_book.specs.Books.{BookSide}
use Rattle.continuous_audit.proofs.FillLemmas.{fill-step}
use Rattle.continuous_audit.proofs.book_fills.fill_best.Goals as goal

pub loop-best-preserved : goal.loop-best-preserved
loop-best-preserved c =
    let new = c.leave_of_best.ensures in
    let step = fill-step c.args.left.now c.loop-best.book.resting c.leave_of_best.new.book.resting c.in-Some.best c.in-Some.ensures.best c.if-now-gt0.false (ap (λ (b : BookSide). b.resting) new) c.loop-best.invariant.within in
    record {
      within = step.0;
      side = ap (λ (b : BookSide). b.side) new ∙ c.loop-best.invariant.side;
      same = step.1 ∙ c.loop-best.invariant.same;
    }
