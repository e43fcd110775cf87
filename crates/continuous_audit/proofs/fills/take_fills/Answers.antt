use Rattle.std.proofs.Common.{◌≡◌, ◌∙◌, ◌++◌, ◌∷◌, [], Some, sym, ap, arith, rules}
use Rattle.order_book.specs.Books.{BookSide, after_take}
use Rattle.continuous_audit.specs.Fills.{next_fill}
use Rattle.continuous_audit.proofs.WalkLemmas.{walk-more}
use Rattle.continuous_audit.proofs.fills.take_fills.Goals as goal

pub loop-fill-preserved : goal.loop-fill-preserved
loop-fill-preserved c =
    let f = c.in-Some.fill in
    let e : next_fill c.args.side c.args.limit c.loop-fill.left c.loop-fill.book.resting ≡ Some f = sym c.next_fill.ensures.fill ∙ c.in-Some.is in
    let pushed : c.push.new.self.items ≡ c.loop-fill.fills.items ++ f ∷ [] = search rules in
    let taken : c.take.new.self.resting ≡ after_take f.quantity c.loop-fill.book.resting = ap (λ (b : BookSide). b.resting) c.take.ensures in
    let more = walk-more c.args.side c.args.limit c.loop-fill.left c.loop-fill.book.resting c.take.new.self.resting c.loop-fill.fills.items c.push.new.self.items f e pushed taken in
    let before = c.loop-fill.invariant in
    let within = c.in-Some.ensures.within_size in
    let sum = before.left in
    record {
      side = ap (λ (b : BookSide). b.side) c.take.ensures ∙ before.side;
      fills = more.0 ∙ before.fills;
      rest = more.1 ∙ before.rest;
      left = omega (arith, more.2);
    }
