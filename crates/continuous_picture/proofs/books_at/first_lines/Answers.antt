use Rattle.std.proofs.Common.{◌≡◌, ◌+◌, ◌++◌, ◌∷◌, [], ◌∙◌, List, Vec, Global, ap, sym, arith, length}
use Rattle.std.proofs.lemmas.List.{length_push}
use Rattle.order_book.specs.declared.books.Resting.{Resting}
use Rattle.continuous_picture.proofs.BookAtLemmas.{front-all, front-few, front-more}
use Rattle.continuous_picture.proofs.books_at.first_lines.Goals as goal

-- one more
added-long : (xs ys : List Resting) (r : Resting) → ys ≡ xs ++ r ∷ [] → length ys ≡ length xs + 1
added-long xs ys r e = ap (λ (zs : List Resting). length zs) e ∙ length_push xs r

vec-long : (v : Vec Resting Global) → v.len ≡ length v.items
vec-long v = omega (arith, v.ok.0)

pub loop-book-preserved : goal.loop-book-preserved
loop-book-preserved c =
    let i = c.loop-book.invariant in
    let best = c.in-Some.best in
    let test = c.loop-book-test.true in
    let long = added-long c.loop-book.lines.items c.push.new.self.items best c.in_ok-push.ensures.items in
    let read = vec-long c.loop-book.lines in
    let counted = c.len.ensures in
    record {
      front = (λ k. c.in_ok-push.ensures.items k ++ (c.cancel.ensures.gone k).resting) ∙ front-more c.loop-book.book.resting c.loop-book.lines.items best c.args.book.now.resting (sym c.best.ensures.best ∙ c.in-Some.is) i.front;
      few = omega arith;
    }

pub loop-book-smaller : goal.loop-book-smaller
loop-book-smaller c =
    let test = c.loop-book-test.true in
    let long = added-long c.loop-book.lines.items c.push.new.self.items c.in-Some.best c.in_ok-push.ensures.items in
    let read = vec-long c.loop-book.lines in
    let counted = c.len.ensures in
    omega arith

pub returns-in_default : goal.returns-in_default
returns-in_default c =
    let i = c.loop-book.invariant in
    front-few c.loop-book.book.resting c.loop-book.lines.items c.args.book.now.resting 10 i.front i.few (sym c.best.ensures.best ∙ c.in_default.is)

pub returns : goal.returns
returns c =
    let i = c.loop-book.invariant in
    let few = i.few in
    let past = c.loop-book-test.false in
    let read = vec-long c.loop-book.lines in
    let counted = c.len.ensures in
    front-all c.loop-book.book.resting c.loop-book.lines.items c.args.book.now.resting 10 i.front (omega arith)
