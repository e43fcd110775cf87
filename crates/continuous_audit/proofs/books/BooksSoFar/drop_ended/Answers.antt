use Rattle.std.proofs.Common.{◌<◌, ◌∙◌, ℕ, inl, inr, subst, sym, arith}
use Rattle.std.proofs.lemmas.Bool.{cases_eq}
use Rattle.continuous_audit.specs.Endings.{ending_past_end, ending_place_at, ending_index_at}
use Rattle.continuous_audit.specs.Books.{books_without_order}
use Rattle.continuous_audit.proofs.EndingLemmas.{standing-first, standing-read, fewer-read}
use Rattle.continuous_audit.proofs.books.BooksSoFar.drop_ended.Goals as goal

pub loop-self-init : goal.loop-self-init
loop-self-init c = record {
  from = omega arith;
  inside = c.requires.from;
  before = λ i le lt. absurd (omega arith);
  holds = λ amount h. standing-first c.args.orders.now c.args.endings.now c.args.self.now.start amount c.args.self.now.books h;
  fewer = omega arith;
}

pub loop-self-preserved : goal.loop-self-preserved
loop-self-preserved c = record {
  from = let l = c.loop-self.invariant.from in omega arith;
  inside = omega arith;
  before = λ i le lt. elim (cases_eq i c.loop-self.self.start) [
    | inl e ↦ subst (λ (j : ℕ). ending_place_at c.args.endings.now j < c.args.upto) (sym e) c.if-upto-ending.false
    | inr ne ↦ c.loop-self.invariant.before i le (omega (arith, ne))
  ];
  holds = λ amount h.
      let inside = (c.requires.inside c.loop-self.self.start ending_past_end c.loop-self-test.true).inside in
      let cancelled = c.cancel.ensures ∙ (λ i. books_without_order (c.side.ensures i) (ending_index_at c.args.endings.now c.loop-self.self.start) (c.limit.ensures i) c.loop-self.self.books) in
      standing-read c.args.orders.now c.args.endings.now c.args.self.now.start c.loop-self.self.start amount c.loop-self.self.books c.cancel.new.self c.at-order.result c.loop-self.invariant.from inside c.at-order.ensures cancelled (c.loop-self.invariant.holds amount h);
  fewer =
      let less = fewer-read _ _ _ c.loop-self.self.books c.cancel.new.self c.cancel.ensures in
      let before = c.loop-self.invariant.fewer in
      omega arith;
}
