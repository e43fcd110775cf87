use Rattle.std.proofs.Common.{◌≡◌, ◌+◌, ◌∙◌, ap, add-one, sym, suc, ℕ, false, arith}
use Rattle.continuous_offences.specs.Books.{waits}
use Rattle.continuous_offences.specs.StateAfterDeals.{deals_of, orders_of, place_of}
use Rattle.continuous_offences.proofs.EnterLemmas.{books-skipped, waits-left}
use Rattle.continuous_offences.proofs.state.enter.Goals as goal

pub enter-requires-clause-some : goal.enter-requires-clause-some
enter-requires-clause-some c =
    let d = c.args.dealt.now in
    let some = waits-left (orders_of d) (deals_of d) (c.place-next.result + 1) (suc (place_of d)) d.order (sym c.rests.ensures ∙ c.if-rests.true) in
    let left = c.left.ensures in
    omega arith

pub returns-else-rests : goal.returns-else-rests
returns-else-rests c =
    let d = c.args.dealt.now in
    let next : c.place-next.result + 1 ≡ suc (place_of d) = add-one _ ∙ ap suc c.place-next.ensures.same in
    let off : waits (orders_of d) (deals_of d) (suc (place_of d)) (suc (place_of d)) d.order ≡ false =
    ap (λ (p : ℕ). waits (orders_of d) (deals_of d) p (suc (place_of d)) d.order) (sym next) ∙ sym c.rests.ensures ∙ c.if-rests.false in
    books-skipped (orders_of d) (deals_of d) d.order (suc (place_of d)) (suc (place_of d)) c.args.books.now off c.requires.books
