use Rattle.std.proofs.Common.{◌-◌, ◌≡◌, ◌≤◌, Result, Ok, Err, refl, subst, length, drop, take, ap, ◌∙◌, arith}
use Rattle.std.specs.Prelude.{OnOk}
use Rattle.std.proofs.lemmas.List.{length-append, length-drop, length-take-le, take_all}
use Rattle.log_source.specs.Handing.{HandsOnMore}
use Rattle.fix_days.specs.Messages.{IsMessagesOf}
use Rattle.fix_days.proofs.StartLemmas.{first-fed}
use Rattle.fix_days.proofs.framed.FramedFeed.take_first.Goals as goal

-- what follows from two facts of a call that succeeds
on_both : {T E : Type 0} (result : Result T E) (P Q R : Type 0) → OnOk result P → OnOk result Q → (P → Q → R) → OnOk result R
on_both (Ok value) P Q R p q goes = goes p q
on_both (Err why) P Q R p q goes = tt

pub returns : goal.returns
returns g c =
    let count = c.min-count.result in
    let piece = c.args.piece.now in
    let within : count ≤ length piece = omega arith in
    let fed = c.in_ok-extend_from_slice.ensures.items in
    let rest : take (length piece - count) (drop count piece) ≡ drop count piece = take_all (length piece - count) (drop count piece) (omega (arith, length-drop count piece)) in
    let size = ap length fed ∙ length-append c.args.self.now.front.items (take count piece) in
    let taken = length-take-le count piece within in
    let three : length c.extend_from_slice.new.self.items ≡ 3 = omega (arith, size, taken, c.if-len-lt3.false, c.requires.short) in
    on_both c.feed.result _ _ _ c.feed.ensures.stands c.feed.ensures.start (λ hands same day stands.
    first-fed g.B.Bodies.has_taken c.args.self.now (record c.args.self.now { front = c.extend_from_slice.new.self }) c.begin.new.self (record c.begin.new.self { messages = c.feed.new.self }) piece count c.requires.short within fed three
    c.in_ok-begin.ensures refl (subst (HandsOnMore (IsMessagesOf g.B.Bodies.has_taken c.begin.new.self.messages) (IsMessagesOf g.B.Bodies.has_taken c.feed.new.self)) rest hands) same day stands)
