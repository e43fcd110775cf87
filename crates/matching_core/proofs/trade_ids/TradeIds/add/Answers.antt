use Rattle.std.proofs.Common.{◌∙◌, List, ℕ, sym, ap}
use Rattle.std.specs.Option.{option_or}
use Rattle.matching_core.specs.IdOrder.{rising_place_of_id}
use Rattle.matching_core.specs.MappedIds.{mapped_place_of_id}
use Rattle.matching_core.proofs.RisingLemmas.{above-new, adds-rising}
use Rattle.matching_core.proofs.trade_ids.TradeIds.add.Goals as goal

pub returns-then-are_below-clause-earlier : goal.returns-then-are_below-clause-earlier
returns-then-are_below-clause-earlier c =
    let above = sym c.are_below.ensures ∙ c.if-are_below.true in
    sym (above-new c.args.self.now.rising (mapped_place_of_id c.args.self.now.mapped) c.args.id.now above (c.args.self.now.apart c.args.id.now above))

pub returns-then-are_below-clause-adds : goal.returns-then-are_below-clause-adds
returns-then-are_below-clause-adds c = λ other.
    let above = sym c.are_below.ensures ∙ c.if-are_below.true in
    let mapped = mapped_place_of_id c.args.self.now.mapped in
    ap (λ (es : List (List ℕ × ℕ)). option_or (mapped other) (rising_place_of_id es other)) c.in_ok-push.ensures.adds
    ∙ adds-rising mapped c.args.self.now.rising c.args.id.now c.args.place above (c.args.self.now.apart c.args.id.now above) other
