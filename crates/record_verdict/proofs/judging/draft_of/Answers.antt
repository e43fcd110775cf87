use Rattle.std.proofs.Common.{◌∙◌, ◌∷◌, [], ◌++◌, List, take, sym, ap, subst}
use Rattle.std.proofs.lemmas.List.{take_more}
use Rattle.audit_base.specs.declared.records.TradeRecord.{TradeRecord}
use Rattle.matching_core.specs.DealsDraft.{IsDealsDraft}
use Rattle.record_verdict.proofs.judging.draft_of.Goals as goal

pub loop-trade-preserved : goal.loop-trade-preserved
loop-trade-preserved g c =
    let more = ap (λ (t : TradeRecord). take c.loop-trade.trade-index c.args.trades.now ++ t ∷ []) c.trade-item.is ∙ sym (take_more c.args.trades.now c.loop-trade.trade-index c.trade-item.result c.loop-trade-test.true) in
    subst (λ (trades : List TradeRecord). IsDealsDraft g.M.HistoryGhost.symbol g.M.HistoryGhost.orders c.take.new.self trades) more (c.in_ok-take.ensures (take c.loop-trade.trade-index c.args.trades.now) c.loop-trade.invariant)
