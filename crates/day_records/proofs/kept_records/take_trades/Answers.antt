use Rattle.std.proofs.Common.{◌≡◌, ℕ, List, take, subst, arith}
use Rattle.std.proofs.lemmas.List.{take_all}
use Rattle.audit_base.specs.declared.records.TradeRecord.{TradeRecord}
use Rattle.day_records.specs.KeptRecords.{KnowsTrades}
use Rattle.day_records.proofs.ReplayLemmas.{no-trades-yet, trades-next}
use Rattle.day_records.proofs.kept_records.take_trades.Goals as goal

pub loop-index-init : goal.loop-index-init
loop-index-init c = no-trades-yet c.args.known.now

pub loop-index-preserved : goal.loop-index-preserved
loop-index-preserved c = trades-next c.args.trades.now.trades c.loop-index.index c.at-place.result.0 c.at-place.result.1 c.args.known.now c.loop-index.known c.take.new.self c.at-place.ensures c.in_ok-take.ensures c.loop-index.invariant

pub returns : goal.returns
returns c =
    let whole : take c.loop-index.index c.args.trades.now.trades ≡ c.args.trades.now.trades = take_all c.loop-index.index c.args.trades.now.trades (omega arith) in
    subst (λ (listed : List (ℕ × TradeRecord)). KnowsTrades listed c.args.known.now c.loop-index.known) whole c.loop-index.invariant
