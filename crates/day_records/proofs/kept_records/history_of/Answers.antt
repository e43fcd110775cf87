use Rattle.std.proofs.Common.{◌≡◌, ℕ, List, take, subst, arith}
use Rattle.std.proofs.lemmas.List.{take_all}
use Rattle.audit_base.specs.declared.records.OrderRecord.{OrderRecord}
use Rattle.day_records.specs.KeptRecords.{KnowsHistory}
use Rattle.day_records.proofs.ReplayLemmas.{few-before, history-next, no-history}
use Rattle.day_records.proofs.kept_records.history_of.Goals as goal

pub loop-index-init : goal.loop-index-init
loop-index-init c = no-history c.new-history.result c.new-history.ensures

pub take-requires : goal.take-requires
take-requires c = few-before c.args.orders.now c.loop-index.index c.at-place.result.0 c.at-place.result.1 c.loop-index.history c.requires c.at-place.ensures c.loop-index.invariant

pub loop-index-preserved : goal.loop-index-preserved
loop-index-preserved c = history-next c.args.orders.now.entries c.loop-index.index c.at-place.result.0 c.at-place.result.1 c.loop-index.history c.take.new.self c.at-place.ensures c.in_ok-take.ensures c.loop-index.invariant

pub returns : goal.returns
returns c =
    let whole : take c.loop-index.index c.args.orders.now.entries ≡ c.args.orders.now.entries = take_all c.loop-index.index c.args.orders.now.entries (omega arith) in
    subst (λ (records : List (ℕ × OrderRecord)). KnowsHistory records c.loop-index.history) whole c.loop-index.invariant
