use Rattle.std.proofs.Common.{◌≡◌, ◌∙◌, take, ap, arith}
use Rattle.std.proofs.lemmas.List.{take_all}
use Rattle.day_records.specs.KeptRecords.{times_listed}
use Rattle.day_records.proofs.ReplayLemmas.{times-next}
use Rattle.day_records.proofs.kept_records.times_of.Goals as goal

pub loop-index-preserved : goal.loop-index-preserved
loop-index-preserved c =
    times-next c.args.trades.now.trades c.loop-index.index c.at-listed.result c.loop-index.times.items c.push.new.self.items c.at-listed.ensures c.in_ok-push.ensures.items c.loop-index.invariant

pub returns : goal.returns
returns c =
    let whole : take c.loop-index.index c.args.trades.now.trades ≡ c.args.trades.now.trades = take_all c.loop-index.index c.args.trades.now.trades (omega arith) in
    c.loop-index.invariant ∙ ap times_listed whole
