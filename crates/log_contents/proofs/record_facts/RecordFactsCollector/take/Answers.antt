use Rattle.std.proofs.Common.{refl}
use Rattle.log_contents.proofs.FactLemmas.{facts-more}
use Rattle.log_contents.proofs.record_facts.RecordFactsCollector.take.Goals as goal

pub returns : goal.returns
returns g c = λ list has. facts-more _ _ _ _ list c.args.entry _ _ c.symbol.ensures c.made_at.ensures has refl (c.in_ok-meet.ensures.meets _ has.symbols) (c.span_with.ensures _ has.times)
