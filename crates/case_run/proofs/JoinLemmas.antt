-- Two parts of a call, one after the other: what both keep the whole keeps.
use Rattle.std.proofs.Common.{◌∙◌, arith}
use Rattle.case_keeper.specs.Keepers.{KeeperState}
use Rattle.log_source.specs.declared.shelf.Shelf.{Ghosts as Shelf}
use Rattle.log_source.specs.Sinks.{SinkState, SinkStays}
use Rattle.case_run.specs.Turns.{KeepsAll}

pub Stays_trans : (a b c : SinkState) → SinkStays a b → SinkStays b c → SinkStays a c
Stays_trans a b c p q = record { tells = q.tells ∙ p.tells; sure = q.sure ∙ p.sure; later = omega (arith, p.later, q.later) }

-- two parts of a call that keep all keep all in the whole
pub keeps_both : {S : Type 0} (shelf : Shelf S) (a b c : S) (sink_a sink_b sink_c : SinkState) (keeper_a keeper_b keeper_c : KeeperState)
    → KeepsAll shelf a b sink_a sink_b keeper_a keeper_b → KeepsAll shelf b c sink_b sink_c keeper_b keeper_c → KeepsAll shelf a c sink_a sink_c keeper_a keeper_c
keeps_both shelf a b c sink_a sink_b sink_c keeper_a keeper_b keeper_c x y = record {
  logs = record { tells = y.logs.tells ∙ x.logs.tells; logs = λ log name. y.logs.logs log name ∙ x.logs.logs log name };
  later = λ log. omega (arith, x.later log, y.later log);
  sink = Stays_trans sink_a sink_b sink_c x.sink y.sink;
  keeper = omega (arith, x.keeper, y.keeper);
}
