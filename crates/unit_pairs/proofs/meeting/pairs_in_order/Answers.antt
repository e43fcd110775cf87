use Rattle.std.proofs.Common.{rules}
use Rattle.audit_base.proofs.SortedPairLemmas.{sorted-in_order}
use Rattle.unit_pairs.specs.declared.meeting.UnitPair.{UnitPair}
use Rattle.unit_pairs.proofs.PairLemmas.{pairs-moved}
use Rattle.unit_pairs.proofs.meeting.pairs_in_order.Goals as goal

pub returns-clause-pairs : goal.returns-clause-pairs
returns-clause-pairs c = pairs-moved c.args.bids.now c.args.asks.now c.in_ok-pairs.pairs.items c.sort.new.self.items c.sort.ensures.permutation c.in_ok-pairs.ensures.pairs

pub returns-clause-in_order : goal.returns-clause-in_order
returns-clause-in_order c = sorted-in_order (λ (p : UnitPair). p.bid) (λ (p : UnitPair). p.ask) (λ (p : UnitPair). p.quantity) c.in_ok-pairs.pairs.items c.sort.new.self.items c.sort.ensures.permutation c.in_ok-pairs.ensures.differ (λ k d lt. search rules)
