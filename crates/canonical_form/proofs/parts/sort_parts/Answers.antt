use Rattle.canonical_form.proofs.PartLemmas.{sorted-parts}
use Rattle.canonical_form.proofs.parts.sort_parts.Goals as goal

pub returns-clause-count : goal.returns-clause-count
returns-clause-count c = (sorted-parts c.args.deals.now c.in_ok-parts.parts.items c.sort.new.self.items c.in_ok-parts.ensures c.deals_in_range.ensures c.sort.ensures.permutation).0

pub returns-clause-each : goal.returns-clause-each
returns-clause-each c = (sorted-parts c.args.deals.now c.in_ok-parts.parts.items c.sort.new.self.items c.in_ok-parts.ensures c.deals_in_range.ensures c.sort.ensures.permutation).1

pub returns-clause-sums : goal.returns-clause-sums
returns-clause-sums c = (sorted-parts c.args.deals.now c.in_ok-parts.parts.items c.sort.new.self.items c.in_ok-parts.ensures c.deals_in_range.ensures c.sort.ensures.permutation).2
