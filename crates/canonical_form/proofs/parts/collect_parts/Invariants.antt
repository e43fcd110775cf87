use Rattle.std.proofs.Common.{◌≡◌, map, take}
use Rattle.canonical_form.specs.Parts.{part_of_deal}
use Rattle.canonical_form.proofs.parts.collect_parts.Given as goal

abbrev pub invariant-loop-deal : goal.invariant-loop-deal
invariant-loop-deal l = l.parts.items ≡ map part_of_deal (take l.deal-index l.deals)
