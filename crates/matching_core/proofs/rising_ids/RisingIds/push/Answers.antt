use Rattle.std.proofs.Common.{◌∙◌, List, ℕ, ap}
use Rattle.matching_core.specs.IdOrder.{is_above_ids}
use Rattle.matching_core.specs.RisingIds.{ids_with_places}
use Rattle.matching_core.proofs.RisingLemmas.{rises-after}
use Rattle.matching_core.proofs.rising_ids.RisingIds.push.Goals as goal

pub invariant_of-self : goal.invariant_of-self
invariant_of-self c = record {
  inside = c.append.ensures.inside;
  rises = rises-after (ids_with_places c.self.inside.bytes.items c.self.inside.ids.items) (ids_with_places c.append.new.bytes.items c.append.new.ids.items) c.args.id.now c.args.place c.append.result
      c.self.invariant.rises (ap (λ (es : List (List ℕ × ℕ)). is_above_ids es c.args.id.now) c.self.view_is ∙ c.requires) c.append.ensures.adds c.append.ensures.stays;
}
