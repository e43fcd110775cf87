use Rattle.std.proofs.Common.{ap, ◌∙◌, arith}
use Rattle.std.proofs.lemmas.Nat.{div-mul-add, mod-mul-add}
use Rattle.order_list.specs.KeptSeen.{side_from, index_from}
use Rattle.order_list.proofs.KeyLemmas.{side-back}
use Rattle.order_list.proofs.kept_seen.KeptSeen.of.Goals as goal

pub returns : goal.returns
returns c = λ i. record {
  place = c.args.seen.place;
  side = (ap side_from (mod-mul-add c.in_ok-index.index 4 c.side_number.result (omega (arith, c.side_number.ensures.small)) ∙ c.side_number.ensures.same) ∙ side-back c.args.seen.side) i;
  index = (ap index_from (div-mul-add c.in_ok-index.index 4 c.side_number.result (omega (arith, c.side_number.ensures.small))) ∙ c.in_ok-index.ensures.same) i;
}
