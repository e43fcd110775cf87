-- Under a rule that asks for a greatest volume, the volume and what each order trades are the same in each conforming list of deals.
use Rattle.std.proofs.Common.{◌≡◌, ℕ, List, refl, ◌∙◌, arith, subst}
use Rattle.audit_base.specs.declared.terms.VolumeRule.{VolumeRule}
use Rattle.audit_base.specs.declared.terms.VolumeRule.TheVariants as of_volume
use Rattle.audit_base.specs.RuleKinds.{rule_of_volume}
use Rattle.audit_base.specs.declared.orders.Order.{Order}
use Rattle.audit_base.specs.declared.orders.Deal.{Deal}
use Rattle.audit_base.specs.Deals.{volume, DealsInRange}
use Rattle.audit_base.specs.Calls.{Matching, Fair}
use Rattle.audit_base.specs.Rules.{Conforms, Only}
use Rattle.audit_base.specs.CallOffences.{IsGreatestUnder}
use Rattle.call_laws.specs.Laws.{OnlyQuantities, DueByRank}
use Rattle.call_laws.proofs.FairLemmas.{fair-fills, fair-volume-fixes}

pub conforms-fair : (r : VolumeRule) (orders : List Order) (deals : List Deal) → Conforms (rule_of_volume r) orders deals → Matching orders deals × Fair orders deals
conforms-fair of_volume.Uniform orders deals c = (c.matching, c.fair)
conforms-fair of_volume.Maximum orders deals c = (c.matching, c.fair)

-- what conforms has the greatest volume that the rule allows
pub conforms-greatest : (r : VolumeRule) (orders : List Order) (deals : List Deal) (v : ℕ) → DealsInRange deals → Conforms (rule_of_volume r) orders deals → IsGreatestUnder r orders v → volume deals ≡ v
conforms-greatest of_volume.Uniform orders deals v ranges c g =
    let le = c.greatest g.deals g.ranges g.matching g.one_price in
    let ge = g.greatest deals ranges c.matching c.one_price in
    let e = g.reached in
    omega arith
conforms-greatest of_volume.Maximum orders deals v ranges c g =
    let le = c.greatest g.deals g.ranges g.matching in
    let ge = g.greatest deals ranges c.matching in
    let e = g.reached in
    omega arith

-- and the other way round its volume is that greatest one
pub greatest-conforms : (r : VolumeRule) (orders : List Order) (deals : List Deal) → DealsInRange deals → Conforms (rule_of_volume r) orders deals → IsGreatestUnder r orders (volume deals)
greatest-conforms of_volume.Uniform orders deals ranges c = record { deals = deals; ranges = ranges; matching = c.matching; one_price = c.one_price; greatest = c.greatest; reached = refl }
greatest-conforms of_volume.Maximum orders deals ranges c = record { deals = deals; ranges = ranges; matching = c.matching; greatest = c.greatest; reached = refl }

-- so what each order trades is the same in all that conform
pub only-quantities : OnlyQuantities
only-quantities r orders deals list ranges c i = record {
  some = deals;
  ranges = ranges;
  conforms = c;
  each = λ others range d.
      let m = conforms-fair r orders deals c in
      let n = conforms-fair r orders others d in
      fair-volume-fixes orders others deals list n.0 n.1 m.0 m.1 (conforms-greatest r orders others (volume deals) range d (greatest-conforms r orders deals ranges c)) i;
}

-- and it is what the better ones leave, up to its quantity
pub due-by_rank : DueByRank
due-by_rank r orders deals list ranges c v e side i s =
    let m = conforms-fair r orders deals c in
    subst (Only (rule_of_volume r) orders i) (fair-fills orders deals list m.0 m.1 side i s ∙ rw e refl) (only-quantities r orders deals list ranges c i)
