use Rattle.std.proofs.Common.{◌∙◌, ap, sym, subst, ℕ, Option, IfSome}
use Rattle.call_offences.specs.DealOffences.{IsOrderOnSide}
use Rattle.continuous_offences.specs.Crossing.{crossing_of}
use Rattle.continuous_offences.specs.StateAfterDeals.{orders_of}
use Rattle.continuous_offences.specs.Passing.{side_against}
use Rattle.continuous_offences.proofs.crossing.crossing_offence.Goals as goal

pub met-requires-clause-other : goal.met-requires-clause-other
met-requires-clause-other c = (subst (λ (o : Option ℕ). IfSome o (IsOrderOnSide (orders_of c.args.dealt.now) (side_against c.args.dealt.now))) c.in-Some.is c.requires.other).inside

pub returns-in-Some : goal.returns-in-Some
returns-in-Some c = c.met.ensures ∙ ap (crossing_of c.args.dealt.now c.args.same) (sym c.in-Some.is)

pub returns-in-None : goal.returns-in-None
returns-in-None c = ap (crossing_of c.args.dealt.now c.args.same) (sym c.in-None.is)
