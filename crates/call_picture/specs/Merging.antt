-- How the steps of a side are made, order by order.
use Rattle.std.specs.Prelude.{◌≡◌, ◌≤◌, ◌+◌, ◌*◌, ◌^◌, ℕ, Bool, ◌==◌, ◌&&◌, List, [], ◌∷◌, ◌++◌, map, slice_index, if◌then◌else◌}
use Rattle.audit_base.specs.Numbers.{greatest_quantity}
use Rattle.audit_base.specs.declared.terms.Side.{Side}
use Rattle.audit_base.specs.declared.orders.Order.{Order}
use Rattle.audit_base.specs.declared.orders.Deal.{Deal}
use Rattle.audit_base.specs.Deals.{number_at}
use Rattle.audit_base.specs.Orders.{limit_at, quantity_at}
use Rattle.call_picture.specs.declared.steps.SideStep.{SideStep}
use Rattle.call_picture.specs.Steps.{AreGroups, step_of_group}

-- the step of one order
abbrev pub step_of_order : List Order → List ℕ → ℕ → SideStep
step_of_order orders traded order = record {
  best = order;
  orders = 1;
  limit = limit_at orders order;
  quantity = quantity_at orders order;
  traded = slice_index traded order;
}

-- two steps are drawn as one
abbrev pub are_one_step : Bool → SideStep → SideStep → Bool
are_one_step by_limit step next = by_limit && (step.limit == next.limit)

-- the two as one
abbrev pub joined_step : SideStep → SideStep → SideStep
joined_step step next = record step {
  orders = step.orders + next.orders;
  quantity = step.quantity + next.quantity;
  traded = step.traded + next.traded;
}

-- the step that is made after the next one, and the finished ones before it
abbrev pub next_step : Bool → SideStep → SideStep → SideStep
next_step by_limit step next =
    if are_one_step by_limit step next then joined_step step next else next

abbrev pub finished_steps : Bool → List SideStep → SideStep → SideStep → List SideStep
finished_steps by_limit steps step next =
    if are_one_step by_limit step next then steps else steps ++ step ∷ []

-- no order has traded more than a list of deals can add up to
abbrev pub AreTotalsSmall : List ℕ → Type 0
AreTotalsSmall traded = (order : ℕ) → number_at traded order ≤ 2 ^ 72

-- the numbers of a step of so many orders are no greater than these can make them
pub record IsStepSmall (count : ℕ) (step : SideStep) : Type 0 where
  pub few : step.orders ≤ count
  pub bounded : step.quantity ≤ count * greatest_quantity
  pub small : step.traded ≤ count * 2 ^ 72

-- of the ranked orders so far, the finished steps, and the one that is made
pub record AreStepsSoFar (orders : List Order) (deals : List Deal) (side : Side) (by_limit : Bool)
    (ranks : List ℕ) (steps : List SideStep) (step : SideStep) : Type 0 where
  pub groups : List (List ℕ)
  pub last : List ℕ
  pub cut : AreGroups orders side by_limit ranks (groups ++ last ∷ [])
  pub finished : steps ≡ map (step_of_group orders deals) groups
  pub made : step ≡ step_of_group orders deals last
