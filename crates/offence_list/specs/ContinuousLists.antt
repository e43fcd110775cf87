-- Every offence in continuous trading, place by place. What rests, what is left and what an order's
-- Size is follow from the deals as they stand, those of places that failed too.
use Rattle.std.specs.Prelude.{ℕ, Bool, ◌==◌, ◌&&◌, ◌||◌, nat_le, List, [], ◌∷◌, Option, None, length, if◌then◌else◌}
use Rattle.audit_base.specs.declared.terms.Side.TheVariants.{Buy, Sell}
use Rattle.audit_base.specs.declared.orders.Order.{Order}
use Rattle.audit_base.specs.declared.orders.Deal.{Deal}
use Rattle.audit_base.specs.declared.findings.Finding.{Finding}
use Rattle.audit_base.specs.Least.{least_answer, any_below, first_answer}
use Rattle.audit_base.specs.Orders.{place_at, limit_at}
use Rattle.audit_base.specs.ContinuousOffences.{conservation_finding, resting_priority_finding, active_after_on_side, spread_finding}
use Rattle.offence_list.specs.Answers.{answers_below}

-- an active bid and an active ask meet after the record at a place,
-- and one of the two is the order of this record
unfoldable pub order_of_record_meets : List Order → List Deal → ℕ → Bool
order_of_record_meets orders deals place =
    any_below (λ bid. any_below (λ ask.
    active_after_on_side orders deals place Buy bid
    && active_after_on_side orders deals place Sell ask
    && nat_le (limit_at orders ask) (limit_at orders bid)
    && ((place_at orders bid == place) || (place_at orders ask == place)))
    (length orders)) (length orders)

-- finding 15 where the order of the record is one of the two that meet, so that a crossed book is
-- told once, where it crosses: the best active bid and the best active ask are shown
abbrev pub crossing_finding : List Order → List Deal → ℕ → Option Finding
crossing_finding orders deals place =
    if order_of_record_meets orders deals place then spread_finding orders deals place else None

-- the offence at a place: the first of the three parts of First offence (continuous) that tells a
-- finding there, if one does
abbrev pub offence_at_place : List Order → List Deal → ℕ → Option Finding
offence_at_place orders deals place =
    first_answer (least_answer (conservation_finding orders deals place) (length deals)
    ∷ least_answer (resting_priority_finding orders deals place) (length deals)
    ∷ crossing_finding orders deals place ∷ [])

-- the offences at the places of the orders, in order of their places, which rise along the order
-- list. A place of no order of the list has no offence
unfoldable pub continuous_offences : List Order → List Deal → List Finding
continuous_offences orders deals =
    answers_below (λ order. offence_at_place orders deals (place_at orders order)) (length orders)
