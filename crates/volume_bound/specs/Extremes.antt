-- Which of two prices with their volumes is taken.
use Rattle.std.specs.Prelude.{◌&&◌, ◌||◌, ◌==◌, nat_lt, if◌then◌else◌}
use Rattle.audit_base.specs.declared.orders.Cut.{Cut}

-- the one with the smaller volume, and of equal volumes the one with the lower price
abbrev pub smaller_cut : Cut → Cut → Cut
smaller_cut best other =
    let earlier = other.volume == best.volume && nat_lt other.price best.price in
    if nat_lt other.volume best.volume || earlier then other else best

-- the one with the greater volume, and of equal volumes the one with the lower price
abbrev pub greater_cut : Cut → Cut → Cut
greater_cut best other =
    let earlier = other.volume == best.volume && nat_lt other.price best.price in
    if nat_lt best.volume other.volume || earlier then other else best
