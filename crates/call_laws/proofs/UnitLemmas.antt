-- How many units of a bid and an ask meet: the overlap of two intervals of units.
use Rattle.std.proofs.Common.{◌≡◌, ◌<◌, ◌+◌, ◌-◌, ℕ, zero, suc, List, ap, ◌∙◌, arith, inl, inr, Bool}
use Rattle.std.specs.Prelude.{◌&&◌, min, max, nat_lt, nat_le}
use Rattle.std.proofs.lemmas.Bool.{cases_lt, and_from, and_left, and_right, le-leb, lt-leb, lt-ltb, le-ltb}
use Rattle.audit_base.specs.declared.terms.Side.TheVariants.{Buy, Sell}
use Rattle.audit_base.specs.declared.orders.Order.{Order}
use Rattle.audit_base.specs.Sums.{count_upto, one_if}
use Rattle.audit_base.specs.Orders.{quantity_at}
use Rattle.audit_base.specs.Units.{total_quantity_ahead, has_unit, uniform_units, maximum_units}

-- of the numbers from 1 to n, those above lo and up to hi
pub count-interval : (test : ℕ → Bool) (lo hi n : ℕ) → ((k : ℕ) → k < n → test (k + 1) ≡ (nat_le lo k && nat_lt k hi)) → count_upto test n ≡ min n hi - lo
count-interval test lo hi zero h = omega arith
count-interval test lo hi (suc n) h =
    let rest : count_upto test n ≡ min n hi - lo = count-interval test lo hi n (λ k lt. h k (omega arith)) in
    let e : test (n + 1) ≡ (nat_le lo n && nat_lt n hi) = h n (omega arith) in
    elim (cases_lt n lo) [
      | inl low ↦
          let none : one_if (test (n + 1)) ≡ 0 = ap one_if (e ∙ and_left _ _ (lt-leb lo n low)) in
          omega arith
      | inr from ↦ elim (cases_lt n hi) [
        | inl inside ↦
            let one : one_if (test (n + 1)) ≡ 1 = ap one_if (e ∙ and_from _ _ (le-leb lo n from) (lt-ltb n hi inside)) in
            omega arith
        | inr past ↦
            let none : one_if (test (n + 1)) ≡ 0 = ap one_if (e ∙ and_right _ _ (le-ltb n hi past)) in
            omega arith
      ]
    ]

both-in : (lo hi from to k : ℕ) → ((nat_lt lo (k + 1) && nat_le (k + 1) hi) && (nat_lt from (k + 1) && nat_le (k + 1) to)) ≡ (nat_le (max lo from) k && nat_lt k (min hi to))
both-in lo hi from to k = grind arith

-- a number counted from v down lies in an interval where k lies in the mirrored one
mirrored-above : (v lo k : ℕ) → k < v → nat_lt lo (v + 1 - (k + 1)) ≡ nat_lt k (v - lo)
mirrored-above v lo k lt = grind arith

mirrored-upto : (v hi k : ℕ) → k < v → nat_le (v + 1 - (k + 1)) hi ≡ nat_le (v - hi) k
mirrored-upto v hi k lt = grind arith

in-both : (lo hi from to k : ℕ) → ((nat_lt k hi && nat_le lo k) && (nat_lt from (k + 1) && nat_le (k + 1) to)) ≡ (nat_le (max lo from) k && nat_lt k (min hi to))
in-both lo hi from to k = grind arith

mirrored-in : (v lo hi from to k : ℕ) → k < v
    → ((nat_lt lo (v + 1 - (k + 1)) && nat_le (v + 1 - (k + 1)) hi) && (nat_lt from (k + 1) && nat_le (k + 1) to)) ≡ (nat_le (max (v - hi) from) k && nat_lt k (min (v - lo) to))
mirrored-in v lo hi from to k lt = rw (mirrored-above v lo k lt, mirrored-upto v hi k lt) (in-both (v - hi) (v - lo) from to k)

-- under `uniform`, of v units: the overlap of the intervals of the bid and of the ask
pub uniform-overlap : (orders : List Order) (v bid ask : ℕ) → uniform_units orders v bid ask
    ≡ min v (min (total_quantity_ahead orders Buy bid + quantity_at orders bid) (total_quantity_ahead orders Sell ask + quantity_at orders ask)) - max (total_quantity_ahead orders Buy bid) (total_quantity_ahead orders Sell ask)
uniform-overlap orders v bid ask =
    let lo = total_quantity_ahead orders Buy bid in let from = total_quantity_ahead orders Sell ask in let hi = lo + quantity_at orders bid in let to = from + quantity_at orders ask in
    count-interval (λ j. has_unit orders Buy bid j && has_unit orders Sell ask j) (max lo from) (min hi to) v (λ k lt. both-in lo hi from to k)

-- under `maximum`: the same, with the bid's interval counted from v down
pub maximum-overlap : (orders : List Order) (v bid ask : ℕ) → maximum_units orders v bid ask
    ≡ min v (min (v - total_quantity_ahead orders Buy bid) (total_quantity_ahead orders Sell ask + quantity_at orders ask)) - max (v - (total_quantity_ahead orders Buy bid + quantity_at orders bid)) (total_quantity_ahead orders Sell ask)
maximum-overlap orders v bid ask =
    let lo = total_quantity_ahead orders Buy bid in let from = total_quantity_ahead orders Sell ask in let hi = lo + quantity_at orders bid in let to = from + quantity_at orders ask in
    count-interval (λ j. has_unit orders Buy bid (v + 1 - j) && has_unit orders Sell ask j) (max (v - hi) from) (min (v - lo) to) v (λ k lt. mirrored-in v lo hi from to k lt)
