-- A sum over an order list, one order further.
use Rattle.std.proofs.Common.{◌≡◌, ◌<◌, ◌≤◌, ◌+◌, ◌^◌, ◌∙◌, ℕ, List, length, sum_by, refl, sym, ap, arith}
use Rattle.std.proofs.lemmas.List.{take_all}
use Rattle.std.proofs.lemmas.List.Sums.{sum_by_more}
use Rattle.audit_base.specs.declared.orders.Order.{Order}
use Rattle.audit_base.specs.Orders.{order_at, order_past_end}
use Rattle.order_list.specs.Sums.{IsSumUpto}

module _ (f : Order → ℕ) (orders : List Order) where
  pub sum-none : IsSumUpto f orders 0 0
  sum-none = record { is = refl; small = omega arith }

  -- in the words of the code: the order that it reads, and the number of it
  pub sum-more : (n sum : ℕ) (o : Order) (more : ℕ) → n < length orders → o ≡ order_at orders n → more ≡ f o → more < 2 ^ 64
      → IsSumUpto f orders n sum → IsSumUpto f orders (n + 1) (sum + more)
  sum-more n sum o more lt here number under so_far = record {
    is = ap (λ (m : ℕ). sum + m) (number ∙ ap f here) ∙ ap (λ (s : ℕ). s + f (order_at orders n)) so_far.is ∙ sym (sum_by_more f orders n order_past_end lt);
    small = omega (arith, so_far.small);
  }

  pub sum-all : (n sum : ℕ) → length orders ≤ n → IsSumUpto f orders n sum → sum ≡ sum_by f orders
  sum-all n sum end so_far = so_far.is ∙ ap (sum_by f) (take_all n orders end)
