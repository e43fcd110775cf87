-- Lots along ranks: one more of them, and what they add up to.
use Rattle.std.proofs.Common.{◌≡◌, ◌≤◌, ◌<◌, ◌+◌, ◌-◌, ◌^◌, ℕ, zero, suc, List, [], ◌∷◌, ◌++◌, length, get_or, refl, sym, ap, ◌∙◌, arith, inl, inr, sum_by, add-one}
use Rattle.std.specs.Prelude.{min}
use Rattle.std.proofs.lemmas.Bool.{cases_eq}
use Rattle.std.proofs.lemmas.List.{get_or_append_left, get_or_push, length_push, take_all}
use Rattle.std.proofs.lemmas.List.Elements.{All-nil, All-push}
use Rattle.std.proofs.lemmas.List.Sums.{sum_by_more}
use Rattle.audit_base.specs.declared.orders.Order.{Order}
use Rattle.audit_base.specs.Orders.{order_at, quantity_at}
use Rattle.unit_pairs.specs.declared.lots.Lot.{Lot}
use Rattle.unit_pairs.specs.Lots.{lot_past_end, lot_at, lots_before, lots_total, rank_quantity_before, lot_of, IsLot, AreLotsOf}

abbrev pub lot : ℕ → ℕ → Lot
lot order quantity = record { order = order; quantity = quantity }

-- the first ranks are filled, so far
pub record AreFilled (orders : List Order) (ranks : List ℕ) (volume : ℕ) (lots : List Lot) (left n : ℕ) : Type 0 where
  pub count : length lots ≡ n
  pub are : AreLotsOf orders ranks volume lots
  pub rest : left ≡ volume - rank_quantity_before orders ranks n

module _ (orders : List Order) (ranks : List ℕ) (volume : ℕ) where
  pub none-filled : AreFilled orders ranks volume [] volume 0
  none-filled = record {
    count = refl;
    are = record { bounded = omega arith; each = All-nil IsLot; first = λ k lt. absurd (omega arith) };
    rest = omega arith;
  }

  -- one more rank is filled
  pub one-filled : (lots : List Lot) (left n quantity : ℕ) (o : Order) → n < length ranks → get_or ranks n 0 < length orders → o ≡ order_at orders (get_or ranks n 0)
      → AreFilled orders ranks volume lots left n → 0 < quantity → quantity ≤ 10 ^ 12 → quantity ≡ min o.quantity left
      → AreFilled orders ranks volume (lots ++ record { order = get_or ranks n 0; quantity = quantity } ∷ []) (left - quantity) (n + 1)
  one-filled lots left n quantity o lt inside at f some most is =
      let rank = get_or ranks n 0 in
      let old = f.are in
      let count : length lots ≡ n = f.count in
      let l : Lot = record { order = rank; quantity = quantity } in
      let more : rank_quantity_before orders ranks (n + 1) ≡ rank_quantity_before orders ranks n + quantity_at orders (get_or ranks n 0) = sum_by_more (quantity_at orders) ranks n 0 lt in
      let here : o.quantity ≡ quantity_at orders rank = ap (λ (p : Order). p.quantity) at in
      let rest = f.rest in
      record {
        count = length_push lots l ∙ ap (λ k. k + 1) count;
        are = record {
          bounded = omega (arith, length_push lots l);
          each = All-push IsLot lots l old.each (record { positive = some; bounded = most });
          first = λ k below. elim (cases_eq k (length lots)) [
            | inl e ↦
                let same : k ≡ n = e ∙ count in
                let full : quantity ≡ min (quantity_at orders rank) (volume - rank_quantity_before orders ranks n) = omega arith in
                get_or_push lots l lot_past_end k (sym e) ∙ ap (lot rank) full ∙ ap (lot_of orders ranks volume) (sym same)
            | inr ne ↦
                let inside : k < length lots = omega (arith, ne, length_push lots l) in
                get_or_append_left lots (l ∷ []) lot_past_end k inside ∙ old.first k inside
          ];
        };
        rest = omega arith;
      }

  -- the first lots fill the volume as far as the first ranks do
  pub filled-before : (lots : List Lot) → AreLotsOf orders ranks volume lots → (k : ℕ) → k ≤ length lots → lots_before lots k ≡ min volume (rank_quantity_before orders ranks k)
  filled-before lots h zero le = omega arith
  filled-before lots h (suc k) le =
      let rest : lots_before lots k ≡ min volume (rank_quantity_before orders ranks k) = filled-before lots h k (omega arith) in
      let few = h.bounded in
      let lot : (lot_at lots k).quantity ≡ min (quantity_at orders (get_or ranks k 0)) (volume - rank_quantity_before orders ranks k) = ap (λ (l : Lot). l.quantity) (h.first k (omega arith)) in
      let a : lots_before lots (k + 1) ≡ lots_before lots k + (lot_at lots k).quantity = sum_by_more (λ (l : Lot). l.quantity) lots k lot_past_end (omega arith) in
      let b : rank_quantity_before orders ranks (k + 1) ≡ rank_quantity_before orders ranks k + quantity_at orders (get_or ranks k 0) = sum_by_more (quantity_at orders) ranks k 0 (omega arith) in
      rw (← add-one k) (omega arith)

  -- so they are the volume where the ranks have that much
  pub filled-total : (lots : List Lot) → AreLotsOf orders ranks volume lots → volume ≤ rank_quantity_before orders ranks (length lots) → lots_total lots ≡ volume
  filled-total lots h enough =
      let whole : lots_before lots (length lots) ≡ lots_total lots = ap (sum_by (λ (l : Lot). l.quantity)) (take_all (length lots) lots (omega arith)) in
      let is : lots_before lots (length lots) ≡ min volume (rank_quantity_before orders ranks (length lots)) = filled-before lots h (length lots) (omega arith) in
      omega arith
