-- The words of continuous trading satisfy the sentences that define them, on an order list, in which each target is a lower index.
use Rattle.std.proofs.Common.{◌≡◌, ◌<◌, ◌+◌, ℕ, zero, suc, List, [], ◌∷◌, length, Bool, Option, Some, None, refl, ap, ◌∙◌, arith, sum_by}
use Rattle.std.specs.Prelude.{◌&&◌, not}
use Rattle.std.proofs.lemmas.List.Sums.{sum_by-cons}
use Rattle.audit_base.specs.declared.orders.Order.{Order}
use Rattle.audit_base.specs.Orders.{order_at, place_at, IsOrderList}
use Rattle.audit_base.specs.Continuous.{chain_within, chain, chain_traded_in_ledger, entered_within, entered_in_ledger, is_cancelled_at_place, size_where_entered, size_in_ledger, rests_before_where_entered, rests_before_in_ledger}

-- all that a list of targets needs to say of one target: it is below a number of steps
abbrev pub IsBelow : Option ℕ → ℕ → Type 0
IsBelow target n = (t : ℕ) → target ≡ Some t → t < n

module _ (orders : List Order) (list : IsOrderList orders) where
  pub target-below : (i : ℕ) → i < length orders → IsBelow (order_at orders i).target i
  target-below i lt t e = (list.targets i t lt e).0

  -- more steps change nothing
  pub chain-steps : (m n : ℕ) (target : Option ℕ) → IsBelow target m → IsBelow target n → IsBelow target (length orders) → chain_within m orders target ≡ chain_within n orders target
  chain-steps zero zero target a b c = refl
  chain-steps zero (suc n) None a b c = refl
  chain-steps zero (suc n) (Some t) a b c = let lt = a t refl in absurd (omega arith)
  chain-steps (suc m) zero None a b c = refl
  chain-steps (suc m) zero (Some t) a b c = let lt = b t refl in absurd (omega arith)
  chain-steps (suc m) (suc n) None a b c = refl
  chain-steps (suc m) (suc n) (Some t) a b c =
      let in_m = a t refl in
      let in_n = b t refl in
      let inside = c t refl in
      let back = target-below t inside in
      let rest : chain_within m orders (order_at orders t).target ≡ chain_within n orders (order_at orders t).target =
      chain-steps m n (order_at orders t).target (λ u e. let lt = back u e in omega arith) (λ u e. let lt = back u e in omega arith) (λ u e. let lt = back u e in omega arith) in
      ap (λ (ts : List ℕ). t ∷ ts) rest

  -- the chain of an order with no target is empty; else it is the target, followed by the target's chain
  pub chain-none : (i : ℕ) → (order_at orders i).target ≡ None → chain orders i ≡ []
  unfolding chain
  chain-none i e = ap (λ (t : Option ℕ). chain_within (suc i) orders t) e

  pub chain-some : (i t : ℕ) → i < length orders → (order_at orders i).target ≡ Some t → chain orders i ≡ t ∷ chain orders t
  unfolding chain
  chain-some i t lt e =
      let lower = target-below i lt t e in
      let back = target-below t (omega arith) in
      let rest : chain_within i orders (order_at orders t).target ≡ chain_within (suc t) orders (order_at orders t).target =
      chain-steps i (suc t) (order_at orders t).target (λ u f. let b = back u f in omega arith) (λ u f. let b = back u f in omega arith) (λ u f. let b = back u f in omega arith) in
      ap (λ (o : Option ℕ). chain_within (suc i) orders o) e ∙ ap (λ (ts : List ℕ). t ∷ ts) rest

  module _ (past : ℕ → ℕ → ℕ) where
    -- Before is what the chain has traded before the order's own place
    pub before-is : (i : ℕ) → chain_traded_in_ledger orders past i ≡ sum_by (past (place_at orders i)) (chain orders i)
    unfolding chain_traded_in_ledger
    before-is i = refl

    pub before-none : (i : ℕ) → (order_at orders i).target ≡ None → chain_traded_in_ledger orders past i ≡ 0
    before-none i e = before-is i ∙ ap (sum_by (past (place_at orders i))) (chain-none i e)

    pub before-some : (i t : ℕ) → i < length orders → (order_at orders i).target ≡ Some t
        → chain_traded_in_ledger orders past i ≡ past (place_at orders i) t + sum_by (past (place_at orders i)) (chain orders t)
    before-some i t lt e = before-is i ∙ ap (sum_by (past (place_at orders i))) (chain-some i t lt e) ∙ sum_by-cons (past (place_at orders i)) t (chain orders t)

    pub entered-steps : (m n : ℕ) (i : ℕ) (target : Option ℕ) → IsBelow target m → IsBelow target n → IsBelow target (length orders)
        → entered_within (suc m) orders past i target ≡ entered_within (suc n) orders past i target
    entered-steps m n i None a b c = refl
    entered-steps zero n i (Some t) a b c = let lt = a t refl in absurd (omega arith)
    entered-steps (suc m) zero i (Some t) a b c = let lt = b t refl in absurd (omega arith)
    entered-steps (suc m) (suc n) i (Some t) a b c =
        let in_m = a t refl in
        let in_n = b t refl in
        let inside = c t refl in
        let back = target-below t inside in
        let rest : entered_within (suc m) orders past t (order_at orders t).target ≡ entered_within (suc n) orders past t (order_at orders t).target =
        entered-steps m n t (order_at orders t).target (λ u e. let lt = back u e in omega arith) (λ u e. let lt = back u e in omega arith) (λ u e. let lt = back u e in omega arith) in
        ap (λ (b : Bool). not (is_cancelled_at_place (order_at orders i).cancelled (place_at orders i)) && rests_before_where_entered b orders past (place_at orders i) t) rest

    -- Entered: `cancelled` isn't the order's own place, and it has no target, or its target rests before its own place
    pub entered-none : (i : ℕ) → (order_at orders i).target ≡ None → entered_in_ledger orders past i ≡ not (is_cancelled_at_place (order_at orders i).cancelled (place_at orders i))
    unfolding entered_in_ledger
    entered-none i e = ap (λ (t : Option ℕ). entered_within (suc i) orders past i t) e

    pub entered-some : (i t : ℕ) → i < length orders → (order_at orders i).target ≡ Some t
        → entered_in_ledger orders past i ≡ (not (is_cancelled_at_place (order_at orders i).cancelled (place_at orders i)) && rests_before_in_ledger orders past (place_at orders i) t)
    unfolding entered_in_ledger rests_before_in_ledger
    entered-some i t lt e =
        let lower = target-below i lt t e in
        let back = target-below t (omega arith) in
        let step : entered_within (suc i) orders past i (Some t) ≡ entered_within (suc (suc t)) orders past i (Some t) =
        entered-steps i (suc t) i (Some t) (λ u f. let same : t ≡ u = cc in omega arith) (λ u f. let same : t ≡ u = cc in omega arith) (λ u f. let same : t ≡ u = cc in omega arith) in
        ap (λ (o : Option ℕ). entered_within (suc i) orders past i o) e ∙ step

    -- Size and Rests by whether the order entered
    pub size-is : (i : ℕ) → size_in_ledger orders past i ≡ size_where_entered (entered_in_ledger orders past i) orders past i
    unfolding size_in_ledger
    size-is i = refl

    pub rests-is : (p i : ℕ) → rests_before_in_ledger orders past p i ≡ rests_before_where_entered (entered_in_ledger orders past i) orders past p i
    unfolding rests_before_in_ledger
    rests-is p i = refl
