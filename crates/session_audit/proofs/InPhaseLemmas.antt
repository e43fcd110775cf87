-- What each order is in a phase: what follows from an order being carried, own or gone.
use Rattle.std.proofs.Common.{◌≡◌, ◌<◌, ◌≤◌, ◌-◌, ℕ, zero, suc, List, [], ◌∷◌, ◌++◌, get_or, Bool, true, false, Some, refl, ap, sym, ◌∙◌, arith, inl, inr, cond}
use Rattle.std.specs.Prelude.{nat_lt, ◌&&◌}
use Rattle.std.proofs.lemmas.Bool.{cases_lt, cond-true, cond-false, lt-ltb, le-ltb, ltb-true, and_parts, both_ways}
use Rattle.audit_base.specs.declared.orders.Order.{Order}
use Rattle.audit_base.specs.Orders.{order_at, place_at, quantity_at}
use Rattle.audit_base.specs.Continuous.{is_placed_order}
use Rattle.session_audit.specs.PhaseOrders.{RoleInPhase, Carried, Own, Gone, takes_part, carried_or_gone, target_takes_part, own_or_gone, roles_in_phase, role_in_phase, list_below}
use Rattle.session_audit.specs.Entering.{amount_in_phase, role_of_amount}
use Rattle.session_audit.proofs.ListBelowLemmas.{list_below-at}

-- its number isn't 0, unless it is gone
abbrev pub HasAmount : RoleInPhase → Type 0
HasAmount (Carried left) = 0 < left
HasAmount (Own quantity) = 0 < quantity
HasAmount Gone = Unit {0}

none-below : (n : ℕ) → nat_lt 0 n ≡ false → 0 ≡ n
none-below n e = elim (cases_lt 0 n) [ inl some ↦ absurd (both_ways _ e (lt-ltb 0 n some)) | inr none ↦ omega arith ]

-- In the following `b` is the test of an order that isn't gone.

carried-some : (b : Bool) (left : ℕ) → nat_lt 0 left ≡ b → HasAmount (cond b (Carried left) Gone)
carried-some true left e = ltb-true 0 left e
carried-some false left e = tt

carried-if : (b : Bool) (left : ℕ) → nat_lt 0 left ≡ b → amount_in_phase (cond b (Carried left) Gone) ≡ left
carried-if true left e = refl
carried-if false left e = none-below left e

pub carried-amount : (left : ℕ) → amount_in_phase (carried_or_gone left) ≡ left
carried-amount left = carried-if (nat_lt 0 left) left refl

carried-not : (b : Bool) (left q : ℕ) → cond b (Carried left) Gone ≡ Own q → ⊥
carried-not true left q e = cc
carried-not false left q e = cc

own-some : (b : Bool) (n : ℕ) → (b ≡ true → 0 < n) → HasAmount (cond b (Own n) Gone)
own-some true n some = some refl
own-some false n some = tt

own-le : (b : Bool) (q s : ℕ) → amount_in_phase (cond b (Own (q - s)) Gone) ≤ q
own-le true q s = omega arith
own-le false q s = omega arith

gone-not : (q : ℕ) → Gone ≡ Own q → ⊥
gone-not q e = cc

own-is : (b : Bool) (n q : ℕ) → cond b (Own n) Gone ≡ Own q → b ≡ true
own-is true n q e = refl
own-is false n q e = absurd (gone-not q e)

takes-amount : (x : RoleInPhase) → HasAmount x → nat_lt 0 (amount_in_phase x) ≡ takes_part x
takes-amount (Carried left) some = lt-ltb 0 left some
takes-amount (Own quantity) some = lt-ltb 0 quantity some
takes-amount Gone some = refl

-- the number of an own order, by a test of it that doesn't look at its quantity
own-if : (placed there some : Bool) (n : ℕ) → nat_lt 0 n ≡ some → cond (placed && there) n 0 ≡ amount_in_phase (cond (placed && (there && some)) (Own n) Gone)
own-if false there some n e = refl
own-if true false some n e = refl
own-if true true true n e = refl
own-if true true false n e = sym (none-below n e)

pub own-amount : (placed there : Bool) (n : ℕ) → cond (placed && there) n 0 ≡ amount_in_phase (cond (placed && (there && nat_lt 0 n)) (Own n) Gone)
own-amount placed there n = own-if placed there (nat_lt 0 n) n refl

-- by its number an order is what it was
carried-by : (first left : ℕ) (o : Order) → o.place < first → role_of_amount first left o ≡ carried_or_gone left
carried-by first left o lt = ap (λ (x : RoleInPhase). cond (nat_lt 0 left) x Gone) (cond-true (nat_lt o.place first) (Carried left) (Own left) (lt-ltb _ _ lt))

own-by : (first n : ℕ) (o : Order) (b : Bool) → (b ≡ true → 0 < n) → first ≤ o.place → role_of_amount first (amount_in_phase (cond b (Own n) Gone)) o ≡ cond b (Own n) Gone
own-by first n o true some le = ap (λ (b : Bool). cond b (cond (nat_lt o.place first) (Carried n) (Own n)) Gone) (lt-ltb 0 n (some refl)) ∙ cond-false (nat_lt o.place first) (Carried n) (Own n) (le-ltb _ _ le)
own-by first n o false some le = refl

module _ (orders : List Order) (first : ℕ) (rest spent : ℕ → ℕ) where
  abbrev pub here : ℕ → RoleInPhase
  here = role_in_phase orders first rest spent

  abbrev earlier : ℕ → List RoleInPhase
  earlier = roles_in_phase orders first rest spent

  -- the orders before an index, each by itself
  pub each-is : (n : ℕ) → earlier n ≡ list_below here n
  unfolding roles_in_phase
  each-is zero = refl
  each-is (suc n) = ap (λ (xs : List RoleInPhase). xs ++ here n ∷ []) (each-is n)

  pub earlier-at : (i t : ℕ) → t < i → get_or (earlier i) t Gone ≡ here t
  earlier-at i t lt = ap (λ (xs : List RoleInPhase). get_or xs t Gone) (each-is i) ∙ list_below-at here i t Gone lt

  -- the target of a later order takes part where it does by itself
  pub target-stays : (i t : ℕ) → t < i → target_takes_part (earlier i) (Some t) ≡ takes_part (here t)
  target-stays i t lt = ap takes_part (earlier-at i t lt)

  -- the quantity of an own order, and its test
  abbrev quantity : ℕ → ℕ
  quantity i = quantity_at orders i - spent i

  abbrev tests : ℕ → Bool
  tests i = is_placed_order orders i && (target_takes_part (earlier i) (order_at orders i).target && nat_lt 0 (quantity i))

  both-tests : (i : ℕ) → tests i ≡ true → (target_takes_part (earlier i) (order_at orders i).target ≡ true) × (nat_lt 0 (quantity i) ≡ true)
  both-tests i e = and_parts _ _ (and_parts (is_placed_order orders i) (target_takes_part (earlier i) (order_at orders i).target && nat_lt 0 (quantity i)) e).1

  tests-some : (i : ℕ) → tests i ≡ true → 0 < quantity i
  tests-some i e = ltb-true 0 (quantity i) (both-tests i e).1

  pub is-carried : (i : ℕ) → place_at orders i < first → here i ≡ carried_or_gone (rest i)
  is-carried i lt = cond-true (nat_lt (place_at orders i) first) (carried_or_gone (rest i)) (own_or_gone orders spent (earlier i) i) (lt-ltb _ _ lt)

  pub is-own : (i : ℕ) → first ≤ place_at orders i → here i ≡ cond (tests i) (Own (quantity i)) Gone
  is-own i le = cond-false (nat_lt (place_at orders i) first) (carried_or_gone (rest i)) (own_or_gone orders spent (earlier i) i) (le-ltb _ _ le)

  pub in-phase-some : (i : ℕ) → HasAmount (here i)
  in-phase-some i = elim (cases_lt (place_at orders i) first) [
    | inl lt ↦ rw (is-carried i lt) (carried-some (nat_lt 0 (rest i)) (rest i) refl)
    | inr le ↦ rw (is-own i le) (own-some (tests i) (quantity i) (tests-some i))
  ]

  -- an order has at most its written quantity
  pub in-phase-le : (i : ℕ) → rest i ≤ quantity_at orders i → amount_in_phase (here i) ≤ quantity_at orders i
  in-phase-le i most = elim (cases_lt (place_at orders i) first) [
    | inl lt ↦ let e = ap amount_in_phase (is-carried i lt) ∙ carried-amount (rest i) in omega arith
    | inr le ↦ let e = ap amount_in_phase (is-own i le) in let m = own-le (tests i) (quantity_at orders i) (spent i) in omega arith
  ]

  pub amount-takes : (i : ℕ) → nat_lt 0 (amount_in_phase (here i)) ≡ takes_part (here i)
  amount-takes i = takes-amount (here i) (in-phase-some i)

  pub by-amount : (i : ℕ) → role_of_amount first (amount_in_phase (here i)) (order_at orders i) ≡ here i
  by-amount i = elim (cases_lt (place_at orders i) first) [
    | inl lt ↦ ap (λ (n : ℕ). role_of_amount first n (order_at orders i)) (ap amount_in_phase (is-carried i lt) ∙ carried-amount (rest i))
        ∙ carried-by first (rest i) (order_at orders i) lt ∙ sym (is-carried i lt)
    | inr le ↦ ap (λ (x : RoleInPhase). role_of_amount first (amount_in_phase x) (order_at orders i)) (is-own i le)
        ∙ own-by first (quantity i) (order_at orders i) (tests i) (tests-some i) le ∙ sym (is-own i le)
  ]

  -- the target of an own order isn't gone
  pub own-target : (i q : ℕ) → here i ≡ Own q → target_takes_part (earlier i) (order_at orders i).target ≡ true
  own-target i q e = elim (cases_lt (place_at orders i) first) [
    | inl lt ↦ absurd (carried-not (nat_lt 0 (rest i)) (rest i) q (sym (is-carried i lt) ∙ e))
    | inr le ↦ (both-tests i (own-is (tests i) (quantity i) q (sym (is-own i le) ∙ e))).0
  ]
