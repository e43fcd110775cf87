-- The steps of the ranked orders so far, with one order more.
use Rattle.std.proofs.Common.{◌≡◌, ◌<◌, ◌⊎◌, ◌∙◌, sym, ap, refl, subst, ℕ, ◌+◌, ◌^◌, ◌≤◌, Bool, true, List, [], ◌∷◌, ◌++◌, length, take, get_or, Some, inl, inr, arith, eq-eqb}
use Rattle.std.specs.Prelude.{◌&&◌, ◌==◌, nat_lt, All, AllPairs, map, sum_by}
use Rattle.std.specs.List.{flat_map}
use Rattle.std.proofs.lemmas.Bool.{cases_Bool, cases_eq, and_parts, and_from, or_cases, eqb-true, both_ways, cond-true, cond-false}
use Rattle.std.proofs.lemmas.List.{append-nil, append_assoc, map_push, length-map, length-append, length-take, length_push, get_or_append_left, get_or-append-add, get_or-take, get_or_push, get_or_default}
use Rattle.std.proofs.lemmas.List.Concat.{flat_map-append}
use Rattle.std.proofs.lemmas.List.Elements.{All-cons, All-nil, All-push, All-pop}
use Rattle.std.proofs.lemmas.List.Quantifiers.{all_pairs_push}
use Rattle.std.proofs.lemmas.List.Sums.{sum_by-append, sum_by-cons}
use Rattle.audit_base.specs.declared.terms.Side.{Side}
use Rattle.audit_base.specs.declared.terms.Side.TheVariants.{Buy, Sell}
use Rattle.audit_base.specs.declared.orders.Order.{Order}
use Rattle.audit_base.specs.declared.orders.Deal.{Deal}
use Rattle.audit_base.specs.Deals.{AreTotals, number_at, traded}
use Rattle.audit_base.specs.Orders.{order_at, order_past_end, limit_at, quantity_at, OrdersInRange}
use Rattle.audit_base.specs.Priority.{outranks, Better, IsRanked}
use Rattle.audit_base.proofs.PriorityLemmas.{better-outranks}
use Rattle.call_picture.specs.declared.steps.SideStep.{SideStep}
use Rattle.call_picture.specs.Merging.{AreStepsSoFar, are_one_step, joined_step, next_step, finished_steps, step_of_order, AreTotalsSmall, IsStepSmall}
use Rattle.call_picture.specs.Steps.{AreSteps, HasOneLimit, IsBetterLimit, best_of_group, limit_of_group, step_of_group}

-- a better limit, or the same
abbrev pub IsNoWorseLimit : Side → ℕ → ℕ → Type 0
IsNoWorseLimit side first second = IsBetterLimit side first second ⊎ (first ≡ second)

pub limit-order : (side : Side) (o p : Order) → outranks side o p ≡ true → IsNoWorseLimit side o.limit p.limit
limit-order Buy o p t = elim (or_cases (nat_lt p.limit o.limit) ((o.limit == p.limit) && nat_lt o.place p.place) t) [
  | inl lt ↦ inl lt
  | inr both ↦ inr (eqb-true _ _ (and_parts (o.limit == p.limit) (nat_lt o.place p.place) both).0)
]
limit-order Sell o p t = elim (or_cases (nat_lt o.limit p.limit) ((o.limit == p.limit) && nat_lt o.place p.place) t) [
  | inl lt ↦ inl lt
  | inr both ↦ inr (eqb-true _ _ (and_parts (o.limit == p.limit) (nat_lt o.place p.place) both).0)
]

better-onward : (side : Side) (a b c : ℕ) → IsBetterLimit side a b → IsBetterLimit side b c → IsBetterLimit side a c
better-onward Buy a b c first second = grind arith
better-onward Sell a b c first second = grind arith

module _ (orders : List Order) (deals : List Deal) (side : Side) (by_limit : Bool) where
  -- the first order
  pub step-first : (ranks : List ℕ) (steps : List SideStep) (step : SideStep) (r : ℕ) → ranks ≡ r ∷ [] → steps ≡ [] → step ≡ step_of_group orders deals (r ∷ [])
      → AreStepsSoFar orders deals side by_limit ranks steps step
  step-first ranks steps step r ranks_is steps_is step_is = record {
    groups = [];
    last = r ∷ [];
    cut = record {
      whole = sym ranks_is;
      some = All-cons (λ (g : List ℕ). 0 < length g) (r ∷ []) [] (omega arith) (All-nil (λ (g : List ℕ). 0 < length g));
      of_one_limit = All-cons (HasOneLimit orders) (r ∷ []) [] (one-limit r) (All-nil (HasOneLimit orders));
      best_first = λ limits i j d lt inside. absurd (omega arith);
      alone = λ each. All-cons (λ (g : List ℕ). length g ≡ 1) (r ∷ []) [] refl (All-nil (λ (g : List ℕ). length g ≡ 1));
    };
    finished = steps_is;
    made = step_is;
  }
    where
      one-limit : (r : ℕ) → HasOneLimit orders (r ∷ [])
      one-limit r = All-cons (λ o. limit_at orders o ≡ limit_at orders r) r [] refl (All-nil (λ o. limit_at orders o ≡ limit_at orders r))

  module _ (ranks : List ℕ) (steps : List SideStep) (step : SideStep) (so : AreStepsSoFar orders deals side by_limit ranks steps step) (r : ℕ) where
    earlier_some : All (λ (g : List ℕ). 0 < length g) so.groups × (0 < length so.last)
    earlier_some = All-pop (λ (g : List ℕ). 0 < length g) (so.groups ++ so.last ∷ []) so.groups (Some so.last) refl so.cut.some

    earlier_limits : All (HasOneLimit orders) so.groups × HasOneLimit orders so.last
    earlier_limits = All-pop (HasOneLimit orders) (so.groups ++ so.last ∷ []) so.groups (Some so.last) refl so.cut.of_one_limit

    -- The order joins the last group.

    longer : List ℕ
    longer = so.last ++ r ∷ []

    best-same : best_of_group (so.last ++ r ∷ []) ≡ best_of_group so.last
    best-same = get_or_append_left so.last (r ∷ []) 0 0 earlier_some.1

    limit-same : limit_of_group orders (so.last ++ r ∷ []) ≡ limit_of_group orders so.last
    limit-same = ap (limit_at orders) best-same

    limits-same : map (limit_of_group orders) (so.groups ++ (so.last ++ r ∷ []) ∷ []) ≡ map (limit_of_group orders) (so.groups ++ so.last ∷ [])
    limits-same = map_push (limit_of_group orders) so.groups (so.last ++ r ∷ [])
        ∙ ap (λ (l : ℕ). map (limit_of_group orders) so.groups ++ l ∷ []) limit-same
        ∙ sym (map_push (limit_of_group orders) so.groups so.last)

    whole-joined : flat_map (λ (g : List ℕ). g) (so.groups ++ (so.last ++ r ∷ []) ∷ []) ≡ ranks ++ r ∷ []
    whole-joined =
        flat_map-append (λ (g : List ℕ). g) so.groups ((so.last ++ r ∷ []) ∷ [])
        ∙ ap (λ (l : List ℕ). flat_map (λ (g : List ℕ). g) so.groups ++ l) (append-nil (so.last ++ r ∷ []))
        ∙ sym (append_assoc (flat_map (λ (g : List ℕ). g) so.groups) so.last (r ∷ []))
        ∙ ap (λ (l : List ℕ). l ++ r ∷ []) (
        ap (λ (l : List ℕ). flat_map (λ (g : List ℕ). g) so.groups ++ l) (sym (append-nil so.last))
        ∙ sym (flat_map-append (λ (g : List ℕ). g) so.groups (so.last ∷ []))
        ∙ so.cut.whole)

    limits-joined : limit_of_group orders so.last ≡ limit_at orders r → HasOneLimit orders (so.last ++ r ∷ [])
    limits-joined same = subst (λ (l : ℕ). All (λ o. limit_at orders o ≡ l) (so.last ++ r ∷ [])) (sym limit-same)
        (All-push (λ o. limit_at orders o ≡ limit_of_group orders so.last) so.last r earlier_limits.1 (sym same))

    made-joined : joined_step (step_of_group orders deals so.last) (step_of_group orders deals (r ∷ [])) ≡ step_of_group orders deals (so.last ++ r ∷ [])
    made-joined = λ i. record {
      best = sym best-same i;
      orders = sym (length_push so.last r) i;
      limit = sym limit-same i;
      quantity = sym (sum_by-append (quantity_at orders) so.last (r ∷ [])) i;
      traded = sym (sum_by-append (traded deals) so.last (r ∷ [])) i;
    }

    pub step-joined : (made : SideStep) → by_limit ≡ true → limit_of_group orders so.last ≡ limit_at orders r → made ≡ step_of_group orders deals (so.last ++ r ∷ [])
        → AreStepsSoFar orders deals side by_limit (ranks ++ r ∷ []) steps made
    step-joined made limits same made_is = record {
      groups = so.groups;
      last = so.last ++ r ∷ [];
      cut = record {
        whole = whole-joined;
        some = All-push (λ (g : List ℕ). 0 < length g) so.groups (so.last ++ r ∷ []) earlier_some.0 (let e = length_push so.last r in omega arith);
        of_one_limit = All-push (HasOneLimit orders) so.groups (so.last ++ r ∷ []) earlier_limits.0 (limits-joined same);
        best_first = λ l. subst (AllPairs (IsBetterLimit side)) (sym limits-same) (so.cut.best_first l);
        alone = λ each. absurd (both_ways by_limit each limits);
      };
      finished = so.finished;
      made = made_is;
    }

    -- The order begins a group of its own.

    whole-begun : flat_map (λ (g : List ℕ). g) ((so.groups ++ so.last ∷ []) ++ (r ∷ []) ∷ []) ≡ ranks ++ r ∷ []
    whole-begun = flat_map-append (λ (g : List ℕ). g) (so.groups ++ so.last ∷ []) ((r ∷ []) ∷ []) ∙ ap (λ (l : List ℕ). l ++ r ∷ []) so.cut.whole

    one-limit : HasOneLimit orders (r ∷ [])
    one-limit = All-cons (λ o. limit_at orders o ≡ limit_at orders r) r [] refl (All-nil (λ o. limit_at orders o ≡ limit_at orders r))

    -- the last group before it is of a better limit, and so is each before that
    last-better : IsBetterLimit side (limit_of_group orders so.last) (limit_at orders r) → by_limit ≡ true
        → (k : ℕ) (d : ℕ) → k < length (map (limit_of_group orders) (so.groups ++ so.last ∷ [])) → IsBetterLimit side (get_or (map (limit_of_group orders) (so.groups ++ so.last ∷ [])) k d) (limit_at orders r)
    last-better b l k d lt =
        let f = limit_of_group orders in
        let ls = map f (so.groups ++ so.last ∷ []) in
        let n = length so.groups in
        let at : get_or ls n d ≡ f so.last =
        ap (λ (xs : List ℕ). get_or xs n d) (map_push f so.groups so.last) ∙ get_or_push (map f so.groups) (f so.last) d n (length-map so.groups f) in
        let count : length ls ≡ n + 1 = length-map (so.groups ++ so.last ∷ []) f ∙ length_push so.groups so.last in
        elim (cases_eq k n) [
          | inl e ↦ subst (λ (x : ℕ). IsBetterLimit side x (limit_at orders r)) (sym (ap (λ (x : ℕ). get_or ls x d) e ∙ at)) b
          | inr ne ↦
              let first : IsBetterLimit side (get_or ls k d) (get_or ls n d) = so.cut.best_first l k n d (omega (arith, lt, count, ne)) (omega (arith, count)) in
              better-onward side (get_or ls k d) (f so.last) (limit_at orders r) (subst (λ (x : ℕ). IsBetterLimit side (get_or ls k d) x) at first) b
        ]

    pub step-begun : (made : SideStep) (finished : List SideStep) → (by_limit ≡ true → IsBetterLimit side (limit_of_group orders so.last) (limit_at orders r))
        → made ≡ step_of_group orders deals (r ∷ []) → finished ≡ steps ++ step ∷ []
        → AreStepsSoFar orders deals side by_limit (ranks ++ r ∷ []) finished made
    step-begun made finished worse made_is finished_is = record {
      groups = so.groups ++ so.last ∷ [];
      last = r ∷ [];
      cut = record {
        whole = whole-begun;
        some = All-push (λ (g : List ℕ). 0 < length g) (so.groups ++ so.last ∷ []) (r ∷ []) so.cut.some (omega arith);
        of_one_limit = All-push (HasOneLimit orders) (so.groups ++ so.last ∷ []) (r ∷ []) so.cut.of_one_limit one-limit;
        best_first = λ l. subst (AllPairs (IsBetterLimit side)) (sym (map_push (limit_of_group orders) (so.groups ++ so.last ∷ []) (r ∷ [])))
            (all_pairs_push (IsBetterLimit side) (map (limit_of_group orders) (so.groups ++ so.last ∷ [])) (limit_at orders r) (so.cut.best_first l) (last-better (worse l) l));
        alone = λ each. All-push (λ (g : List ℕ). length g ≡ 1) (so.groups ++ so.last ∷ []) (r ∷ []) (so.cut.alone each) refl;
      };
      finished = finished_is ∙ (λ i. so.finished i ++ so.made i ∷ []) ∙ sym (map_push (step_of_group orders deals) so.groups so.last);
      made = made_is;
    }

    -- the best order of the last group is among the ranked ones so far
    last-in : (P : ℕ → Type 0) → All P ranks → P (best_of_group so.last)
    last-in P all =
        let xs = flat_map (λ (g : List ℕ). g) so.groups in
        let whole : ranks ≡ xs ++ so.last = sym so.cut.whole ∙ flat_map-append (λ (g : List ℕ). g) so.groups (so.last ∷ []) ∙ ap (λ (l : List ℕ). xs ++ l) (append-nil so.last) in
        let at : get_or (xs ++ so.last) (length xs + 0) 0 ≡ best_of_group so.last = get_or-append-add xs so.last 0 0 in
        let inside : length xs + 0 < length (xs ++ so.last) = omega (arith, length-append xs so.last, earlier_some.1) in
        subst P at (subst (All P) whole all (length xs + 0) 0 inside)

    -- The next order, which the rank says is no better than those before it.
    pub step-more : (next made : SideStep) (finished : List SideStep) → next ≡ step_of_group orders deals (r ∷ [])
        → All (λ o. IsNoWorseLimit side (limit_at orders o) (limit_at orders r)) ranks
        → made ≡ next_step by_limit step next → finished ≡ finished_steps by_limit steps step next
        → AreStepsSoFar orders deals side by_limit (ranks ++ r ∷ []) finished made
    step-more next made finished next_is no_worse made_is finished_is =
        let last = limit_of_group orders so.last in
        let own = limit_at orders r in
        let one : are_one_step by_limit step next ≡ (by_limit && (last == own)) = λ i. are_one_step by_limit (so.made i) (next_is i) in
        elim (cases_Bool (by_limit && (last == own))) [
          | inl t ↦
              let parts = and_parts by_limit (last == own) t in
              let joins = one ∙ t in
              let kept : steps ≡ finished = sym (finished_is ∙ cond-true (are_one_step by_limit step next) steps (steps ++ step ∷ []) joins) in
              let both : made ≡ step_of_group orders deals (so.last ++ r ∷ []) =
              made_is ∙ cond-true (are_one_step by_limit step next) (joined_step step next) next joins ∙ (λ i. joined_step (so.made i) (next_is i)) ∙ made-joined in
              subst (λ (l : List SideStep). AreStepsSoFar orders deals side by_limit (ranks ++ r ∷ []) l made) kept (step-joined made parts.0 (eqb-true last own parts.1) both)
          | inr f ↦
              let apart = one ∙ f in
              step-begun made finished (λ limits. elim (last-in (λ o. IsNoWorseLimit side (limit_at orders o) own) no_worse) [
                | inl b ↦ b
                | inr e ↦ absurd (both_ways (by_limit && (last == own)) f (and_from by_limit (last == own) limits (eq-eqb last own e)))
              ])
              (made_is ∙ cond-false (are_one_step by_limit step next) (joined_step step next) next apart ∙ next_is)
              (finished_is ∙ cond-false (are_one_step by_limit step next) steps (steps ++ step ∷ []) apart)
        ]

-- at their end these are the steps of all
pub steps-all : (orders : List Order) (deals : List Deal) (side : Side) (by_limit : Bool) (ranks : List ℕ) (steps all : List SideStep) (step : SideStep)
    → AreStepsSoFar orders deals side by_limit ranks steps step → all ≡ steps ++ step ∷ [] → AreSteps orders deals side by_limit ranks all
steps-all orders deals side by_limit ranks steps all step so all_is = record {
  groups = so.groups ++ so.last ∷ [];
  cut = so.cut;
  each = all_is ∙ (λ i. so.finished i ++ so.made i ∷ []) ∙ sym (map_push (step_of_group orders deals) so.groups so.last);
}

-- no order is no step
pub steps-none : (orders : List Order) (deals : List Deal) (side : Side) (by_limit : Bool) (ranks : List ℕ) (steps : List SideStep) → ranks ≡ [] → steps ≡ []
    → AreSteps orders deals side by_limit ranks steps
steps-none orders deals side by_limit ranks steps ranks_is steps_is = record {
  groups = [];
  cut = record {
    whole = sym ranks_is;
    some = All-nil (λ (g : List ℕ). 0 < length g);
    of_one_limit = All-nil (HasOneLimit orders);
    best_first = λ limits i j d lt inside. absurd (omega arith);
    alone = λ each. All-nil (λ (g : List ℕ). length g ≡ 1);
  };
  each = steps_is;
}

one-sum : (f : ℕ → ℕ) (r : ℕ) → f r ≡ sum_by f (r ∷ [])
one-sum f r = omega (arith, sum_by-cons f r [])

-- the step that the code makes of an order is that of its group
pub order-step : (orders : List Order) (deals : List Deal) (traded : List ℕ) (r : ℕ) → AreTotals orders deals traded → r < length orders
    → step_of_order orders traded r ≡ step_of_group orders deals (r ∷ [])
order-step orders deals totals r are lt = λ i. record {
  best = r;
  orders = 1;
  limit = limit_at orders r;
  quantity = one-sum (quantity_at orders) r i;
  traded = (are.each r lt ∙ one-sum (traded deals) r) i;
}

-- of ranked orders those before one are of no worse limit
pub ranked-limits : (orders : List Order) (side : Side) (ranks : List ℕ) → IsRanked orders side ranks → (k : ℕ) → k < length ranks
    → All (λ o. IsNoWorseLimit side (limit_at orders o) (limit_at orders (get_or ranks k 0))) (take k ranks)
ranked-limits orders side ranks ranked k lt j d below =
    let short : j < k = omega (arith, below, length-take k ranks) in
    let same : get_or (take k ranks) j d ≡ get_or ranks j d = get_or-take k ranks j d short in
    let first = get_or ranks j d in
    let second = get_or ranks k d in
    let b : Better orders first second = ranked.best_first j k d short lt in
    let own : (order_at orders first).side ≡ side = (ranked.only j d (omega arith)).of_side in
    let over : outranks side (order_at orders first) (order_at orders second) ≡ true =
    subst (λ (s : Side). outranks s (order_at orders first) (order_at orders second) ≡ true) own (better-outranks (order_at orders first) (order_at orders second) b) in
    let order : IsNoWorseLimit side (limit_at orders first) (limit_at orders second) = limit-order side (order_at orders first) (order_at orders second) over in
    subst (λ (x : ℕ). IsNoWorseLimit side (limit_at orders x) (limit_at orders (get_or ranks k 0))) (sym same)
    (subst (λ (x : ℕ). IsNoWorseLimit side (limit_at orders first) (limit_at orders x)) (get_or_default ranks k d 0 lt) order)

-- the numbers of a step stay within what its orders can make them

pub small-first : (orders : List Order) (totals : List ℕ) (r : ℕ) (step : SideStep) → step ≡ step_of_order orders totals r → OrdersInRange orders → r < length orders → AreTotalsSmall totals → IsStepSmall 1 step
small-first orders totals r step is in_range lt small =
    let most = (in_range r order_past_end lt).sized.most in
    let few : number_at totals r ≤ 2 ^ 72 = small r in
    subst (IsStepSmall 1) (sym is) (record { few = omega arith; bounded = omega (arith, most); small = omega (arith, few) })

small-joined : (n : ℕ) (step next : SideStep) → IsStepSmall n step → IsStepSmall 1 next → IsStepSmall (n + 1) (joined_step step next)
small-joined n step next is one = record {
  few = omega (arith, is.few, one.few);
  bounded = omega (arith, is.bounded, one.bounded);
  small = omega (arith, is.small, one.small);
}

small-later : (n : ℕ) (next : SideStep) → IsStepSmall 1 next → IsStepSmall (n + 1) next
small-later n next one = record {
  few = omega (arith, one.few);
  bounded = omega (arith, one.bounded);
  small = omega (arith, one.small);
}

pub small-more : (n : ℕ) (by_limit : Bool) (step next made : SideStep) → IsStepSmall n step → IsStepSmall 1 next → made ≡ next_step by_limit step next → IsStepSmall (n + 1) made
small-more n by_limit step next made is one made_is = elim (cases_Bool (are_one_step by_limit step next)) [
  | inl t ↦ subst (IsStepSmall (n + 1)) (sym (made_is ∙ cond-true (are_one_step by_limit step next) (joined_step step next) next t)) (small-joined n step next is one)
  | inr f ↦ subst (IsStepSmall (n + 1)) (sym (made_is ∙ cond-false (are_one_step by_limit step next) (joined_step step next) next f)) (small-later n next one)
]
