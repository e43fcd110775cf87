-- What the first of the incoming deals add up to.
use Rattle.std.proofs.Common.{◌≡◌, ◌≢◌, ◌<◌, ◌≤◌, ◌+◌, ℕ, zero, suc, List, [], ◌∷◌, ◌++◌, length, Bool, true, false, cond, refl, sym, ap, ◌∙◌, arith, inl, inr, subst, All, AllPairs, get_or, take, sum_by, eqb, is_lt, IsPermutation, IsSorted, add-one}
use Rattle.std.specs.Prelude.{nat_lt, nat_le, ◌==◌, ◌&&◌, ◌||◌, Contains}
use Rattle.std.specs.Cmp.{IsStrictWeakOrder}
use Rattle.std.proofs.lemmas.Bool.{cases_Bool, cases_eq, cases_lt, both_ways, lt-ltb, le-ltb, ltb-true, eq-eqb, ne_eqb, le-leb, leb-true, cond-true, cond-false, and_from, and_left, and_right, or_left, or_right, or_from, cond_both}
use Rattle.std.proofs.lemmas.Bool.Decides.{nat_tests}
use Rattle.std.proofs.lemmas.Cmp.{nat_cmp_total, on_total, then_total}
use Rattle.std.proofs.lemmas.List.{take_all}
use Rattle.std.proofs.lemmas.List.Elements.{All-nil, All-head, All-tail, All-push, Contains-push, Contains-append_left, All-weaker}
use Rattle.std.proofs.lemmas.List.Sorted.{All-permutation, Contains-permutation, sum_by-IsPermutation, sorted_far, ranks_by}
use Rattle.std.proofs.lemmas.List.Sums.{sum_by-cons, sum_by-append}
use Rattle.std.proofs.lemmas.Map.Keys.{IsDistinct-from_apart, IsDistinct-IsPermutation, apart_from_distinct}
use Rattle.audit_base.specs.declared.orders.Order.{Order}
use Rattle.audit_base.specs.declared.orders.Deal.{Deal}
use Rattle.audit_base.specs.Sums.{sum_below}
use Rattle.audit_base.specs.Orders.{place_at, IsOrderList}
use Rattle.audit_base.specs.Deals.{names_order, deal_at, deal_past_end, quantity_traded_by, NamesOrders}
use Rattle.audit_base.specs.Continuous.{cause, incoming_order, traded_before, traded_at}
use Rattle.audit_base.proofs.OffenceLemmas.{get_or-default}
use Rattle.audit_base.proofs.OrderLemmas.{place-rises}
use Rattle.audit_base.proofs.SumLemmas.{below-same, below-list, below-add, sum_by-same, AllPairs-head, AllPairs-tail, AllPairs-cons}
use Rattle.continuous_audit.specs.declared.incoming_deals.IncomingDeal.{IncomingDeal}
use Rattle.continuous_audit.specs.IncomingDeals.{AreIncomingDeals, IncomingDealBefore, incoming_deal_cmp, incoming_deal_of, incoming_deals_below, running_total}

module _ (orders : List Order) (deals : List Deal) where
  upto-only : (n : ℕ) → All (λ c. (c.deal < n) × (c ≡ incoming_deal_of orders deals c.deal)) (incoming_deals_below orders deals n)
  upto-only zero = All-nil (λ (c : IncomingDeal). (c.deal < 0) × (c ≡ incoming_deal_of orders deals c.deal))
  upto-only (suc n) = All-push (λ (c : IncomingDeal). (c.deal < suc n) × (c ≡ incoming_deal_of orders deals c.deal)) (incoming_deals_below orders deals n) (incoming_deal_of orders deals n)
      (All-weaker (λ (c : IncomingDeal). (c.deal < n) × (c ≡ incoming_deal_of orders deals c.deal)) (λ (c : IncomingDeal). (c.deal < suc n) × (c ≡ incoming_deal_of orders deals c.deal)) (λ c h. let l = h.0 in (omega arith, h.1)) (incoming_deals_below orders deals n) (upto-only n))
      (omega arith, refl)

  upto-each : (n k : ℕ) → k < n → Contains (incoming_deals_below orders deals n) (incoming_deal_of orders deals k)
  upto-each zero k lt = absurd (omega arith)
  upto-each (suc n) k lt = elim (cases_eq k n) [
    | inl e ↦ subst (λ j. Contains (incoming_deals_below orders deals (suc n)) (incoming_deal_of orders deals j)) (sym e) (Contains-push (incoming_deals_below orders deals n) (incoming_deal_of orders deals n))
    | inr ne ↦ Contains-append_left (incoming_deals_below orders deals n) (incoming_deal_of orders deals n ∷ []) (incoming_deal_of orders deals k) (upto-each n k (omega (arith, ne)))
  ]

  upto-sum : (f : IncomingDeal → ℕ) (n : ℕ) → sum_by f (incoming_deals_below orders deals n) ≡ sum_below (λ k. f (incoming_deal_of orders deals k)) n
  upto-sum f zero = refl
  upto-sum f (suc n) =
      let rest = upto-sum f n in
      let more = sum_by-append f (incoming_deals_below orders deals n) (incoming_deal_of orders deals n ∷ []) in
      let one = sum_by-cons f (incoming_deal_of orders deals n) [] in
      omega arith

  upto-rising : (n : ℕ) (i j : ℕ) (d : IncomingDeal) → i < j → j < length (incoming_deals_below orders deals n) → (get_or (incoming_deals_below orders deals n) i d).deal < (get_or (incoming_deals_below orders deals n) j d).deal
  upto-rising n i j d lt below = pairs n i j d lt below
    where
      push : (xs : List IncomingDeal) (y : IncomingDeal) → AllPairs (λ a b. a.deal < b.deal) xs → All (λ a. a.deal < y.deal) xs → AllPairs (λ a b. a.deal < b.deal) (xs ++ y ∷ [])
      push [] y h under = λ i j d lt below. absurd (omega arith)
      push (x ∷ xs) y h under = AllPairs-cons (λ (a b : IncomingDeal). a.deal < b.deal) x (xs ++ y ∷ []) (All-push (λ (b : IncomingDeal). x.deal < b.deal) xs y (AllPairs-head (λ (a b : IncomingDeal). a.deal < b.deal) x xs h) (All-head (λ (a : IncomingDeal). a.deal < y.deal) x xs under))
          (push xs y (AllPairs-tail (λ (a b : IncomingDeal). a.deal < b.deal) x xs h) (All-tail (λ (a : IncomingDeal). a.deal < y.deal) x xs under))

      pairs : (n : ℕ) → AllPairs (λ a b. a.deal < b.deal) (incoming_deals_below orders deals n)
      pairs zero = λ i j d lt below. absurd (omega arith)
      pairs (suc n) = push (incoming_deals_below orders deals n) (incoming_deal_of orders deals n) (pairs n) (All-weaker (λ (c : IncomingDeal). (c.deal < n) × (c ≡ incoming_deal_of orders deals c.deal)) (λ (c : IncomingDeal). c.deal < n) (λ c h. h.0) (incoming_deals_below orders deals n) (upto-only n))

abbrev same_deal : IncomingDeal → IncomingDeal → Bool
same_deal a b = eqb a.deal b.deal

weak : IsStrictWeakOrder (λ (a b : IncomingDeal). is_lt (incoming_deal_cmp a b))
weak = ranks_by (then_total (on_total (λ (c : IncomingDeal). c.order) nat_cmp_total) (on_total (λ (c : IncomingDeal). c.deal) nat_cmp_total)) (λ (c : IncomingDeal). c)

sooner : (a b : IncomingDeal) → a.deal ≢ b.deal → is_lt (incoming_deal_cmp b a) ≡ false → IncomingDealBefore a b
sooner a b apart h = elim (cases_lt a.order b.order) [
  | inl lt ↦ inl lt
  | inr le ↦ inr (grind (arith, nat_tests), elim (cases_lt a.deal b.deal) [ inl lt ↦ lt | inr ge ↦ absurd (apart (grind (arith, nat_tests))) ])
]

-- the incoming deals, sorted
pub are-incoming_deals : (orders : List Order) (deals : List Deal) (incoming_deals : List IncomingDeal) → IsPermutation (incoming_deals_below orders deals (length deals)) incoming_deals → IsSorted incoming_deal_cmp incoming_deals → AreIncomingDeals orders deals incoming_deals
are-incoming_deals orders deals incoming_deals moved in_order =
    let from = incoming_deals_below orders deals (length deals) in
    let once = IsDistinct-from_apart same_deal from (λ i j d lt below. ne_eqb _ _ (λ e. let up = upto-rising orders deals (length deals) i j d lt below in absurd (omega arith))) in
    record {
      only = All-permutation (λ (c : IncomingDeal). (c.deal < length deals) × (c ≡ incoming_deal_of orders deals c.deal)) from incoming_deals moved (upto-only orders deals (length deals));
      each = λ k lt. Contains-permutation from incoming_deals (incoming_deal_of orders deals k) moved (upto-each orders deals (length deals) k lt);
      rising = λ i j d lt below.
          let apart : (get_or incoming_deals i d).deal ≢ (get_or incoming_deals j d).deal = λ e. both_ways _ (apart_from_distinct same_deal incoming_deals i j d (IsDistinct-IsPermutation same_deal (λ r s. flips r.deal s.deal) from incoming_deals moved once) lt below) (eq-eqb _ _ e) in
          sooner (get_or incoming_deals i d) (get_or incoming_deals j d) apart (sorted_far (λ (r s : IncomingDeal). is_lt (incoming_deal_cmp r s)) weak incoming_deals in_order i j d (omega arith) below);
      sums = λ f. sum_by-IsPermutation f from incoming_deals moved;
    }
  where
    flips : (a b : ℕ) → eqb a b ≡ eqb b a
    flips a b = grind (arith, nat_tests)

-- a test that holds of the first incoming deals alone picks their sum
module _ (f : IncomingDeal → ℕ) (test : IncomingDeal → Bool) where
  picked : (cs : List IncomingDeal) (at : ℕ) → ((i : ℕ) (d : IncomingDeal) → i < at → i < length cs → test (get_or cs i d) ≡ true) → ((i : ℕ) (d : IncomingDeal) → at ≤ i → i < length cs → test (get_or cs i d) ≡ false)
      → sum_by (λ c. cond (test c) (f c) 0) cs ≡ sum_by f (take at cs)
  picked [] zero first later = refl
  picked [] (suc at) first later = refl
  picked (c ∷ cs) zero first later =
      let off : cond (test c) (f c) 0 ≡ 0 = cond-false (test c) (f c) 0 (later 0 c (omega arith) (omega arith)) in
      let rest = picked cs 0 (λ i d lt below. absurd (omega arith)) (λ i d le below. later (suc i) d (omega arith) (omega arith)) in
      omega (arith, sum_by-cons (λ c. cond (test c) (f c) 0) c cs)
  picked (c ∷ cs) (suc at) first later =
      let on : cond (test c) (f c) 0 ≡ f c = cond-true (test c) (f c) 0 (first 0 c (omega arith) (omega arith)) in
      let rest = picked cs at (λ i d lt below. first (suc i) d (omega arith) (omega arith)) (λ i d le below. later (suc i) d (omega arith) (omega arith)) in
      omega (arith, sum_by-cons (λ c. cond (test c) (f c) 0) c cs, sum_by-cons f c (take at cs))

cut : (g : ℕ → ℕ) (k n : ℕ) → k < n → sum_below (λ j. cond (nat_le j k) (g j) 0) n ≡ sum_below g (suc k)
cut g k zero lt = absurd (omega arith)
cut g k (suc n) lt = elim (cases_eq k n) [
  | inl e ↦
      let all : sum_below (λ j. cond (nat_le j k) (g j) 0) n ≡ sum_below g n = below-same (λ j. cond (nat_le j k) (g j) 0) g n (λ j below. cond-true (nat_le j k) (g j) 0 (le-leb j k (omega arith))) in
      let last : cond (nat_le n k) (g n) 0 ≡ g n = cond-true (nat_le n k) (g n) 0 (le-leb n k (omega arith)) in
      let same : sum_below g (suc k) ≡ sum_below g (suc n) = ap (λ (m : ℕ). sum_below g (suc m)) e in
      omega arith
  | inr ne ↦
      let rest = cut g k n (omega (arith, ne)) in
      let off : nat_le n k ≡ false = leb-false n k (omega (arith, ne)) in
      let last : cond (nat_le n k) (g n) 0 ≡ 0 = cond-false (nat_le n k) (g n) 0 off in
      omega arith
]
  where
    leb-false : (a b : ℕ) → b < a → nat_le a b ≡ false
    leb-false a b lt = elim (cases_Bool (nat_le a b)) [ inr f ↦ f | inl t ↦ let le = leb-true a b t in absurd (omega arith) ]

nested : (a b : Bool) (q : ℕ) → cond a (cond b q 0) 0 ≡ cond (b && a) q 0
nested true true q = refl
nested true false q = refl
nested false true q = refl
nested false false q = refl

split_or : (a b : Bool) (q : ℕ) → (a ≡ true → b ≡ false) → cond (a || b) q 0 ≡ cond a q 0 + cond b q 0
split_or true true q h = let x = h refl in absurd (cc)
split_or true false q h = omega arith
split_or false true q h = omega arith
split_or false false q h = omega arith

pub incoming-cause : (orders : List Order) (d : Deal) → place_at orders (incoming_order orders d) ≡ cause orders d
incoming-cause orders d = elim (cases_lt (place_at orders d.bid) (place_at orders d.ask)) [
  | inl lt ↦ ap (place_at orders) (cond-true (nat_lt (place_at orders d.bid) (place_at orders d.ask)) d.ask d.bid (lt-ltb _ _ lt)) ∙ (omega arith)
  | inr le ↦ ap (place_at orders) (cond-false (nat_lt (place_at orders d.bid) (place_at orders d.ask)) d.ask d.bid (le-ltb _ _ le)) ∙ (omega arith)
]

pub incoming-inside : (orders : List Order) (d : Deal) → NamesOrders orders d → incoming_order orders d < length orders
incoming-inside orders d n = cond_both (nat_lt (place_at orders d.bid) (place_at orders d.ask)) d.ask d.bid (λ x. x < length orders) (λ t. n.ask_inside) (λ t. n.bid_inside)

module _ (orders : List Order) (list : IsOrderList orders) (deals : List Deal) (named : All (NamesOrders orders) deals) (incoming_deals : List IncomingDeal) (are : AreIncomingDeals orders deals incoming_deals) where
  -- a sum over all incoming deals of what is picked by a test of the place and the deal
  all-sum : (f : IncomingDeal → ℕ) → sum_by f incoming_deals ≡ sum_below (λ k. f (incoming_deal_of orders deals k)) (length deals)
  all-sum f = are.sums f ∙ upto-sum orders deals f (length deals)

  pub cause-inside : (i : ℕ) (d : IncomingDeal) → i < length incoming_deals → (get_or incoming_deals i d).order < length orders
  cause-inside i d lt =
      let h = are.only i d lt in
      let c = get_or incoming_deals i d in
      let inside = incoming-inside orders (deal_at deals c.deal) (named c.deal deal_past_end h.0) in
      let same : c.order ≡ incoming_order orders (deal_at deals c.deal) = ap (λ (x : IncomingDeal). x.order) h.1 in
      omega arith

  part : ℕ → IncomingDeal → ℕ
  part x c = quantity_traded_by x (deal_at deals c.deal)

  -- the first incoming deals, those of orders of places below p: what is traded before p
  pub running-before : (p at x : ℕ) → ((i : ℕ) (d : IncomingDeal) → i < at → i < length incoming_deals → place_at orders (get_or incoming_deals i d).order < p) → ((i : ℕ) (d : IncomingDeal) → at ≤ i → i < length incoming_deals → p ≤ place_at orders (get_or incoming_deals i d).order)
      → running_total deals incoming_deals at x ≡ traded_before orders deals p x
  unfolding traded_before part
  running-before p at x first later =
      let test : IncomingDeal → Bool = λ c. nat_lt (place_at orders c.order) p in
      let h : Deal → ℕ = λ d. cond (nat_lt (place_at orders (incoming_order orders d)) p) (quantity_traded_by x d) 0 in
      let one = picked (part x) test incoming_deals at (λ i d lt below. lt-ltb _ _ (first i d lt below)) (λ i d le below. le-ltb _ _ (later i d le below)) in
      let two = all-sum (λ c. cond (test c) (part x c) 0) in
      let three : sum_below (λ k. h (deal_at deals k)) (length deals) ≡ sum_by h (take (length deals) deals) = below-list h deals deal_past_end (length deals) (omega arith) in
      let four : sum_by h (take (length deals) deals) ≡ sum_by h deals = ap (sum_by h) (take_all (length deals) deals (omega arith)) in
      let five : sum_by h deals ≡ sum_by (λ d. cond (names_order x d && nat_lt (cause orders d) p) d.quantity 0) deals = sum_by-same h (λ d. cond (names_order x d && nat_lt (cause orders d) p) d.quantity 0) deals (λ k e lt.
      let d = get_or deals k e in nested (nat_lt (place_at orders (incoming_order orders d)) p) (names_order x d) d.quantity ∙ ap (λ (q : ℕ). cond (names_order x d && nat_lt q p) d.quantity 0) (incoming-cause orders d)) in
      sym one ∙ two ∙ three ∙ four ∙ five

  -- up to the incoming deal at an index, of the order at n: what is traded before its place, and in its
  -- deals up to this one
  module _ (at : ℕ) (e : IncomingDeal) (lt : at < length incoming_deals) where
    abbrev here : IncomingDeal
    here = get_or incoming_deals at e

    abbrev p : ℕ
    p = place_at orders here.order

    lower : (i : ℕ) (d : IncomingDeal) → i < length incoming_deals → (get_or incoming_deals i d).order < here.order → place_at orders (get_or incoming_deals i d).order < p
    lower i d below less = place-rises orders list (get_or incoming_deals i d).order here.order less (cause-inside at e lt)

    higher : (i : ℕ) (d : IncomingDeal) → i < length incoming_deals → here.order < (get_or incoming_deals i d).order → p < place_at orders (get_or incoming_deals i d).order
    higher i d below more = place-rises orders list here.order (get_or incoming_deals i d).order more (cause-inside i d below)

    upto : IncomingDeal → Bool
    upto c = nat_lt (place_at orders c.order) p || ((place_at orders c.order == p) && nat_le c.deal here.deal)

    default-at : (i : ℕ) (d : IncomingDeal) → i < length incoming_deals → get_or incoming_deals i d ≡ get_or incoming_deals i e
    default-at i d below = get_or-default incoming_deals i d e below

    upto-first : (i : ℕ) (d : IncomingDeal) → i < suc at → i < length incoming_deals → upto (get_or incoming_deals i d) ≡ true
    unfolding upto
    upto-first i d le below = elim (cases_eq i at) [
      | inl same ↦
          let is : get_or incoming_deals i d ≡ here = default-at i d below ∙ ap (λ (j : ℕ). get_or incoming_deals j e) same in
          subst (λ (c : IncomingDeal). (nat_lt (place_at orders c.order) p || ((place_at orders c.order == p) && nat_le c.deal here.deal)) ≡ true) (sym is) (or_right _ _ (and_from _ _ (eq-eqb p p refl) (le-leb here.deal here.deal (omega arith))))
      | inr ne ↦ elim (before-at i d (omega (arith, ne)) below) [
        | inl less ↦ or_left _ _ (lt-ltb _ _ (lower i d below less))
        | inr same ↦ let deal = same.1 in or_right (nat_lt (place_at orders (get_or incoming_deals i d).order) p) _ (and_from _ _ (eq-eqb _ _ (ap (place_at orders) same.0)) (le-leb _ _ (omega arith)))
      ]
    ]
      where
        before-at : (i : ℕ) (d : IncomingDeal) → i < at → i < length incoming_deals → IncomingDealBefore (get_or incoming_deals i d) here
        before-at i d less below = subst (λ (c : IncomingDeal). IncomingDealBefore (get_or incoming_deals i d) c) (default-at at d lt) (are.rising i at d less lt)

    upto-later : (i : ℕ) (d : IncomingDeal) → suc at ≤ i → i < length incoming_deals → upto (get_or incoming_deals i d) ≡ false
    unfolding upto
    upto-later i d le below =
        let c = get_or incoming_deals i d in
        let after : IncomingDealBefore here c = subst (λ (x : IncomingDeal). IncomingDealBefore x c) (default-at at d lt) (are.rising at i d (omega arith) below) in
        elim after [
          | inl more ↦
              let above = higher i d below more in
              or_from _ _ (le-ltb _ _ (omega arith)) (and_left (place_at orders c.order == p) (nat_le c.deal here.deal) (ne_eqb _ _ (λ f. omega arith)))
          | inr same ↦
              let place : place_at orders c.order ≡ p = ap (place_at orders) (sym same.0) in
              let deal = same.1 in
              or_from _ _ (le-ltb _ _ (omega arith)) (and_right (place_at orders c.order == p) (nat_le c.deal here.deal) (off c.deal here.deal deal))
        ]
      where
        off : (a b : ℕ) → b < a → nat_le a b ≡ false
        off a b lt = elim (cases_Bool (nat_le a b)) [ inr f ↦ f | inl t ↦ let le = leb-true a b t in absurd (omega arith) ]

    pub running-upto : (x : ℕ) → running_total deals incoming_deals (suc at) x ≡ traded_before orders deals p x + traded_at orders (take (here.deal + 1) deals) p x
    unfolding upto part traded_before traded_at
    running-upto x =
        let k = here.deal in
        let inside : k < length deals = (are.only at e lt).0 in
        let h : Deal → ℕ = λ d. cond (nat_lt (place_at orders (incoming_order orders d)) p) (quantity_traded_by x d) 0 in
        let g : Deal → ℕ = λ d. cond (place_at orders (incoming_order orders d) == p) (quantity_traded_by x d) 0 in
        let one = picked (part x) upto incoming_deals (suc at) upto-first upto-later in
        let two = all-sum (λ c. cond (upto c) (part x c) 0) in
        let three : sum_below (λ j. cond (upto (incoming_deal_of orders deals j)) (quantity_traded_by x (deal_at deals j)) 0) (length deals) ≡ sum_below (λ j. h (deal_at deals j) + cond (nat_le j k) (g (deal_at deals j)) 0) (length deals) =
        below-same _ _ (length deals) (λ j below.
        let d = deal_at deals j in
        let q = place_at orders (incoming_order orders d) in
        split_or (nat_lt q p) ((q == p) && nat_le j k) (quantity_traded_by x d) (λ t. and_left (q == p) (nat_le j k) (ne_eqb q p (λ f. let l = ltb-true q p t in omega arith)))
        ∙ ap (λ (y : ℕ). cond (nat_lt q p) (quantity_traded_by x d) 0 + y) (sym (nested (nat_le j k) (q == p) (quantity_traded_by x d)))) in
        let four = below-add (λ j. h (deal_at deals j)) (λ j. cond (nat_le j k) (g (deal_at deals j)) 0) (length deals) in
        let h1 : sum_below (λ j. h (deal_at deals j)) (length deals) ≡ sum_by h (take (length deals) deals) = below-list h deals deal_past_end (length deals) (omega arith) in
        let h2 : sum_by h (take (length deals) deals) ≡ sum_by h deals = ap (sum_by h) (take_all (length deals) deals (omega arith)) in
        let h3 : sum_by h deals ≡ sum_by (λ d. cond (names_order x d && nat_lt (cause orders d) p) d.quantity 0) deals = sum_by-same h (λ d. cond (names_order x d && nat_lt (cause orders d) p) d.quantity 0) deals (λ j f below.
        let d = get_or deals j f in nested (nat_lt (place_at orders (incoming_order orders d)) p) (names_order x d) d.quantity ∙ ap (λ (q : ℕ). cond (names_order x d && nat_lt q p) d.quantity 0) (incoming-cause orders d)) in
        let g1 = cut (λ j. g (deal_at deals j)) k (length deals) inside in
        let g2 : sum_below (λ j. g (deal_at deals j)) (k + 1) ≡ sum_by g (take (k + 1) deals) = below-list g deals deal_past_end (k + 1) (omega arith) in
        let g3 : sum_by g (take (k + 1) deals) ≡ sum_by (λ d. cond (names_order x d && (cause orders d == p)) d.quantity 0) (take (k + 1) deals) = sum_by-same g (λ d. cond (names_order x d && (cause orders d == p)) d.quantity 0) (take (k + 1) deals) (λ j f below.
        let d = get_or (take (k + 1) deals) j f in nested (place_at orders (incoming_order orders d) == p) (names_order x d) d.quantity ∙ ap (λ (q : ℕ). cond (names_order x d && (q == p)) d.quantity 0) (incoming-cause orders d)) in
        let g0 : sum_below (λ j. g (deal_at deals j)) (suc k) ≡ sum_below (λ j. g (deal_at deals j)) (k + 1) = ap (sum_below (λ j. g (deal_at deals j))) (sym (add-one k)) in
        let whole : sum_by (part x) (take (suc at) incoming_deals) ≡ sum_below (λ j. h (deal_at deals j)) (length deals) + sum_below (λ j. cond (nat_le j k) (g (deal_at deals j)) 0) (length deals) = sym one ∙ two ∙ three ∙ four in
        let left_is = h1 ∙ h2 ∙ h3 in
        let right_is = g1 ∙ g0 ∙ g2 ∙ g3 in
        whole ∙ ap (λ (a : ℕ). a + sum_below (λ j. cond (nat_le j k) (g (deal_at deals j)) 0) (length deals)) left_is ∙ ap (λ (b : ℕ). sum_by (λ d. cond (names_order x d && nat_lt (cause orders d) p) d.quantity 0) deals + b) right_is
