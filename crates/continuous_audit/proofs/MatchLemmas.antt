-- What an order trades at its record is what the Expected trades give it.
use Rattle.std.proofs.Common.{◌≡◌, ◌≢◌, ◌<◌, ◌+◌, ◌-◌, ℕ, min, suc, List, [], ◌∷◌, ◌++◌, length, map, get_or, Bool, true, false, cond, refl, sym, ap, ◌∙◌, arith, inl, inr, subst, All, AllPairs}
use Rattle.std.specs.Prelude.{nat_lt, ◌&&◌, Contains, slice_set}
use Rattle.std.proofs.lemmas.Bool.{cases_eq, cases_lt, lt-ltb, le-ltb, and_from, cond-true, cond-false}
use Rattle.std.proofs.lemmas.List.{get_or-set_same, get_or-set_other, length-set, map-append, get_or-map, length-map}
use Rattle.std.proofs.lemmas.List.Elements.{All-append, All-map, All-weaker, All-head, All-tail, Contains-append_left, Contains-append_right}
use Rattle.audit_base.specs.declared.terms.Side.{Side}
use Rattle.audit_base.specs.declared.terms.Side.TheVariants.{Buy, Sell}
use Rattle.audit_base.specs.declared.orders.Order.{Order}
use Rattle.audit_base.specs.declared.orders.Deal.{Deal}
use Rattle.audit_base.specs.Orders.{order_at, side_at, limit_at, place_at, other_side, IsOrderList}
use Rattle.audit_base.specs.Histories.{Regular}
use Rattle.audit_base.specs.Priority.{better}
use Rattle.audit_base.specs.Continuous.{traded_before, traded_at, chain_traded_quantity, size_of_order, left_before_in_ledger, left_before, rests_before_in_ledger}
use Rattle.audit_base.specs.Expected.{available_quantity, available_quantity_ahead, incoming_share, pair_share, orders_meet}
use Rattle.audit_base.specs.Deals.{number_at}
use Rattle.audit_base.proofs.SumLemmas.{AllPairs-head, AllPairs-tail, AllPairs-cons, below-same}
use Rattle.audit_base.proofs.OrderLemmas.{is-same_side, not_both_sides, place-rises, side-other}
use Rattle.audit_base.proofs.ContinuousOffenceLemmas.{traded-more}
use Rattle.continuous_laws.proofs.ExpectedLemmas.{shared, expected-exist, expected-traded, expected-all}
use Rattle.continuous_laws.proofs.LawLemmas.{expected_conform}
use Rattle.order_book.specs.declared.books.Resting.{Resting}
use Rattle.continuous_audit.specs.declared.order_numbers.OrderNumbers.{OrderNumbers}
use Rattle.continuous_audit.specs.declared.books.Books.{Books}
use Rattle.continuous_audit.specs.declared.fills.Fill.{Fill}
use Rattle.continuous_audit.specs.declared.pairs.FillPair.{FillPair}
use Rattle.continuous_audit.specs.Books.{AreBooksOfAmounts, book_list, books_with_list}
use Rattle.continuous_audit.specs.Chains.{IsKnownBeforeArrival}
use Rattle.continuous_audit.specs.Fills.{quantity_filled, fills_of, resting_after_fills, total_filled}
use Rattle.continuous_audit.specs.Holding.{IsListOfAmounts, resting_left_before, resting_left_after_deals}
use Rattle.continuous_audit.specs.Matching.{AreExpectedDeals}
use Rattle.continuous_audit.specs.Pairs.{AreSharedPairs, IsSharedPair, FillPairsDiffer, fill_pair_orders, fill_pair}
use Rattle.continuous_audit.proofs.BooksLemmas.{side-holds, both-hold}
use Rattle.continuous_audit.proofs.FilledLemmas.{FillsDiffer, total-by-order, own-filled, some-filled, fills-all, fills-in_size, fills-apart, IsInSize}
use Rattle.continuous_audit.proofs.HoldLemmas.{hold-same}
use Rattle.continuous_audit.proofs.RecordLemmas.{own-holds}
use Rattle.continuous_laws.proofs.PlaceLemmas.{traded-none}
use Rattle.continuous_audit.proofs.RestLemmas.{resting_left-future}
use Rattle.continuous_audit.proofs.WalkLemmas.{found_of, found_ahead, share-filled, walk-holds}

-- there are Expected trades, and they conform
pub some-expected : (orders : List Order) → IsOrderList orders → Regular orders → (deals : List Deal) × AreExpectedDeals orders deals
some-expected orders list regular =
    let e = expected-exist orders list in
    (e.0, record { expected = e.1; conforms = expected_conform orders e.0 list regular e.1 })

-- the number at an index of a list in which one is set
pub set-at : (xs ys : List ℕ) (n v x : ℕ) → n < length xs → ys ≡ slice_set xs n v → x ≡ n → number_at ys x ≡ v
set-at xs ys n v x inside is e = ap (λ (zs : List ℕ). number_at zs x) is ∙ ap (number_at (slice_set xs n v)) e ∙ get_or-set_same {A = ℕ} xs n v 0 inside

pub set-other : (xs ys : List ℕ) (n v x : ℕ) → ys ≡ slice_set xs n v → x ≢ n → number_at ys x ≡ number_at xs x
set-other xs ys n v x is ne = ap (λ (zs : List ℕ). number_at zs x) is ∙ get_or-set_other {A = ℕ} xs n x v 0 ne

pub set-length : (xs ys : List ℕ) (n v : ℕ) → ys ≡ slice_set xs n v → length ys ≡ length xs
set-length xs ys n v is = ap (λ (zs : List ℕ). length zs) is ∙ length-set {A = ℕ} xs n v

-- one list of pairs after another
pairs-append : (xs ys : List FillPair) → AllPairs FillPairsDiffer xs → AllPairs FillPairsDiffer ys → All (λ p. All (FillPairsDiffer p) ys) xs → AllPairs FillPairsDiffer (xs ++ ys)
pairs-append [] ys p q h = q
pairs-append (x ∷ xs) ys p q h =
    AllPairs-cons FillPairsDiffer x (xs ++ ys) (All-append (FillPairsDiffer x) xs ys (AllPairs-head FillPairsDiffer x xs p) (All-head (λ p. All (FillPairsDiffer p) ys) x xs h))
    (pairs-append xs ys (AllPairs-tail FillPairsDiffer x xs p) q (All-tail (λ p. All (FillPairsDiffer p) ys) x xs h))

-- the pairs of fills of different orders differ
pair-differ : (s : Side) (n : ℕ) (f g : Fill) → FillsDiffer f g → FillPairsDiffer (fill_pair s n f) (fill_pair s n g)
pair-differ Buy n f g ne = λ bid ask. ne ask
pair-differ Sell n f g ne = λ bid ask. ne bid

pairs-differ : (s : Side) (n : ℕ) (fills : List Fill) → AllPairs FillsDiffer fills → AllPairs FillPairsDiffer (map (fill_pair s n) fills)
pairs-differ s n [] apart = λ i j d lt below. absurd (omega arith)
pairs-differ s n (f ∷ fills) apart =
    AllPairs-cons FillPairsDiffer (fill_pair s n f) (map (fill_pair s n) fills)
    (All-map (FillPairsDiffer (fill_pair s n f)) (fill_pair s n) fills (All-weaker (FillsDiffer f) (λ g. FillPairsDiffer (fill_pair s n f) (fill_pair s n g)) (λ g ne. pair-differ s n f g ne) fills (AllPairs-head FillsDiffer f fills apart)))
    (pairs-differ s n fills (AllPairs-tail FillsDiffer f fills apart))

-- a pair of n differs from one of earlier orders
pair-newer : (s : Side) (n : ℕ) (p : FillPair) (f : Fill) → p.bid < n → p.ask < n → FillPairsDiffer p (fill_pair s n f)
pair-newer Buy n p f b a = λ bid ask. omega arith
pair-newer Sell n p f b a = λ bid ask. omega arith

-- a member of a list is one of the list that is made of it
made-has : {X Y : Type 0} (f : X → Y) (xs : List X) (x : X) → Contains xs x → Contains (map f xs) (f x)
made-has f xs x (k, lt, is) = (k, rw (length-map xs f) lt, get_or-map f xs k x (f x) lt ∙ ap f is)

nested : (m r : Bool) (q : ℕ) → cond m (cond r q 0) 0 ≡ cond (m && r) q 0
nested true r q = refl
nested false r q = refl

module _ (orders : List Order) (list : IsOrderList orders) (n : ℕ) (n_inside : n < length orders) (deals : List Deal) (is : AreExpectedDeals orders deals) where
  abbrev p : ℕ
  p = place_at orders n

  abbrev past : ℕ → ℕ → ℕ
  past = traded_before orders deals

  abbrev s : Side
  s = side_at orders n

  abbrev t : Side
  t = other_side s

  abbrev rested : ℕ → ℕ
  rested = resting_left_before orders past p

  available-is : (k : ℕ) → found_of orders list n rested k ≡ available_quantity orders past n k
  unfolding available_quantity resting_left_before
  available-is k = nested (orders_meet (order_at orders n) (order_at orders k)) (rests_before_in_ledger orders past p k) (left_before_in_ledger orders past p k)

  -- what is known of the orders when the order at n comes
  pub arrival-is : (traded : List ℕ) (order_numbers : OrderNumbers) → ((x : ℕ) → x < length orders → number_at traded x ≡ past p x) → ((x : ℕ) → x < n → number_at order_numbers.chain_traded.items x ≡ chain_traded_quantity orders deals x)
      → ((x : ℕ) → x < n → number_at order_numbers.left.items x ≡ left_before orders deals p x) → IsKnownBeforeArrival orders deals n traded order_numbers
  arrival-is traded order_numbers traded_is chain_traded_is left_is = record { conforms = λ i lt. is.conforms.each i; named = is.conforms.named; traded_is = traded_is; chain_traded_is = chain_traded_is; left_is = left_is }

  -- what rests is earlier
  earlier : (k : ℕ) → k < length orders → 0 < rested k → (k < n) × (place_at orders k < p)
  earlier k inside some = elim (cases_lt (place_at orders k) p) [
    | inr late ↦ let z = resting_left-future orders past p k late in absurd (omega arith)
    | inl less ↦ elim (cases_lt k n) [
      | inl lt ↦ (lt, less)
      | inr more ↦ elim (cases_eq k n) [
        | inl e ↦ let same : place_at orders k ≡ p = ap (place_at orders) e in absurd (omega arith)
        | inr ne ↦ let up = place-rises orders list n k (omega (arith, ne)) inside in absurd (omega arith)
      ]
    ]
  ]

  -- whatever the size is, all that it trades with are orders of the list
  pub fills-inside-any : (b : Books) → AreBooksOfAmounts orders rested b → (q : ℕ) → All (λ f. f.index < length orders) (fills_of s (limit_at orders n) q (book_list t b))
  fills-inside-any b hold q = fills-all s (limit_at orders n) (λ i. i < length orders) q (book_list t b) (λ k d lt. ((side-holds orders rested t b hold).only k d lt).inside)

  module _ (b : Books) (hold : AreBooksOfAmounts orders rested b) (q : ℕ) (size_is : q ≡ size_of_order orders deals n) where
    abbrev ys : List Resting
    ys = book_list t b

    abbrev fills : List Fill
    fills = fills_of s (limit_at orders n) q ys

    held : IsListOfAmounts orders t rested ys
    held = side-holds orders rested t b hold

    filled-share : (k : ℕ) → k < length orders → quantity_filled fills k ≡ incoming_share orders past n k
    filled-share k lt =
        let sums : found_ahead orders list n rested k ≡ available_quantity_ahead orders past n k = below-same _ _ (length orders) (λ j below. ap (λ (m : ℕ). cond (better (order_at orders j) (order_at orders k)) m 0) (available-is j)) in
        share-filled orders list n rested q ys held k lt ∙ (λ i. min (available-is k i) (size_is i - sums i))

    pub fills-inside : All (λ f. f.index < length orders) fills
    fills-inside = fills-inside-any b hold q

    fills-rested : All (λ f. 0 < rested f.index) fills
    fills-rested = fills-all s (limit_at orders n) (λ i. 0 < rested i) q ys (λ k d lt. (held.only k d lt).some)

    fills-sided : All (λ f. side_at orders f.index ≡ t) fills
    fills-sided = fills-all s (limit_at orders n) (λ i. side_at orders i ≡ t) q ys (λ k d lt. (held.only k d lt).of_side)

    pub fills-sized : All (IsInSize s (limit_at orders n) q) fills
    fills-sized = fills-in_size s (limit_at orders n) q ys (λ k d lt. let part = held.only k d lt in let some = part.some in let e = ap (λ (r : Resting). r.left) part.is in omega arith)

    differ : AllPairs FillsDiffer fills
    differ = fills-apart s (limit_at orders n) orders t rested q ys held.only held.ranked

    fills-earlier : All (λ f. f.index < n) fills
    fills-earlier k d lt = (earlier (get_or fills k d).index (fills-inside k d lt) (fills-rested k d lt)).0

    -- what has traded afterwards
    pub traded-other : (k : ℕ) → k < length orders → k ≢ n → traded_before orders deals (suc p) k ≡ past p k + quantity_filled fills k
    traded-other k inside ne =
        let here : traded_at orders deals p k ≡ quantity_filled fills k = expected-traded orders list deals is.expected n n_inside k inside ne ∙ sym (filled-share k inside) in
        omega (arith, traded-more orders deals p k)

    pub traded-own : traded_before orders deals (suc p) n ≡ total_filled fills
    traded-own =
        let here : traded_at orders deals p n ≡ total_filled fills =
        expected-all orders list deals is.expected n n_inside ∙ below-same _ _ (length orders) (λ k lt. sym (filled-share k lt)) ∙ total-by-order fills (length orders) fills-inside in
        let none = traded-none orders deals p n (omega arith) in
        omega (arith, traded-more orders deals p n)

    -- what both books hold afterwards
    pub books-after : AreBooksOfAmounts orders (resting_left_after_deals orders deals p) (books_with_list t (resting_after_fills s (limit_at orders n) q ys) b)
    books-after = both-hold orders (resting_left_after_deals orders deals p) s b (resting_after_fills s (limit_at orders n) q ys) hold.bid_side hold.ask_side
        (own-holds orders list deals is.conforms.named n n_inside (book_list s b) (side-holds orders rested s b hold))
        (hold-same orders t (λ k. rested k - quantity_filled fills k) (resting_left_after_deals orders deals p) (resting_after_fills s (limit_at orders n) q ys)
        (λ k inside of.
        let ne : k ≢ n = λ e. side-other s (sym (ap (side_at orders) e) ∙ of) in
        ap (λ (m : ℕ). rested k - m) (expected-traded orders list deals is.expected n n_inside k inside ne ∙ sym (filled-share k inside)))
        (walk-holds orders s t (limit_at orders n) rested q ys held))

    -- the pairs that trade
    shared-by : (side : Side) → s ≡ side → (f : Fill) → side_at orders f.index ≡ other_side side → place_at orders f.index < p
        → pair_share orders past (fill_pair side n f).bid (fill_pair side n f).ask ≡ incoming_share orders past n f.index
    unfolding pair_share
    shared-by Buy own f of less =
        cond-true _ _ 0 (and_from _ _ (is-same_side _ Buy own) (is-same_side _ Sell of))
        ∙ cond-false (nat_lt p (place_at orders f.index)) (incoming_share orders past f.index n) (incoming_share orders past n f.index) (le-ltb _ _ (omega arith))
    shared-by Sell own f of less =
        cond-true _ _ 0 (and_from _ _ (is-same_side _ Buy of) (is-same_side _ Sell own))
        ∙ cond-true (nat_lt (place_at orders f.index) p) (incoming_share orders past n f.index) (incoming_share orders past f.index n) (lt-ltb _ _ less)

    within-new : (side : Side) (f : Fill) → f.index < n → ((fill_pair side n f).bid < suc n) × ((fill_pair side n f).ask < suc n) × ((fill_pair side n f).quantity ≡ f.quantity)
    within-new Buy f lt = (omega arith, omega arith, refl)
    within-new Sell f lt = (omega arith, omega arith, refl)

    new-shared : All (IsSharedPair orders deals (suc n)) (map (fill_pair s n) fills)
    new-shared = All-map (IsSharedPair orders deals (suc n)) (fill_pair s n) fills (λ k d lt.
        let f = get_or fills k d in
        let in-new = within-new s f (fills-earlier k d lt) in
        let less = (earlier f.index (fills-inside k d lt) (fills-rested k d lt)).1 in
        record {
          bid_inside = in-new.0;
          ask_inside = in-new.1;
          is = in-new.2 ∙ own-filled fills differ k d lt ∙ filled-share f.index (fills-inside k d lt) ∙ sym (shared-by s refl f (fills-sided k d lt) less);
        })

    -- each order that has a share with that at n is filled
    new-has : (side : Side) → s ≡ side → (k : ℕ) → k < n → side_at orders k ≡ other_side side → (quantity : ℕ) → (f : Fill) → f ≡ record { index = k; quantity = quantity }
        → 0 < pair_share orders past (fill_pair side n f).bid (fill_pair side n f).ask → (g : Fill) × Contains fills g × (g.index ≡ k)
    new-has side own k lt of quantity f f_is some =
        let at : f.index ≡ k = ap (λ (g : Fill). g.index) f_is in
        let up = place-rises orders list k n lt n_inside in
        let same : place_at orders f.index ≡ place_at orders k = ap (place_at orders) at in
        let shared_is = shared-by side own f (ap (side_at orders) at ∙ of) (omega arith) in
        let filled_is : quantity_filled fills k ≡ incoming_share orders past n f.index = filled-share k (omega arith) ∙ ap (incoming_share orders past n) (sym at) in
        some-filled fills k (omega arith)

    ends-at : (side : Side) (g : Fill) (k : ℕ) → g.index ≡ k → fill_pair_orders (fill_pair side n g) ≡ fill_pair_orders (fill_pair side n (record { index = k; quantity = 0 }))
    ends-at Buy g k e = ap (λ (i : ℕ). (n, i)) e
    ends-at Sell g k e = ap (λ (i : ℕ). (i, n)) e

    new-ends : (side : Side) → s ≡ side → (k : ℕ) → k < n → side_at orders k ≡ other_side side
        → 0 < pair_share orders past (fill_pair side n (record { index = k; quantity = 0 })).bid (fill_pair side n (record { index = k; quantity = 0 })).ask
        → Contains (map fill_pair_orders (map (fill_pair s n) fills)) (fill_pair_orders (fill_pair side n (record { index = k; quantity = 0 })))
    new-ends side own k lt of some =
        let found = new-has side own k lt of 0 (record { index = k; quantity = 0 }) refl some in
        let has = made-has fill_pair_orders (map (fill_pair s n) fills) (fill_pair s n found.0) (made-has (fill_pair s n) fills found.0 found.1) in
        subst (Contains (map fill_pair_orders (map (fill_pair s n) fills))) (ap (λ (u : Side). fill_pair_orders (fill_pair u n found.0)) own ∙ ends-at side found.0 k found.2) has

    pub pairs-after : (pairs new : List FillPair) → AreSharedPairs orders deals n pairs → new ≡ pairs ++ map (fill_pair s n) fills → AreSharedPairs orders deals (suc n) new
    pairs-after pairs new old new_is = subst (AreSharedPairs orders deals (suc n)) (sym new_is) (record {
      each = All-append (IsSharedPair orders deals (suc n)) pairs (map (fill_pair s n) fills)
          (All-weaker (IsSharedPair orders deals n) (IsSharedPair orders deals (suc n)) (λ d h. let b = h.bid_inside in let a = h.ask_inside in record { bid_inside = omega arith; ask_inside = omega arith; is = h.is }) pairs old.each) new-shared;
      complete = λ bid ask b a some.
          let sides = shared orders past bid ask some in
          subst (λ (es : List (ℕ × ℕ)). Contains es (bid, ask)) (sym (map-append fill_pair_orders pairs (map (fill_pair s n) fills)))
          (elim (cases_eq bid n) [
            | inl e ↦
                let own : s ≡ Buy = sym (ap (side_at orders) e) ∙ sides.buys in
                let ne : ask ≢ n = λ f. not_both_sides (sym own ∙ sym (ap (side_at orders) f) ∙ sides.sells) in
                Contains-append_right (map fill_pair_orders pairs) (map fill_pair_orders (map (fill_pair s n) fills)) (bid, ask)
                (subst (λ (k : ℕ). Contains (map fill_pair_orders (map (fill_pair s n) fills)) (k, ask)) (sym e)
                (new-ends Buy own ask (omega (arith, ne)) sides.sells (subst (λ (k : ℕ). 0 < pair_share orders past k ask) e some)))
            | inr bid_other ↦ elim (cases_eq ask n) [
              | inl e ↦
                  let own : s ≡ Sell = sym (ap (side_at orders) e) ∙ sides.sells in
                  Contains-append_right (map fill_pair_orders pairs) (map fill_pair_orders (map (fill_pair s n) fills)) (bid, ask)
                  (subst (λ (k : ℕ). Contains (map fill_pair_orders (map (fill_pair s n) fills)) (bid, k)) (sym e)
                  (new-ends Sell own bid (omega (arith, bid_other)) sides.buys (subst (λ (k : ℕ). 0 < pair_share orders past bid k) e some)))
              | inr ask_other ↦ Contains-append_left (map fill_pair_orders pairs) (map fill_pair_orders (map (fill_pair s n) fills)) (bid, ask) (old.complete bid ask (omega (arith, bid_other)) (omega (arith, ask_other)) some)
            ]
          ]);
      apart = pairs-append pairs (map (fill_pair s n) fills) old.apart (pairs-differ s n fills differ) (λ k d lt.
          let h = old.each k d lt in
          All-map (FillPairsDiffer (get_or pairs k d)) (fill_pair s n) fills (λ i f below. pair-newer s n (get_or pairs k d) (get_or fills i f) h.bid_inside h.ask_inside));
    })
