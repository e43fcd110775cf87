-- A walk at its first place, with the next order taken, and at the next place.
use Rattle.std.proofs.Common.{◌≡◌, ◌≢◌, ◌<◌, ◌≤◌, ◌^◌, ℕ, suc, List, [], length, Bool, true, false, refl, sym, ap, ◌∙◌, arith, inl, inr, subst, All, AllPairs, option_map}
use Rattle.std.specs.Prelude.{◌==◌, nat_lt}
use Rattle.std.proofs.lemmas.Bool.{cases_Bool, cases_eq, cases_lt, both_ways, cond-true, cond-false, eq-eqb, eqb-true, lt-ltb, ltb-true}
use Rattle.std.proofs.lemmas.List.Elements.{All-nil, All-weaker}
use Rattle.audit_base.specs.declared.orders.Order.{Order}
use Rattle.audit_base.specs.declared.orders.Deal.{Deal}
use Rattle.audit_base.specs.declared.terms.Side.{Side}
use Rattle.audit_base.specs.declared.terms.Side.TheVariants.{Buy, Sell}
use Rattle.audit_base.specs.Continuous.{active_after}
use Rattle.audit_base.specs.Orders.{limit_at, place_at, side_at}
use Rattle.audit_base.proofs.OrderLemmas.{not_both_sides, place-rises}
use Rattle.continuous_audit.specs.Records.{AreTradedBefore}
use Rattle.continuous_picture.specs.Sizes.{AreSizesOf}
use Rattle.continuous_audit.proofs.NumberLemmas.{traded-at}
use Rattle.order_arrivals.specs.declared.dealt_orders.DealtOrders.{DealtOrders}
use Rattle.order_arrivals.specs.DealtOrders.{HaveTraded, IsMarket}
use Rattle.order_book.specs.Books.{BookSide, IsAheadInBook, best_resting, with_order}
use Rattle.order_book.specs.declared.books.Resting.{Resting}
use Rattle.continuous_picture.specs.declared.active.StateAfterRecord.{StateAfterRecord}
use Rattle.continuous_picture.specs.declared.walks.Walk.{Walk}
use Rattle.continuous_picture.specs.Active.{IsKnownAt, known_deals, is_active_in_book, known_orders}
use Rattle.continuous_picture.specs.Quotes.{best_limit}
use Rattle.continuous_picture.specs.Walks.{AreCome, HasNext, HasLineOf, IsBookOnWalk, IsInWalkBook, IsWalk, from_passing, is_next_at}
use Rattle.continuous_picture.proofs.ActiveLemmas.{active-come, active-earlier, active-is}
use Rattle.continuous_picture.proofs.BookLemmas.{Tells, best-limit, book-first, with-all, with-has, with-own}

-- An empty walk.

book-none : (orders : List Order) (deals : List Deal) (side : Side) (place : ℕ) (xs : List Resting) → xs ≡ [] → IsBookOnWalk orders deals side 0 place xs
book-none orders deals side place xs e = subst (IsBookOnWalk orders deals side 0 place) (sym e) (record {
  only = All-nil (IsInWalkBook orders side 0);
  each = λ x lt of t. absurd (omega arith);
})

pub walk-first : (m : DealtOrders) → IsMarket m → (w : Walk) → w.next ≡ 0 → w.bids ≡ record { side = Buy; resting = [] } → w.asks ≡ record { side = Sell; resting = [] } → HaveTraded m 0 w.totals.added w.totals.traded.items
    → IsWalk m (place_at m.orders.now 0) (place_at m.orders.now 0) w
walk-first m is w next bids asks traded =
    let orders = m.orders.now in
    let p = place_at orders 0 in
    record {
      come = record {
        inside = omega arith;
        come = λ x lt. absurd (omega arith);
        coming = λ x le lt. elim (cases_eq x 0) [
          | inl e ↦ let same : place_at orders x ≡ p = ap (place_at orders) e in omega arith
          | inr ne ↦ let up = place-rises orders is.order_list 0 x (omega (arith, ne)) lt in omega arith
        ];
      };
      traded = subst (λ (n : ℕ). HaveTraded m n w.totals.added w.totals.traded.items) (sym next) traded;
      bid_side = ap (λ (b : BookSide). b.side) bids;
      ask_side = ap (λ (b : BookSide). b.side) asks;
      bids = subst (λ (n : ℕ). IsBookOnWalk orders m.deals.now Buy n p w.bids.resting) (sym next) (book-none orders m.deals.now Buy p w.bids.resting (ap (λ (b : BookSide). b.resting) bids));
      asks = subst (λ (n : ℕ). IsBookOnWalk orders m.deals.now Sell n p w.asks.resting) (sym next) (book-none orders m.deals.now Sell p w.asks.resting (ap (λ (b : BookSide). b.resting) asks));
    }

-- One order more.

module _ (orders : List Order) (deals : List Deal) (n place : ℕ) where
  longer : (side : Side) (xs : List Resting) → All (IsInWalkBook orders side n) xs → All (IsInWalkBook orders side (suc n)) xs
  longer side xs = All-weaker (IsInWalkBook orders side n) (IsInWalkBook orders side (suc n)) (λ r is. record { inside = let i = is.inside in omega arith; of_side = is.of_side; limit = is.limit }) xs

  skipped : (side : Side) (xs : List Resting) → side_at orders n ≢ side → IsBookOnWalk orders deals side n place xs → IsBookOnWalk orders deals side (suc n) place xs
  skipped side xs other is = record {
    only = longer side xs is.only;
    each = λ x lt of t. elim (cases_eq x n) [
      | inl e ↦ absurd (other (ap (side_at orders) (sym e) ∙ of))
      | inr ne ↦ is.each x (omega (arith, ne)) of t
    ];
  }

  added : (side : Side) (xs : List Resting) (r : Resting) → r.index ≡ n → r.limit ≡ limit_at orders n → side_at orders n ≡ side → IsBookOnWalk orders deals side n place xs → IsBookOnWalk orders deals side (suc n) place (with_order side r xs)
  added side xs r i l of is = record {
    only = with-all side r (IsInWalkBook orders side (suc n)) xs (record { inside = omega arith; of_side = ap (side_at orders) i ∙ of; limit = l ∙ ap (limit_at orders) (sym i) }) (longer side xs is.only);
    each = λ x lt of' t. elim (cases_eq x n) [
      | inl e ↦ subst (HasLineOf (with_order side r xs)) (i ∙ sym e) (with-own side r xs)
      | inr ne ↦ with-has side r x xs (is.each x (omega (arith, ne)) of' t)
    ];
  }

pub book-below : (orders : List Order) (deals : List Deal) (side : Side) (count place : ℕ) (xs : List Resting) → IsBookOnWalk orders deals side count place xs → All (λ r. r.index < count) xs
book-below orders deals side count place xs is = All-weaker (IsInWalkBook orders side count) (λ r. r.index < count) (λ r own. own.inside) xs is.only

module _ (m : DealtOrders) (place : ℕ) (old new : Walk) (is : IsWalk m place place old) (next : new.next ≡ old.next) (totals : new.totals ≡ old.totals) (r : Resting) (index : r.index ≡ old.next) (limit : r.limit ≡ limit_at m.orders.now old.next) where
  abbrev orders : List Order
  orders = m.orders.now

  abbrev deals : List Deal
  deals = m.deals.now

  pub next-bid : side_at orders old.next ≡ Buy → new.bids ≡ record old.bids { resting = with_order old.bids.side r old.bids.resting } → new.asks ≡ old.asks → HasNext m place old new
  next-bid buys bids asks = record {
    next = next;
    totals = totals;
    bid_side = ap (λ (b : BookSide). b.side) bids ∙ is.bid_side;
    ask_side = ap (λ (b : BookSide). b.side) asks ∙ is.ask_side;
    bids = subst (IsBookOnWalk orders deals Buy (suc old.next) place) (sym (ap (λ (b : BookSide). b.resting) bids ∙ ap (λ (s : Side). with_order s r old.bids.resting) is.bid_side)) (added orders deals old.next place Buy old.bids.resting r index limit buys is.bids);
    asks = subst (IsBookOnWalk orders deals Sell (suc old.next) place) (sym (ap (λ (b : BookSide). b.resting) asks)) (skipped orders deals old.next place Sell old.asks.resting (λ e. not_both_sides (sym buys ∙ e)) is.asks);
  }

  pub next-ask : side_at orders old.next ≡ Sell → new.asks ≡ record old.asks { resting = with_order old.asks.side r old.asks.resting } → new.bids ≡ old.bids → HasNext m place old new
  next-ask sells asks bids = record {
    next = next;
    totals = totals;
    bid_side = ap (λ (b : BookSide). b.side) bids ∙ is.bid_side;
    ask_side = ap (λ (b : BookSide). b.side) asks ∙ is.ask_side;
    bids = subst (IsBookOnWalk orders deals Buy (suc old.next) place) (sym (ap (λ (b : BookSide). b.resting) bids)) (skipped orders deals old.next place Buy old.bids.resting (λ e. not_both_sides (sym e ∙ sells)) is.bids);
    asks = subst (IsBookOnWalk orders deals Sell (suc old.next) place) (sym (ap (λ (b : BookSide). b.resting) asks ∙ ap (λ (s : Side). with_order s r old.asks.resting) is.ask_side)) (added orders deals old.next place Sell old.asks.resting r index limit sells is.asks);
  }

-- The order of a record is taken, or no order of the list has this record.

module _ (m : DealtOrders) (market : IsMarket m) (place : ℕ) where
  abbrev orders' : List Order
  orders' = m.orders.now

  abbrev deals' : List Deal
  deals' = m.deals.now

  pub walk-taken : (old w : Walk) → IsWalk m place place old → old.next < length orders' → place_at orders' old.next ≡ place → HasNext m place old w
      → (new : Walk) → new.next ≡ suc old.next → new.bids ≡ w.bids → new.asks ≡ w.asks → HaveTraded m (suc old.next) new.totals.added new.totals.traded.items → IsWalk m (suc place) place new
  walk-taken old w is inside here has new next bids asks traded = record {
    come = record {
      inside = omega arith;
      come = λ x lt. elim (cases_eq x old.next) [
        | inl e ↦ let same : place_at orders' x ≡ place = ap (place_at orders') e ∙ here in omega arith
        | inr ne ↦ let up = is.come.come x (omega (arith, ne)) in omega arith
      ];
      coming = λ x le lt. let up = place-rises orders' market.order_list old.next x (omega arith) lt in omega arith;
    };
    traded = subst (λ (n : ℕ). HaveTraded m n new.totals.added new.totals.traded.items) (sym next) traded;
    bid_side = ap (λ (b : BookSide). b.side) bids ∙ has.bid_side;
    ask_side = ap (λ (b : BookSide). b.side) asks ∙ has.ask_side;
    bids = let e = ap (λ (b : BookSide). b.resting) bids in subst (λ (n : ℕ). IsBookOnWalk orders' deals' Buy n place new.bids.resting) (sym next) (subst (IsBookOnWalk orders' deals' Buy (suc old.next) place) (sym e) has.bids);
    asks = let e = ap (λ (b : BookSide). b.resting) asks in subst (λ (n : ℕ). IsBookOnWalk orders' deals' Sell n place new.asks.resting) (sym next) (subst (IsBookOnWalk orders' deals' Sell (suc old.next) place) (sym e) has.asks);
  }

  later-place : (next : ℕ) → is_next_at orders' next place ≡ false → AreCome orders' next place → (x : ℕ) → next ≤ x → x < length orders' → suc place ≤ place_at orders' x
  later-place next off are x le lt =
      let on : nat_lt next (length orders') ≡ true = lt-ltb _ _ (omega arith) in
      let away : (place_at orders' next == place) ≡ false = sym (cond-true (nat_lt next (length orders')) (place_at orders' next == place) false on) ∙ off in
      let from = are.coming next (omega arith) (omega arith) in
      let above : suc place ≤ place_at orders' next = elim (cases_eq (place_at orders' next) place) [
        | inl e ↦ absurd (both_ways _ away (eq-eqb _ _ e))
        | inr ne ↦ omega (arith, ne)
      ] in
      elim (cases_eq x next) [
        | inl e ↦ let same : place_at orders' x ≡ place_at orders' next = ap (place_at orders') e in omega arith
        | inr ne ↦ let up = place-rises orders' market.order_list next x (omega (arith, ne)) lt in omega arith
      ]

  pub walk-passed : (w : Walk) → is_next_at orders' w.next place ≡ false → IsWalk m place place w → IsWalk m (suc place) place w
  walk-passed w off is = record {
    come = record {
      inside = is.come.inside;
      come = λ x lt. let up = is.come.come x lt in omega arith;
      coming = later-place w.next off is.come;
    };
    traded = is.traded;
    bid_side = is.bid_side;
    ask_side = is.ask_side;
    bids = is.bids;
    asks = is.asks;
  }

  book-later : (side : Side) (next : ℕ) (xs : List Resting) → AreCome orders' next (suc place) → IsBookOnWalk orders' deals' side next place xs → IsBookOnWalk orders' deals' side next (suc place) xs
  book-later side next xs are is = record {
    only = is.only;
    each = λ x lt of t. is.each x lt of (active-earlier orders' deals' place x (let up = are.come x lt in omega arith) t);
  }

  -- at the next place
  pub walk-later : (w : Walk) → IsWalk m (suc place) place w → IsWalk m (suc place) (suc place) w
  walk-later w is = record {
    come = is.come;
    traded = is.traded;
    bid_side = is.bid_side;
    ask_side = is.ask_side;
    bids = book-later Buy w.next w.bids.resting is.come is.bids;
    asks = book-later Sell w.next w.asks.resting is.come is.asks;
  }

  -- what each order has traded up to the place
  pub walk-traded : (w : Walk) → IsWalk m (suc place) place w → AreTradedBefore orders' deals' (suc place) w.totals.traded.items
  walk-traded w is = traded-at orders' market.order_list deals' market.deal_list m.incoming_deals.now market.incoming_deals (suc place) w.next w.totals.added w.totals.traded.items is.traded.split is.traded.totals
      (λ k inside lt. is.come.come k lt) (λ k inside le. is.come.coming k le inside)

  come-below : (w : Walk) → IsWalk m (suc place) place w → (x : ℕ) → x < length orders' → active_after orders' deals' place x ≡ true → x < w.next
  come-below w is x lt t = elim (cases_lt x w.next) [
    | inl below ↦ below
    | inr le ↦ let far = is.come.coming x le lt in let near = active-come orders' deals' place x t in absurd (omega arith)
  ]

  pub book-inside : (side : Side) (next : ℕ) (xs : List Resting) → AreCome orders' next (suc place) → IsBookOnWalk orders' deals' side next place xs → All (λ r. r.index < length orders') xs
  book-inside side next xs are is = All-weaker (IsInWalkBook orders' side next) (λ r. r.index < length orders') (λ r own. let i = own.inside in let le = are.inside in omega arith) xs is.only

  -- The best limits, and the books without those in front that are not active.

  module _ (w : Walk) (is : IsWalk m (suc place) place w) (t : Resting → Bool) (tells : Tells orders' deals' w.next place t) where
    pub best-read : (side : Side) (old new : BookSide) → new ≡ record old { resting = from_passing t old.resting } → AllPairs (IsAheadInBook new.side) new.resting → old.side ≡ side → IsBookOnWalk orders' deals' side w.next place old.resting
        → (option_map (λ (r : Resting). r.limit) (best_resting new.resting) ≡ best_limit orders' deals' side place) × (new.side ≡ side) × IsBookOnWalk orders' deals' side w.next place new.resting
    best-read side old new made ranked old_side held =
        let side_is : new.side ≡ side = ap (λ (b : BookSide). b.side) made ∙ old_side in
        let list_is : new.resting ≡ from_passing t old.resting = ap (λ (b : BookSide). b.resting) made in
        let in_order : AllPairs (IsAheadInBook side) (from_passing t old.resting) = subst (AllPairs (IsAheadInBook side)) list_is (subst (λ (s : Side). AllPairs (IsAheadInBook s) new.resting) side_is ranked) in
        let limit = best-limit orders' market.order_list deals' side w.next place is.come.inside (come-below w is) t tells old.resting held in_order in (
          ap (λ (xs : List Resting). option_map (λ (r : Resting). r.limit) (best_resting xs)) list_is ∙ limit,
          side_is,
          subst (IsBookOnWalk orders' deals' side w.next place) (sym list_is) (book-first orders' market.order_list deals' side w.next place is.come.inside (come-below w is) t tells old.resting held),
        )

-- what is known tells of the orders that have come whether they are active
pub known-tells : (k : StateAfterRecord) (next : ℕ) → AreCome (known_orders k) next (suc k.place) → Tells (known_orders k) (known_deals k) next k.place (is_active_in_book k)
known-tells k next are r lt = active-is (known_orders k) (known_deals k) k.place r.index _ _ (let up = are.come r.index lt in omega arith) refl refl

-- the next order is that of the record
pub next-at : (orders : List Order) (next place : ℕ) → is_next_at orders next place ≡ true → (next < length orders) × (place_at orders next ≡ place)
next-at orders next place t = elim (cases_Bool (nat_lt next (length orders))) [
  | inl on ↦ (ltb-true next (length orders) on, eqb-true _ _ (sym (cond-true (nat_lt next (length orders)) (place_at orders next == place) false on) ∙ t))
  | inr off ↦ absurd (both_ways false refl (sym (cond-false (nat_lt next (length orders)) (place_at orders next == place) false off) ∙ t))
]

-- what is known after the record at a place, in the words of the code
pub known-now : (k : StateAfterRecord) → IsMarket k.market.now → k.place < 2 ^ 33 → AreSizesOf (known_orders k) (known_deals k) k.sizes.now → (w : Walk) → IsWalk k.market.now (suc k.place) k.place w → k.traded.now ≡ w.totals.traded.items → IsKnownAt k
known-now k market fits sizes w is same = record {
  market = market;
  fits = fits;
  sizes = sizes;
  traded = subst (AreTradedBefore (known_orders k) (known_deals k) (suc k.place)) (sym same) (walk-traded k.market.now market k.place w is);
}
