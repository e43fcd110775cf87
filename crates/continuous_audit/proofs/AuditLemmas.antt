-- Before the first order and after the last one.
use Rattle.std.proofs.Common.{◌≡◌, ◌<◌, ◌≤◌, ◌-◌, ℕ, zero, suc, List, [], length, Bool, true, false, cond, refl, sym, ap, ◌∙◌, arith, inl, inr, subst, get_or}
use Rattle.std.specs.Prelude.{replicate, nat_lt, ◌&&◌}
use Rattle.std.proofs.lemmas.Bool.{cases_eq, cases_lt, lt-ltb, le-ltb, cond-false}
use Rattle.std.proofs.lemmas.List.{length-replicate, get_or-replicate, get_or_past}
use Rattle.audit_base.specs.declared.terms.Side.{Side}
use Rattle.audit_base.specs.declared.terms.Side.TheVariants.{Buy, Sell}
use Rattle.audit_base.specs.declared.orders.Order.{Order}
use Rattle.audit_base.specs.declared.orders.Deal.{Deal}
use Rattle.audit_base.specs.Orders.{place_at, IsOrderList}
use Rattle.audit_base.specs.Deals.{AreTotals, names_order, traded, quantity_traded_by, IsDealList, number_at}
use Rattle.audit_base.specs.Continuous.{cause, traded_before}
use Rattle.audit_base.specs.ContinuousRules.{ConformsAt, ConformsContinuous}
use Rattle.audit_base.proofs.OrderLemmas.{place-rises}
use Rattle.audit_base.proofs.SumLemmas.{sum_by-same}
use Rattle.audit_base.proofs.ContinuousOffenceLemmas.{late-conforms}
use Rattle.order_book.specs.declared.books.Resting.{Resting}
use Rattle.continuous_audit.specs.declared.books.BooksSoFar.{BooksSoFar}
use Rattle.continuous_audit.specs.declared.incoming_deals.IncomingDeal.{IncomingDeal}
use Rattle.continuous_audit.specs.declared.endings.OrderEnd.{OrderEnd}
use Rattle.continuous_audit.specs.declared.indexed_deals.IndexedDeals.{IndexedDeals}
use Rattle.continuous_audit.specs.declared.state.TradingState.{TradingState}
use Rattle.continuous_audit.specs.IndexedDeals.{IsIndexedDeals}
use Rattle.continuous_audit.specs.Books.{AreEmptyBooks, AreBooksBefore, next_order_place}
use Rattle.continuous_audit.specs.IncomingDeals.{AreIncomingDeals}
use Rattle.continuous_audit.specs.Chains.{HaveChainsEnded}
use Rattle.continuous_audit.specs.Endings.{AreEndings}
use Rattle.continuous_audit.specs.Holding.{IsListOfAmounts, resting_left_before}
use Rattle.continuous_audit.specs.Progress.{IsFirstState, IsReadyAt}
use Rattle.continuous_audit.specs.Records.{AreChainTradedNumbers, AreLeftBefore, AreSizes, ConformsAndIsUncrossed}
use Rattle.continuous_audit.specs.Scans.{AreRunningTotals, AreWithinGreatestSize, IsSplitAt}
use Rattle.continuous_audit.proofs.NumberLemmas.{traded-at}
use Rattle.continuous_audit.proofs.RestLemmas.{resting_left-future}
use Rattle.continuous_audit.proofs.VerdictLemmas.{calm-first}

pub zero-in : (n x : ℕ) → number_at (replicate n 0) x ≡ 0
zero-in n x = elim (cases_lt x n) [
  | inl lt ↦ get_or-replicate {A = ℕ} n x 0 0 lt
  | inr ge ↦ get_or_past (replicate n 0) x 0 (omega (arith, length-replicate {A = ℕ} n 0))
]

-- before the first order nothing rests
module _ (orders : List Order) (list : IsOrderList orders) (deals : List Deal) where
  pub first-place : (k : ℕ) → k < length orders → place_at orders 0 ≤ place_at orders k
  first-place k lt = elim (cases_eq k 0) [
    | inl e ↦ let same : place_at orders k ≡ place_at orders 0 = ap (place_at orders) e in omega arith
    | inr ne ↦ let up = place-rises orders list 0 k (omega (arith, ne)) lt in omega arith
  ]

  nothing-held : (side : Side) (xs : List Resting) → xs ≡ [] → IsListOfAmounts orders side (resting_left_before orders (traded_before orders deals) (place_at orders 0)) xs
  nothing-held side xs e = subst (IsListOfAmounts orders side (resting_left_before orders (traded_before orders deals) (place_at orders 0))) (sym e) (record {
    only = λ i d lt. absurd (omega arith);
    each = λ i lt of some. let z = resting_left-future orders (traded_before orders deals) (place_at orders 0) i (first-place i lt) in absurd (omega arith);
    ranked = λ i j d lt below. absurd (omega arith);
  })

  pub empty-hold : (books_so_far : BooksSoFar) → AreEmptyBooks books_so_far → AreBooksBefore orders deals (place_at orders 0) books_so_far.books
  empty-hold books_so_far bare = record { bid_side = bare.bid_side; ask_side = bare.ask_side; bids = nothing-held Buy books_so_far.books.bids.resting bare.bids; asks = nothing-held Sell books_so_far.books.asks.resting bare.asks }

-- a market, of the lists that the code has made
pub market-read : (m : IndexedDeals) (incoming_deals : List IncomingDeal) (endings : List OrderEnd) → IsOrderList m.orders.now → IsDealList m.orders.now m.deals.now → m.incoming_deals.now ≡ incoming_deals → m.endings.now ≡ endings
    → AreIncomingDeals m.orders.now m.deals.now incoming_deals → AreEndings m.orders.now endings → IsIndexedDeals m
market-read m incoming_deals endings list deal_list incoming_deals_are endings_are made ends = record {
  order_list = list;
  deal_list = deal_list;
  incoming_deals = subst (AreIncomingDeals m.orders.now m.deals.now) (sym incoming_deals_are) made;
  endings = subst (AreEndings m.orders.now) (sym endings_are) ends;
}

module _ (m : IndexedDeals) (is : IsIndexedDeals m) where
  abbrev orders : List Order
  orders = m.orders.now

  abbrev deals : List Deal
  deals = m.deals.now

  pub ready-first : (state : TradingState) → IsFirstState (length orders) state → IsReadyAt m 0 (next_order_place orders 0) state
  ready-first state bare = record {
    calm = calm-first orders deals (place_at orders 0) is.deal_list.named (first-place orders is.order_list deals);
    known = record {
      chain_traded = subst (AreChainTradedNumbers orders deals 0) (sym bare.numbers.order_numbers.chain_traded) (record {
        count = length-replicate {A = ℕ} (length orders) 0;
        is = λ x lt. absurd (omega arith);
        fits = λ x. let z = zero-in (length orders) x in omega arith;
        bounded = λ x. let z = zero-in (length orders) x in omega arith;
      });
      chain_ended = subst (HaveChainsEnded orders 0) (sym bare.numbers.order_numbers.chain_ended) (record { count = length-replicate {A = Bool} (length orders) false; is = λ x lt. absurd (omega arith) });
      sizes = subst (AreSizes orders deals 0) (sym bare.numbers.order_numbers.sizes) (record { count = length-replicate {A = ℕ} (length orders) 0; is = λ x lt. absurd (omega arith); most = λ x. let z = zero-in (length orders) x in omega arith });
      left = subst (AreLeftBefore orders deals 0 (place_at orders 0)) (sym bare.numbers.order_numbers.left) (record { count = length-replicate {A = ℕ} (length orders) 0; is = λ x lt. absurd (omega arith) });
      running = record {
        totals = subst (λ (at : ℕ). AreRunningTotals orders deals m.incoming_deals.now at state.numbers.running.traded.items) (sym bare.numbers.added) (subst (AreRunningTotals orders deals m.incoming_deals.now 0) (sym bare.numbers.traded) (record {
          inside = omega arith;
          count = length-replicate {A = ℕ} (length orders) 0;
          sums = λ x lt. zero-in (length orders) x;
          fits = λ x lt. let z = zero-in (length orders) x in omega arith;
        }));
        split = subst (IsSplitAt m.incoming_deals.now 0) (sym bare.numbers.added) (record { early = λ i lt below. absurd (omega arith); late = λ i le below. omega arith });
        most = subst AreWithinGreatestSize (sym bare.numbers.traded) (λ x. let z = zero-in (length orders) x in omega arith);
      };
    };
    books = empty-hold orders is.order_list deals state.books_so_far bare.books_so_far;
    dropped = record { inside = let e = bare.books_so_far.start in omega arith; early = λ i lt below. let e = bare.books_so_far.start in absurd (omega arith) };
  }

  -- all places are below that which follows the last order
  below-ready : (last : ℕ) → last ≡ length orders → (k : ℕ) → k < length orders → place_at orders k < next_order_place orders last
  below-ready zero e k lt = absurd (omega arith)
  below-ready (suc last) e k lt =
      let here : next_order_place orders (suc last) ≡ suc (place_at orders last) = cond-false (nat_lt (suc last) (length orders)) (place_at orders (suc last)) (suc (place_at orders last)) (le-ltb _ _ (omega arith)) in
      elim (cases_eq k last) [
        | inl same ↦ let f : place_at orders k ≡ place_at orders last = ap (place_at orders) same in omega arith
        | inr ne ↦ let up = place-rises orders is.order_list k last (omega (arith, ne)) (omega arith) in omega arith
      ]

  pub end-conforms : (q : ℕ) → ((k : ℕ) → k < length orders → place_at orders k < q) → ConformsAndIsUncrossed orders deals q → ConformsContinuous orders deals
  end-conforms zero top calm = record { named = is.deal_list.named; each = λ i. (calm-first orders deals (suc i) is.deal_list.named (λ x lt. let t = top x lt in absurd (omega arith))).conforms i (omega arith) }
  end-conforms (suc last) top calm = record {
    named = is.deal_list.named;
    each = λ i. elim (cases_lt i (suc last)) [
      | inl lt ↦ calm.conforms i lt
      | inr le ↦ subst (λ j. ConformsAt orders deals j) (omega arith) (late-conforms orders deals last is.deal_list.named (λ x lt. let t = top x lt in omega arith) calm.conforms (i - last))
    ];
  }

  -- what is traded before a place that follows all is all that is traded
  all-traded : (q : ℕ) → ((k : ℕ) → k < length orders → place_at orders k < q) → (x : ℕ) → traded_before orders deals q x ≡ traded deals x
  unfolding traded_before
  all-traded q top x = sum_by-same (λ d. cond (names_order x d && nat_lt (cause orders d) q) d.quantity 0) (quantity_traded_by x) deals (λ k e lt.
      let d = get_or deals k e in
      let ends = is.deal_list.named k e lt in
      let b = top d.bid ends.bid_inside in
      let a = top d.ask ends.ask_inside in
      let t : nat_lt (cause orders d) q ≡ true = lt-ltb _ _ (omega arith) in
      ap (λ (c : Bool). cond c d.quantity 0) (ap (λ (c : Bool). names_order x d && c) t ∙ and-always (names_order x d)))
    where
      and-always : (c : Bool) → (c && true) ≡ c
      and-always true = refl
      and-always false = refl

  module _ (state : TradingState) (ready : IsReadyAt m (length orders) (next_order_place orders (length orders)) state) where
    abbrev q : ℕ
    q = next_order_place orders (length orders)

    pub last-conforms : ConformsContinuous orders deals
    last-conforms = end-conforms q (below-ready (length orders) refl) ready.calm

    pub last-totals : AreTotals orders deals state.numbers.running.traded.items
    last-totals = record {
      count = ready.known.running.totals.count;
      each = λ x lt.
          let t = traded-at orders is.order_list deals is.deal_list m.incoming_deals.now is.incoming_deals q (length orders) state.numbers.running.added state.numbers.running.traded.items ready.known.running.split ready.known.running.totals (λ k inside below. below-ready (length orders) refl k inside) (λ k inside le. absurd (omega arith)) in
          t.is x lt ∙ all-traded q (below-ready (length orders) refl) x;
    }
