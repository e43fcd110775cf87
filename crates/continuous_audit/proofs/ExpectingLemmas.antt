-- Before the first order nothing has traded; after the last the pairs in order are
-- the Expected trades.
use Rattle.std.proofs.Common.{◌≡◌, ◌<◌, ◌+◌, ◌^◌, ℕ, List, length, map, get_or, refl, sym, ap, ◌∙◌, arith, subst, All, AllPairs, IsPermutation, IsSorted}
use Rattle.std.specs.Prelude.{Contains}
use Rattle.std.proofs.lemmas.List.{get_or_default, get_or-map, length-map}
use Rattle.std.proofs.lemmas.List.Sorted.{All-permutation, Contains-permutation, IsPermutation-map, length_permutation}
use Rattle.audit_base.specs.declared.orders.Order.{Order}
use Rattle.audit_base.specs.declared.orders.Deal.{Deal}
use Rattle.audit_base.specs.Orders.{place_at, IsOrderList}
use Rattle.audit_base.specs.Histories.{Regular}
use Rattle.audit_base.specs.Deals.{deal_past_end, IsDealList, number_at}
use Rattle.audit_base.specs.Continuous.{traded_before}
use Rattle.audit_base.specs.ContinuousRules.{ConformsContinuous}
use Rattle.audit_base.specs.Expected.{IsExpectedContinuous, pair_share, resting_limit}
use Rattle.audit_base.proofs.PairDealLemmas as listed
use Rattle.audit_base.proofs.SortedPairLemmas.{sorted-in_order}
use Rattle.continuous_audit.specs.declared.pairs.FillPair.{FillPair}
use Rattle.continuous_audit.specs.declared.expected_trades.TradesSoFar.{TradesSoFar}
use Rattle.continuous_audit.specs.Holding.{resting_left_before}
use Rattle.continuous_audit.specs.Matching.{AreTradesAtStart, AreExpectedDeals, IsMatchedUnder}
use Rattle.continuous_audit.specs.Pairs.{AreFillPairDeals, AreSharedPairs, IsFillPairInRange, IsSharedPair, FillPairBefore, fill_pair_deal, fill_pair_orders, fill_pair_past_end, fill_pair_at, fill_pair_cmp}
use Rattle.continuous_audit.proofs.AuditLemmas.{empty-hold, first-place, zero-in}
use Rattle.continuous_audit.proofs.MatchLemmas.{some-expected}
use Rattle.continuous_laws.proofs.PlaceLemmas.{traded-none}

pub matched-first : (orders : List Order) → IsOrderList orders → (t : TradesSoFar) → AreTradesAtStart (length orders) t → (deals : List Deal)
    → IsMatchedUnder orders deals 0 (place_at orders 0) (resting_left_before orders (traded_before orders deals) (place_at orders 0)) t
matched-first orders list t bare deals = record {
  traded_is = λ x lt. ap (λ (xs : List ℕ). number_at xs x) bare.traded ∙ zero-in (length orders) x ∙ sym (traded-none orders deals (place_at orders 0) x (first-place orders list deals x lt));
  chain_traded_is = λ x lt. absurd (omega arith);
  left_is = λ x lt. absurd (omega arith);
  books = empty-hold orders list deals t.books_so_far bare.books_so_far;
  pairs = subst (AreSharedPairs orders deals 0) (sym bare.pairs) (record {
    each = λ k d lt. absurd (omega arith);
    complete = λ bid ask b a some. absurd (omega arith);
    apart = λ i j d lt below. absurd (omega arith);
  });
}

module _ (orders : List Order) (list : IsOrderList orders) (regular : Regular orders) (pairs sorted : List FillPair) (moved : IsPermutation pairs sorted)
    (in_order : IsSorted fill_pair_cmp sorted)
    (matched : (deals : List Deal) → AreExpectedDeals orders deals → AreSharedPairs orders deals (length orders) pairs) (dealt : All (IsFillPairInRange (length orders)) pairs) where
  pub sorted-dealt : All (IsFillPairInRange (length orders)) sorted
  sorted-dealt = All-permutation (IsFillPairInRange (length orders)) pairs sorted moved dealt

  pub sorted-length : length sorted ≡ length pairs
  sorted-length = length_permutation pairs sorted moved

  module _ (made : List Deal) (numbers : AreFillPairDeals orders sorted made) where
    deals : List Deal
    deals = (some-expected orders list regular).0

    is : AreExpectedDeals orders deals
    unfolding deals
    is = (some-expected orders list regular).1

    shared : AreSharedPairs orders deals (length orders) pairs
    shared = matched deals is

    abbrev share_of : ℕ → ℕ → ℕ
    share_of = pair_share orders (traded_before orders deals)

    deal-is : (k : ℕ) (d : Deal) → k < length made → get_or made k d ≡ fill_pair_deal orders (k + 1) (fill_pair_at sorted k)
    deal-is k d lt = let count = numbers.count in get_or_default made k d deal_past_end lt ∙ numbers.each k (omega arith)

    made-are : listed.ArePairDeals share_of (resting_limit orders) (length orders) made
    made-are =
        let count : length made ≡ length sorted = numbers.count in
        let each : All (IsSharedPair orders deals (length orders)) sorted = All-permutation (IsSharedPair orders deals (length orders)) pairs sorted moved shared.each in
        let rising : AllPairs FillPairBefore sorted = sorted-in_order (λ (p : FillPair). p.bid) (λ (p : FillPair). p.ask) (λ (p : FillPair). p.quantity) pairs sorted moved shared.apart (λ k d lt. in_order k d (omega arith) lt) in
        record {
          each = λ k d lt.
              let s = each k fill_pair_past_end (omega arith) in
              let t = sorted-dealt k fill_pair_past_end (omega arith) in
              subst (listed.IsPairDeal share_of (resting_limit orders) (length orders)) (sym (deal-is k d lt)) (record { bid_inside = s.bid_inside; ask_inside = s.ask_inside; some = t.some; is = s.is; at = refl });
          in_order = λ i j d lt below. rw (deal-is i d (omega arith), deal-is j d below) (rising i j fill_pair_past_end lt (omega arith));
          complete = λ bid ask b a some.
              let c : Contains (map fill_pair_orders sorted) (bid, ask) = Contains-permutation (map fill_pair_orders pairs) (map fill_pair_orders sorted) _ (IsPermutation-map fill_pair_orders pairs sorted moved) (shared.complete bid ask b a some) in
              let long = length-map sorted fill_pair_orders in
              let inside : c.0 < length sorted = let lt = c.1 in omega arith in (
                c.0,
                omega (arith, length-map made listed.ends_of),
                get_or-map listed.ends_of made c.0 deal_past_end (bid, ask) (omega arith) ∙ ap listed.ends_of (deal-is c.0 deal_past_end (omega arith)) ∙ sym (get_or-map fill_pair_orders sorted c.0 fill_pair_past_end (bid, ask) inside) ∙ c.2,
              );
          numbered = λ n d lt. ap (λ (d : Deal). d.place) (deal-is n d lt);
        }

    made-is : made ≡ deals
    made-is = listed.are-pair_deals orders share_of (resting_limit orders) made made-are ∙ sym is.expected

    pub made-expected : IsExpectedContinuous orders made
    made-expected = subst (IsExpectedContinuous orders) (sym made-is) is.expected

    pub made-conforms : ConformsContinuous orders made
    made-conforms = subst (ConformsContinuous orders) (sym made-is) is.conforms

    pub made-listed : length sorted < 2 ^ 32 → IsDealList orders made
    made-listed few =
        let count : length made ≡ length sorted = numbers.count in
        record {
          named = made-conforms.named;
          rising = λ i j d lt below.
              let one : (get_or made i d).place ≡ i + 1 = ap (λ (d : Deal). d.place) (deal-is i d (omega arith)) in
              let two : (get_or made j d).place ≡ j + 1 = ap (λ (d : Deal). d.place) (deal-is j d below) in
              omega arith;
          fits_indices = omega arith;
        }
