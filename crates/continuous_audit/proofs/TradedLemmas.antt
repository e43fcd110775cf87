-- What is known after an order has traded at its record.
use Rattle.std.proofs.Common.{◌≡◌, ◌<◌, ◌≤◌, ◌+◌, ◌-◌, ◌*◌, ◌^◌, ℕ, min, suc, List, ◌++◌, length, map, get_or, Bool, true, refl, sym, ap, ◌∙◌, arith, inl, inr, subst, All}
use Rattle.std.specs.Prelude.{slice_set}
use Rattle.std.proofs.lemmas.Bool.{cases_eq, cases_lt}
use Rattle.std.proofs.lemmas.List.{get_or_past, length-append, length-map}
use Rattle.std.proofs.lemmas.List.Elements.{All-append, All-map}
use Rattle.audit_base.specs.declared.terms.Side.{Side}
use Rattle.audit_base.specs.declared.terms.Side.TheVariants.{Buy, Sell}
use Rattle.audit_base.specs.declared.orders.Order.{Order}
use Rattle.audit_base.specs.declared.orders.Deal.{Deal}
use Rattle.audit_base.specs.Orders.{order_at, side_at, limit_at, place_at, other_side, IsOrderList}
use Rattle.audit_base.specs.Continuous.{traded_before, chain_traded_quantity, size_in_ledger, size_of_order, left_before}
use Rattle.audit_base.specs.Deals.{number_at}
use Rattle.audit_base.proofs.OrderLemmas.{place-rises}
use Rattle.continuous_laws.proofs.PlaceLemmas.{traded-none}
use Rattle.order_book.specs.declared.books.Resting.{Resting}
use Rattle.continuous_audit.specs.declared.books.Books.{Books}
use Rattle.continuous_audit.specs.declared.fills.Fill.{Fill}
use Rattle.continuous_audit.specs.declared.pairs.FillPair.{FillPair}
use Rattle.continuous_audit.specs.declared.expected_trades.TradesSoFar.{TradesSoFar}
use Rattle.continuous_audit.specs.Books.{AreBooksOfAmounts, book_list, resting_count, books_with_list}
use Rattle.continuous_audit.specs.Chains.{HasChainEnded, IsKnownBeforeArrival}
use Rattle.continuous_audit.specs.Fills.{quantity_filled, fills_of, resting_after_fills, total_filled}
use Rattle.continuous_audit.specs.Holding.{resting_left_before, resting_left_after_deals}
use Rattle.continuous_audit.specs.Matching.{AreFillsApplied, AreExpectedDeals, AreTradesSoFar, IsMatchedUnder}
use Rattle.continuous_audit.specs.Pairs.{IsFillPairInRange, fill_pair}
use Rattle.continuous_audit.proofs.FilledLemmas.{walk-count}
use Rattle.continuous_audit.proofs.MatchLemmas.{set-at, set-other, set-length, traded-other, traded-own, books-after, pairs-after, fills-inside, fills-inside-any, fills-sized, arrival-is}
use Rattle.continuous_audit.proofs.NumberLemmas.{chain_ended-more}

count-with : (t : Side) (zs : List Resting) (b : Books) → resting_count (books_with_list t zs b) + length (book_list t b) ≡ resting_count b + length zs
count-with Buy zs b = omega arith
count-with Sell zs b = omega arith

-- the trade of the order at n: what is known after it, from what was known before
pub record IsTraded (orders : List Order) (n q rest b : ℕ) (fills : List Fill) (old new : TradesSoFar) : Type 0 where
  pub mid_traded : List ℕ
  pub mid_left : List ℕ
  pub fills_are : fills ≡ fills_of (side_at orders n) (limit_at orders n) q (book_list (other_side (side_at orders n)) old.books_so_far.books)
  pub rest_is : rest + total_filled fills ≡ q
  pub applied : AreFillsApplied fills old.traded.items old.order_numbers.left.items mid_traded mid_left
  pub chain_traded : new.order_numbers.chain_traded.items ≡ slice_set old.order_numbers.chain_traded.items n b
  pub traded : new.traded.items ≡ slice_set mid_traded n (q - rest)
  pub left : new.order_numbers.left.items ≡ slice_set mid_left n rest
  pub books : new.books_so_far.books ≡ books_with_list (other_side (side_at orders n)) (resting_after_fills (side_at orders n) (limit_at orders n) q (book_list (other_side (side_at orders n)) old.books_so_far.books)) old.books_so_far.books
  pub pairs : new.pairs.items ≡ old.pairs.items ++ map (fill_pair (side_at orders n) n) fills

module _ (orders : List Order) (list : IsOrderList orders) (n : ℕ) (n_inside : n < length orders) (q rest b : ℕ) (fills : List Fill) (old new : TradesSoFar) (counted : AreTradesSoFar orders n 0 old) (h : IsTraded orders n q rest b fills old new) where
  abbrev p : ℕ
  p = place_at orders n

  abbrev s : Side
  s = side_at orders n

  abbrev all_fills : List Fill
  all_fills = fills_of s (limit_at orders n) q (book_list (other_side s) old.books_so_far.books)

  module _ (deals : List Deal) (is : AreExpectedDeals orders deals) (old_is : IsMatchedUnder orders deals n p (resting_left_before orders (traded_before orders deals) p) old) (q_is : q ≡ size_of_order orders deals n) (b_is : b ≡ chain_traded_quantity orders deals n) where
    abbrev past : ℕ → ℕ → ℕ
    past = traded_before orders deals

    traded-now : (x : ℕ) → x < length orders → number_at new.traded.items x ≡ past (suc p) x
    traded-now x lt = elim (cases_eq x n) [
      | inl e ↦
          let own = traded-own orders list n n_inside deals is old.books_so_far.books old_is.books q q_is in
          let long : n < length h.mid_traded = let c = h.applied.traded_count in let d = counted.traded_count in omega arith in
          let sum = h.rest_is in
          let all : total_filled fills ≡ total_filled all_fills = ap total_filled h.fills_are in
          set-at h.mid_traded new.traded.items n (q - rest) x long h.traded e ∙ (let v : q - rest ≡ past (suc p) n = omega arith in v) ∙ ap (past (suc p)) (sym e)
      | inr ne ↦
          set-other h.mid_traded new.traded.items n (q - rest) x h.traded ne ∙ h.applied.traded_is x
          ∙ (λ i. old_is.traded_is x lt i + quantity_filled (h.fills_are i) x)
          ∙ sym (traded-other orders list n n_inside deals is old.books_so_far.books old_is.books q q_is x lt ne)
    ]

    left-now : (x : ℕ) → x < suc n → number_at new.order_numbers.left.items x ≡ left_before orders deals (suc p) x
    left-now x lt = elim (cases_eq x n) [
      | inl e ↦
          let own = traded-own orders list n n_inside deals is old.books_so_far.books old_is.books q q_is in
          let long : n < length h.mid_left = let c = h.applied.left_count in let d = counted.order_numbers.left_count in omega arith in
          let sum = h.rest_is in
          let all : total_filled fills ≡ total_filled all_fills = ap total_filled h.fills_are in
          set-at h.mid_left new.order_numbers.left.items n rest x long h.left e ∙ (let v : rest ≡ size_in_ledger orders past n - past (suc p) n = omega arith in v) ∙ ap (λ (k : ℕ). size_in_ledger orders past k - past (suc p) k) (sym e)
      | inr ne ↦
          let less : x < n = omega (arith, ne) in
          let was = old_is.left_is x less in
          let more = traded-other orders list n n_inside deals is old.books_so_far.books old_is.books q q_is x (omega arith) ne in
          let all : quantity_filled fills x ≡ quantity_filled all_fills x = ap (λ (fs : List Fill). quantity_filled fs x) h.fills_are in
          let taken = h.applied.left_is x in
          set-other h.mid_left new.order_numbers.left.items n rest x h.left ne ∙ (let v : number_at h.mid_left x ≡ size_in_ledger orders past x - past (suc p) x = omega arith in v)
    ]

    before-now : (x : ℕ) → x < suc n → number_at new.order_numbers.chain_traded.items x ≡ chain_traded_quantity orders deals x
    before-now x lt = elim (cases_eq x n) [
      | inl e ↦ let long = counted.order_numbers.chain_traded_count in set-at old.order_numbers.chain_traded.items new.order_numbers.chain_traded.items n b x (omega arith) h.chain_traded e ∙ b_is ∙ ap (chain_traded_quantity orders deals) (sym e)
      | inr ne ↦ set-other old.order_numbers.chain_traded.items new.order_numbers.chain_traded.items n b x h.chain_traded ne ∙ old_is.chain_traded_is x (omega (arith, ne))
    ]

    pub traded-matched : IsMatchedUnder orders deals (suc n) (suc p) (resting_left_after_deals orders deals p) new
    traded-matched = record {
      traded_is = traded-now;
      chain_traded_is = before-now;
      left_is = left-now;
      books = subst (AreBooksOfAmounts orders (resting_left_after_deals orders deals p)) (sym h.books) (books-after orders list n n_inside deals is old.books_so_far.books old_is.books q q_is);
      pairs = pairs-after orders list n n_inside deals is old.books_so_far.books old_is.books q q_is old.pairs.items new.pairs.items old_is.pairs (h.pairs ∙ ap (λ (fs : List Fill). old.pairs.items ++ map (fill_pair s n) fs) h.fills_are);
    }

    -- an earlier order trades at most what is left of it, and a later one nothing
    filled-within : (x : ℕ) → x < n → quantity_filled fills x ≤ number_at old.order_numbers.left.items x
    filled-within x lt =
        let more = traded-other orders list n n_inside deals is old.books_so_far.books old_is.books q q_is x (omega arith) (λ e. omega arith) in
        let all : quantity_filled fills x ≡ quantity_filled all_fills x = ap (λ (fs : List Fill). quantity_filled fs x) h.fills_are in
        let was = old_is.left_is x lt in
        let within : past (suc p) x ≤ size_of_order orders deals x = (is.conforms.each p).conservation.within x (omega arith) in
        omega arith

    traded-later : (x : ℕ) → n < x → number_at new.traded.items x ≡ 0
    traded-later x later = elim (cases_lt x (length orders)) [
      | inl lt ↦ traded-now x lt ∙ traded-none orders deals (suc p) x (place-rises orders list n x later lt)
      | inr past_end ↦
          let long : length new.traded.items ≡ length orders = set-length h.mid_traded new.traded.items n (q - rest) h.traded ∙ h.applied.traded_count ∙ counted.traded_count in
          get_or_past new.traded.items x 0 (omega arith)
    ]

    dealt-new : q ≤ 10 ^ 12 → All (IsFillPairInRange (length orders)) (map (fill_pair s n) fills)
    dealt-new fits = subst (λ (fs : List Fill). All (IsFillPairInRange (length orders)) (map (fill_pair s n) fs)) (sym h.fills_are)
        (All-map (IsFillPairInRange (length orders)) (fill_pair s n) all_fills (λ k d lt.
        let sized = fills-sized orders list n n_inside deals is old.books_so_far.books old_is.books q q_is k d lt in
        let most = sized.most in
        dealt-by s (get_or all_fills k d) (fills-inside orders list n n_inside deals is old.books_so_far.books old_is.books q q_is k d lt) sized.some (omega arith)))
      where
        dealt-by : (side : Side) (f : Fill) → f.index < length orders → 0 < f.quantity → f.quantity ≤ 10 ^ 12 → IsFillPairInRange (length orders) (fill_pair side n f)
        dealt-by Buy f lt some most = record { bid_inside = n_inside; ask_inside = lt; some = some; most = most }
        dealt-by Sell f lt some most = record { bid_inside = lt; ask_inside = n_inside; some = some; most = most }

    pub traded-counted : q ≤ 10 ^ 12 → b ≤ n * 2 ^ 72 → (chain_ended : Bool) → (chain_ended ≡ true → HasChainEnded orders n) → new.order_numbers.chain_ended.items ≡ slice_set old.order_numbers.chain_ended.items n chain_ended → new.order_numbers.sizes.items ≡ slice_set old.order_numbers.sizes.items n q
        → AreTradesSoFar orders (suc n) (min 1 (number_at new.order_numbers.left.items n)) new
    traded-counted fits bounded chain_ended chain_ended_is chain_ended_new sizes_new =
        let long_traded : length h.mid_traded ≡ length orders = h.applied.traded_count ∙ counted.traded_count in
        let long_left : length h.mid_left ≡ length orders = h.applied.left_count ∙ counted.order_numbers.left_count in
        let sum = h.rest_is in record {
          traded_count = set-length h.mid_traded new.traded.items n (q - rest) h.traded ∙ long_traded;
          order_numbers = record {
            chain_traded_count = set-length old.order_numbers.chain_traded.items new.order_numbers.chain_traded.items n b h.chain_traded ∙ counted.order_numbers.chain_traded_count;
            sizes_count = set-length old.order_numbers.sizes.items new.order_numbers.sizes.items n q sizes_new ∙ counted.order_numbers.sizes_count;
            left_count = set-length h.mid_left new.order_numbers.left.items n rest h.left ∙ long_left;
            chain_ended = chain_ended-more orders deals n n_inside old.order_numbers.chain_ended.items new.order_numbers.chain_ended.items chain_ended counted.order_numbers.chain_ended chain_ended_is chain_ended_new;
            bounded = λ x. elim (cases_eq x n) [
              | inl e ↦ let l = counted.order_numbers.chain_traded_count in let v = set-at old.order_numbers.chain_traded.items new.order_numbers.chain_traded.items n b x (omega arith) h.chain_traded e in subst (λ (k : ℕ). number_at new.order_numbers.chain_traded.items x ≤ k * 2 ^ 72) (sym e) (omega arith)
              | inr ne ↦ let v = set-other old.order_numbers.chain_traded.items new.order_numbers.chain_traded.items n b x h.chain_traded ne in let was = counted.order_numbers.bounded x in omega arith
            ];
          };
          traded_fits = λ x. elim (cases_eq x n) [
            | inl e ↦
                let v = set-at h.mid_traded new.traded.items n (q - rest) x (omega arith) h.traded e in
                let w = set-at h.mid_left new.order_numbers.left.items n rest x (omega arith) h.left e in
                omega arith
            | inr ne ↦
                let v = set-other h.mid_left new.order_numbers.left.items n rest x h.left ne in
                let left = h.applied.left_is x in
                let was = counted.traded_fits x in
                elim (cases_lt x n) [
                  | inl less ↦
                      let w = set-other h.mid_traded new.traded.items n (q - rest) x h.traded ne in
                      let more = h.applied.traded_is x in
                      let within = filled-within x less in
                      omega arith
                  | inr later ↦ let none = traded-later x (omega (arith, ne)) in omega arith
                ]
          ];
          dealt = subst (All (IsFillPairInRange (length orders))) (sym h.pairs) (All-append (IsFillPairInRange (length orders)) old.pairs.items (map (fill_pair s n) fills) counted.dealt (dealt-new fits));
          within =
              let ys = book_list (other_side s) old.books_so_far.books in
              let zs = resting_after_fills s (limit_at orders n) q ys in
              let a : length new.pairs.items ≡ length old.pairs.items + length (map (fill_pair s n) fills) = ap (λ (ps : List FillPair). length ps) h.pairs ∙ length-append old.pairs.items (map (fill_pair s n) fills) in
              let c : length (map (fill_pair s n) fills) ≡ length fills = length-map fills (fill_pair s n) in
              let d : length fills ≡ length all_fills = ap (λ (fs : List Fill). length fs) h.fills_are in
              let e : total_filled fills ≡ total_filled all_fills = ap total_filled h.fills_are in
              let f : resting_count new.books_so_far.books ≡ resting_count (books_with_list (other_side s) zs old.books_so_far.books) = ap resting_count h.books in
              let g = count-with (other_side s) zs old.books_so_far.books in
              let own = set-at h.mid_left new.order_numbers.left.items n rest n (omega arith) h.left refl in
              let few = counted.within in
              let rest_as : rest ≡ q - total_filled all_fills = omega arith in
              omega (arith, walk-count s (limit_at orders n) q ys);
        }

-- The same, in the words of the code: the order that it reads, and the list that it reads twice.

pub traded-read : (orders : List Order) (n q rest b : ℕ) (old new : TradesSoFar) (own : Order) → own ≡ order_at orders n → (made first second : List Fill) (mid_traded mid_left : List ℕ)
    → made ≡ fills_of own.side own.limit q (book_list (other_side own.side) old.books_so_far.books) → first ≡ made → second ≡ made → rest + total_filled made ≡ q
    → AreFillsApplied first old.traded.items old.order_numbers.left.items mid_traded mid_left → new.order_numbers.chain_traded.items ≡ slice_set old.order_numbers.chain_traded.items n b → new.traded.items ≡ slice_set mid_traded n (q - rest) → new.order_numbers.left.items ≡ slice_set mid_left n rest
    → new.books_so_far.books ≡ books_with_list (other_side own.side) (resting_after_fills own.side own.limit q (book_list (other_side own.side) old.books_so_far.books)) old.books_so_far.books
    → new.pairs.items ≡ old.pairs.items ++ map (fill_pair own.side n) second → IsTraded orders n q rest b first old new
traded-read orders n q rest b old new own own_is made first second mid_traded mid_left made_is first_is second_is sum applied chain_traded traded left books pairs = record {
  mid_traded = mid_traded;
  mid_left = mid_left;
  fills_are = first_is ∙ made_is ∙ (λ i. fills_of (own_is i).side (own_is i).limit q (book_list (other_side (own_is i).side) old.books_so_far.books));
  rest_is = ap (λ (fs : List Fill). rest + total_filled fs) first_is ∙ sum;
  applied = applied;
  chain_traded = chain_traded;
  traded = traded;
  left = left;
  books = books ∙ (λ i. books_with_list (other_side (own_is i).side) (resting_after_fills (own_is i).side (own_is i).limit q (book_list (other_side (own_is i).side) old.books_so_far.books)) old.books_so_far.books);
  pairs = pairs ∙ (λ i. old.pairs.items ++ map (fill_pair (own_is i).side n) ((second_is ∙ sym first_is) i));
}

module _ (orders : List Order) (list : IsOrderList orders) (n : ℕ) (n_inside : n < length orders) (old : TradesSoFar) where
  pub first-read : (deals : List Deal) → AreExpectedDeals orders deals → IsMatchedUnder orders deals n (place_at orders n) (resting_left_before orders (traded_before orders deals) (place_at orders n)) old
      → (traded : List ℕ) → traded ≡ old.traded.items → IsKnownBeforeArrival orders deals n traded old.order_numbers
  first-read deals is old_is traded t_is = arrival-is orders list n n_inside deals is traded old.order_numbers (λ x lt. ap (λ (xs : List ℕ). number_at xs x) t_is ∙ old_is.traded_is x lt) old_is.chain_traded_is old_is.left_is

  pub first-inside : AreTradesSoFar orders n 0 old → (deals : List Deal) → AreExpectedDeals orders deals → IsMatchedUnder orders deals n (place_at orders n) (resting_left_before orders (traded_before orders deals) (place_at orders n)) old
      → (q : ℕ) (own : Order) → own ≡ order_at orders n → (fills : List Fill) → fills ≡ fills_of own.side own.limit q (book_list (other_side own.side) old.books_so_far.books)
      → {count : ℕ} → count ≡ length orders → All (λ f. f.index < count) fills
  first-inside counted deals is old_is q own own_is fills fills_is count_is k d lt =
      let inside = subst (λ (fs : List Fill). All (λ f. f.index < length orders) fs) (sym (fills_is ∙ (λ i. fills_of (own_is i).side (own_is i).limit q (book_list (other_side (own_is i).side) old.books_so_far.books))))
      (fills-inside-any orders list n n_inside deals is old.books_so_far.books old_is.books q) k d lt in
      omega arith
