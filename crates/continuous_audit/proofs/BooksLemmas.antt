-- What both books hold from one order of the list to the next.
use Rattle.std.proofs.Common.{◌≡◌, ◌≢◌, ◌<◌, ◌≤◌, ℕ, suc, List, [], ◌∷◌, length, Bool, true, false, cond, refl, sym, ap, ◌∙◌, arith, inl, inr, subst, All, get_or}
use Rattle.std.specs.Prelude.{◌==◌}
use Rattle.std.proofs.lemmas.Bool.{cases_eq, cases_lt, eq-eqb, ne_eqb, cond-true, cond-false}
use Rattle.audit_base.specs.declared.terms.Side.{Side}
use Rattle.audit_base.specs.declared.terms.Side.TheVariants.{Buy, Sell}
use Rattle.audit_base.specs.declared.orders.Order.{Order}
use Rattle.audit_base.specs.declared.orders.Deal.{Deal}
use Rattle.audit_base.specs.Orders.{order_at, place_at, side_at, other_side, IsOrderList}
use Rattle.audit_base.specs.Priority.{better}
use Rattle.audit_base.specs.Deals.{deal_at, NamesOrders}
use Rattle.audit_base.specs.Continuous.{traded_before, uncancelled_before, resting_order}
use Rattle.audit_base.proofs.OrderLemmas.{not_both_sides, place-rises}
use Rattle.order_book.specs.declared.books.Resting.{Resting}
use Rattle.order_book.specs.Books.{with_order}
use Rattle.continuous_audit.specs.declared.endings.OrderEnd.{OrderEnd}
use Rattle.continuous_audit.specs.declared.books.Books.{Books}
use Rattle.continuous_audit.specs.Books.{AreBooksOfAmounts, AreBooksBelow, books_with_order, book_list, books_with_list}
use Rattle.continuous_audit.specs.Endings.{AreEndings, amount_without, ending_place_at}
use Rattle.continuous_audit.specs.Holding.{IsListOfAmounts, IsFilledInFront, IsRestingOn, resting_left_before, resting_left_after_deals, resting_with}
use Rattle.continuous_audit.proofs.HoldLemmas.{hold-same, hold-entered}
use Rattle.continuous_laws.proofs.StepLemmas.{rests-parts}
use Rattle.continuous_audit.proofs.RestLemmas.{resting_left-future, resting_left-parts}
use Rattle.continuous_audit.proofs.RecordLemmas.{IsOfCause, own-holds, other-holds, other-empty, resting_left-after, resting_left-next}
use Rattle.continuous_audit.proofs.EndingLemmas.{hold-amounts, standing-is}

-- one order more
module _ (orders : List Order) (amount amount' : ℕ → ℕ) (j : ℕ) (inside : j < length orders) (some : 0 < amount' j) (same : (k : ℕ) → k ≢ j → amount' k ≡ amount k) where
  pub joined-holds : (s : Side) → side_at orders j ≡ s → (b : Books) → AreBooksOfAmounts orders amount b → All (λ r. r.index < j) b.bids.resting → All (λ r. r.index < j) b.asks.resting → AreBooksOfAmounts orders amount' (books_with_order s (resting_with orders j (amount' j)) b)
  joined-holds Buy e b h bids asks = record {
    bid_side = h.bid_side;
    ask_side = h.ask_side;
    bids = subst (λ (t : Side). IsListOfAmounts orders Buy amount' (with_order t (resting_with orders j (amount' j)) b.bids.resting)) (sym h.bid_side) (hold-entered orders Buy amount amount' j (λ k lt of ne. same k ne) b.bids.resting h.bids inside e some bids);
    asks = hold-same orders Sell amount amount' b.asks.resting (λ k lt of. same k (λ at. not_both_sides (sym e ∙ ap (side_at orders) (sym at) ∙ of))) h.asks;
  }
  joined-holds Sell e b h bids asks = record {
    bid_side = h.bid_side;
    ask_side = h.ask_side;
    bids = hold-same orders Buy amount amount' b.bids.resting (λ k lt of. same k (λ at. not_both_sides (sym of ∙ ap (side_at orders) at ∙ e))) h.bids;
    asks = subst (λ (t : Side). IsListOfAmounts orders Sell amount' (with_order t (resting_with orders j (amount' j)) b.asks.resting)) (sym h.ask_side) (hold-entered orders Sell amount amount' j (λ k lt of ne. same k ne) b.asks.resting h.asks inside e some asks);
  }

-- books of which one side has another list
pub both-hold : (orders : List Order) (amount : ℕ → ℕ) (s : Side) (b : Books) (ys : List Resting) → b.bids.side ≡ Buy → b.asks.side ≡ Sell → IsListOfAmounts orders s amount (book_list s b) → IsListOfAmounts orders (other_side s) amount ys → AreBooksOfAmounts orders amount (books_with_list (other_side s) ys b)
both-hold orders amount Buy b ys bid ask own other = record { bid_side = bid; ask_side = ask; bids = own; asks = other }
both-hold orders amount Sell b ys bid ask own other = record { bid_side = bid; ask_side = ask; bids = other; asks = own }

pub side-holds : (orders : List Order) (amount : ℕ → ℕ) (s : Side) (b : Books) → AreBooksOfAmounts orders amount b → IsListOfAmounts orders s amount (book_list s b)
side-holds orders amount Buy b h = h.bids
side-holds orders amount Sell b h = h.asks

module _ (orders : List Order) (list : IsOrderList orders) (deals : List Deal) (named : All (NamesOrders orders) deals) (n : ℕ) (n_inside : n < length orders) where
  abbrev p : ℕ
  p = place_at orders n

  abbrev past : ℕ → ℕ → ℕ
  past = traded_before orders deals

  abbrev s : Side
  s = side_at orders n

  -- 1. The deals of the record: the book of the other side is settled, and no deal passes
  -- its first order over.
  pub after-deals : (b : Books) → AreBooksOfAmounts orders (resting_left_before orders past p) b → (ys : List Resting) → IsFilledInFront orders (other_side s) (resting_left_before orders past p) (resting_left_after_deals orders deals p) ys
      → ((h : Resting) (zs : List Resting) → ys ≡ h ∷ zs → (j : ℕ) → IsOfCause orders list deals named n n_inside j → better (order_at orders h.index) (order_at orders (resting_order orders (deal_at deals j))) ≡ false)
      → AreBooksOfAmounts orders (resting_left_after_deals orders deals p) (books_with_list (other_side s) ys b)
  after-deals b hold [] settled_now clear = both-hold orders (resting_left_after_deals orders deals p) s b [] hold.bid_side hold.ask_side
      (own-holds orders list deals named n n_inside (book_list s b) (side-holds orders (resting_left_before orders past p) s b hold)) (other-empty orders list deals named n n_inside settled_now)
  after-deals b hold (h ∷ zs) settled_now clear = both-hold orders (resting_left_after_deals orders deals p) s b (h ∷ zs) hold.bid_side hold.ask_side
      (own-holds orders list deals named n n_inside (book_list s b) (side-holds orders (resting_left_before orders past p) s b hold)) (other-holds orders list deals named n n_inside h zs settled_now (clear h zs refl))

  -- what rests after the record, without its own order
  abbrev others : ℕ → ℕ
  others k = cond (k == n) 0 (resting_left_before orders past (suc p) k)

  gone-before : (q k : ℕ) → uncancelled_before (order_at orders k).cancelled q ≡ false → resting_left_before orders past q k ≡ 0
  gone-before q k f = elim (cases_lt 0 (resting_left_before orders past q k)) [
    | inr le ↦ omega arith
    | inl some ↦ let at = rests-parts orders past q k (resting_left-parts orders past q k some).0 in let t = at.stands_yet in absurd (cc)
  ]

  -- 2. The endings up to the record.
  module _ (endings : List OrderEnd) (are : AreEndings orders endings) (from at : ℕ) (early : (i : ℕ) → i < from → i < length endings → ending_place_at endings i < p) (between : (i : ℕ) → from ≤ i → i < at → ending_place_at endings i < suc p)
      (whole : at ≤ length endings) (next : at < length endings → suc p ≤ ending_place_at endings at) where
    pub after-endings : (b : Books) → AreBooksOfAmounts orders (amount_without endings from at (resting_left_after_deals orders deals p)) b → AreBooksOfAmounts orders others b
    after-endings b hold = hold-amounts orders (amount_without endings from at (resting_left_after_deals orders deals p)) others b (λ k inside.
        let is = standing-is orders endings are from at p (suc p) (resting_left_after_deals orders deals p) early between whole next (λ k lt f. let z = gone-before p k f in omega arith) k inside in
        elim (cases_eq k n) [
          | inl e ↦
              let z : resting_left_before orders past p k ≡ 0 = ap (resting_left_before orders past p) e ∙ resting_left-future orders past p n (omega arith) in
              let zero_still : resting_left_after_deals orders deals p k ≡ 0 = omega arith in
              cond-true (k == n) 0 (resting_left_before orders past (suc p) k) (eq-eqb k n e) ∙ sym (is ∙ ap (λ (m : ℕ). cond (uncancelled_before (order_at orders k).cancelled (suc p)) m 0) zero_still ∙ nothing (uncancelled_before (order_at orders k).cancelled (suc p)))
          | inr ne ↦ cond-false (k == n) 0 (resting_left_before orders past (suc p) k) (ne_eqb k n ne) ∙ resting_left-after orders list deals named n n_inside k inside ne ∙ sym is
        ]) hold
      where
        nothing : (b : Bool) → cond {A = ℕ} b 0 0 ≡ 0
        nothing true = refl
        nothing false = refl

  -- 3. The order itself: it enters where something of it rests.
  all-earlier : (t : Side) (xs : List Resting) → IsListOfAmounts orders t others xs → All (λ r. r.index < n) xs
  all-earlier t xs hold i d lt =
      let part : IsRestingOn orders t others (get_or xs i d) = hold.only i d lt in
      let r = (get_or xs i d).index in
      elim (cases_lt r n) [
        | inl less ↦ less
        | inr more ↦ elim (cases_eq r n) [
          | inl e ↦ let z : others r ≡ 0 = cond-true (r == n) 0 (resting_left_before orders past (suc p) r) (eq-eqb r n e) in let some = part.some in absurd (omega arith)
          | inr ne ↦
              let is : others r ≡ resting_left_before orders past (suc p) r = cond-false (r == n) 0 (resting_left_before orders past (suc p) r) (ne_eqb r n ne) in
              let some = part.some in
              let up = place-rises orders list n r (omega (arith, ne)) part.inside in
              let z = resting_left-future orders past (suc p) r (omega arith) in
              absurd (omega arith)
        ]
      ]

  pub after-entry : (b : Books) → AreBooksOfAmounts orders others b → 0 < resting_left_before orders past (suc p) n → AreBooksOfAmounts orders (resting_left_before orders past (suc p)) (books_with_order s (resting_with orders n (resting_left_before orders past (suc p) n)) b)
  after-entry b hold some = joined-holds orders others (resting_left_before orders past (suc p)) n n_inside some (λ k ne. sym (cond-false (k == n) 0 (resting_left_before orders past (suc p) k) (ne_eqb k n ne))) s refl b hold
      (all-earlier Buy b.bids.resting hold.bids) (all-earlier Sell b.asks.resting hold.asks)

  pub hold-below : (b : Books) → AreBooksOfAmounts orders others b → AreBooksBelow n b
  hold-below b hold = record { bids = all-earlier Buy b.bids.resting hold.bids; asks = all-earlier Sell b.asks.resting hold.asks }

  pub no-entry : (b : Books) → AreBooksOfAmounts orders others b → resting_left_before orders past (suc p) n ≡ 0 → AreBooksOfAmounts orders (resting_left_before orders past (suc p)) b
  no-entry b hold none = hold-amounts orders others (resting_left_before orders past (suc p)) b (λ k lt. elim (cases_eq k n) [
    | inl e ↦ ap (resting_left_before orders past (suc p)) e ∙ none ∙ sym (cond-true (k == n) 0 (resting_left_before orders past (suc p) k) (eq-eqb k n e))
    | inr ne ↦ sym (cond-false (k == n) 0 (resting_left_before orders past (suc p) k) (ne_eqb k n ne))
  ]) hold

  -- 4. The endings up to a place q before which no other order comes.
  module _ (q : ℕ) (le : suc p ≤ q) (next_order : (k : ℕ) → k < length orders → n < k → q ≤ place_at orders k)
      (endings : List OrderEnd) (are : AreEndings orders endings) (from at : ℕ) (early : (i : ℕ) → i < from → i < length endings → ending_place_at endings i < suc p) (between : (i : ℕ) → from ≤ i → i < at → ending_place_at endings i < q)
      (whole : at ≤ length endings) (next : at < length endings → q ≤ ending_place_at endings at) where
    pub before-next : (b : Books) → AreBooksOfAmounts orders (amount_without endings from at (resting_left_before orders past (suc p))) b → AreBooksOfAmounts orders (resting_left_before orders past q) b
    before-next b hold = hold-amounts orders (amount_without endings from at (resting_left_before orders past (suc p))) (resting_left_before orders past q) b (λ k inside.
        resting_left-next orders list deals named n n_inside q le next_order k inside ∙ sym (standing-is orders endings are from at (suc p) q (resting_left_before orders past (suc p)) early between whole next (λ k lt f. gone-before (suc p) k f) k inside)) hold
