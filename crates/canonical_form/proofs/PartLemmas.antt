-- How one part more changes the shares.
use Rattle.std.proofs.Common.{◌≡◌, ◌<◌, ◌≤◌, ◌+◌, ◌-◌, ℕ, List, [], ◌∷◌, ◌++◌, length, map, Bool, true, false, cond, refl, sym, ap, ◌∙◌, arith, inl, inr, subst, All, AllPairs, take, sum_by, is_lt, IsSorted, IsPermutation}
use Rattle.std.specs.Prelude.{◌==◌, ◌&&◌}
use Rattle.std.specs.Cmp.{IsStrictWeakOrder}
use Rattle.std.proofs.lemmas.Bool.{cases_lt, and_parts, eqb-true, eq-eqb, and_from, both_ways}
use Rattle.std.proofs.lemmas.Bool.Decides.{nat_tests}
use Rattle.std.proofs.lemmas.Cmp.{nat_cmp_total, on_total, then_total}
use Rattle.std.proofs.lemmas.List.Elements.{All-nil, All-map, All-head, All-tail, All-push, All-weaker}
use Rattle.std.proofs.lemmas.List.Sorted.{sorted_far, ranks_by, length_permutation, All-permutation, sum_by-IsPermutation}
use Rattle.std.proofs.lemmas.List.Sums.{sum_by-cons, sum_by-append, sum_by_more}
use Rattle.std.proofs.lemmas.List.{take_all, length-map}
use Rattle.std.proofs.lemmas.List.Folds.{fold-map}
use Rattle.audit_base.proofs.SumLemmas.{AllPairs-head, AllPairs-tail, AllPairs-cons}
use Rattle.audit_base.specs.declared.orders.Deal.{Deal}
use Rattle.audit_base.specs.Deals.{DealsInRange}
use Rattle.canonical_form.specs.declared.parts.DealPart.{DealPart}
use Rattle.canonical_form.specs.declared.shares.Share.{Share}
use Rattle.canonical_form.specs.Parts.{part_cmp, part_of_pair, share_of_pair, share_of_part, is_of_pair, next_share, finished_shares, part_past_end, part_at, AreSharesSoFar, AreMergedShares, AreParts, IsPartOfDeal, part_of_deal}
use Rattle.canonical_form.specs.Shares.{ShareBefore}

-- the pair of one part, and the pair of a later one, in order
weak : IsStrictWeakOrder (λ (p q : DealPart). is_lt (part_cmp p q))
weak = ranks_by (then_total (on_total (λ (p : DealPart). p.bid) nat_cmp_total) (then_total (on_total (λ (p : DealPart). p.ask) nat_cmp_total) (on_total (λ (p : DealPart). p.quantity) nat_cmp_total))) (λ (p : DealPart). p)

-- the share of the pair of p, and a later part of another pair
apart : (s : Share) (p q : DealPart) → s.bid ≡ p.bid → s.ask ≡ p.ask → is_lt (part_cmp q p) ≡ false → is_of_pair s q ≡ false → ShareBefore s (share_of_part q)
apart s p q b a late other = elim (cases_lt s.bid q.bid) [
  | inl less ↦ inl less
  | inr ge ↦
      let not_less : p.bid ≤ q.bid = grind (arith, nat_tests) in
      let same : s.bid ≡ q.bid = omega arith in
      inr (
        same,
        elim (cases_lt s.ask q.ask) [
          | inl less ↦ less
          | inr more ↦
              let asks : p.ask ≤ q.ask = grind (arith, nat_tests) in
              let equal : s.ask ≡ q.ask = omega arith in
              absurd (both_ways (is_of_pair s q) other (and_from _ _ (eq-eqb s.bid q.bid same) (eq-eqb s.ask q.ask equal)))
        ],
      )
]

onward : (r s t : Share) → ShareBefore r s → ShareBefore s t → ShareBefore r t
onward r s t (inl a) (inl b) = inl (omega arith)
onward r s t (inl a) (inr b) = let e = b.0 in inl (omega arith)
onward r s t (inr a) (inl b) = let e = a.0 in inl (omega arith)
onward r s t (inr a) (inr b) = let d = a.0 in let e = b.0 in let x = a.1 in let y = b.1 in inr (omega arith, omega arith)

push : (xs : List Share) (y : Share) → AllPairs ShareBefore xs → All (λ s. ShareBefore s y) xs → AllPairs ShareBefore (xs ++ y ∷ [])
push [] y up under = λ i j d lt below. absurd (omega arith)
push (x ∷ xs) y up under = AllPairs-cons ShareBefore x (xs ++ y ∷ [])
    (All-push (ShareBefore x) xs y (AllPairs-head ShareBefore x xs up) (All-head (λ (s : Share). ShareBefore s y) x xs under))
    (push xs y (AllPairs-tail ShareBefore x xs up) (All-tail (λ (s : Share). ShareBefore s y) x xs under))

same-pair : (bid ask : ℕ) (s : Share) (q : DealPart) → is_of_pair s q ≡ true → share_of_pair bid ask (record s { quantity = s.quantity + q.quantity }) ≡ share_of_pair bid ask s + part_of_pair bid ask q
same-pair bid ask s q t =
    let two = and_parts (s.bid == q.bid) (s.ask == q.ask) t in
    let b : s.bid ≡ q.bid = eqb-true s.bid q.bid two.0 in
    let a : s.ask ≡ q.ask = eqb-true s.ask q.ask two.1 in
    let is : part_of_pair bid ask q ≡ cond ((s.bid == bid) && (s.ask == ask)) q.quantity 0 = (λ i. cond ((sym b i == bid) && (sym a i == ask)) q.quantity 0) in
    added ((s.bid == bid) && (s.ask == ask)) s.quantity q.quantity ∙ ap (λ (n : ℕ). share_of_pair bid ask s + n) (sym is)
  where
    added : (x : Bool) (m n : ℕ) → cond x (m + n) 0 ≡ cond x m 0 + cond x n 0
    added true m n = refl
    added false m n = refl

-- with one part more
module _ (parts : List DealPart) (each : All IsPartOfDeal parts) (in_order : IsSorted part_cmp parts) (at : ℕ) (from : 1 ≤ at) (inside : at < length parts) where
  abbrev q : DealPart
  q = part_at parts at

  deal : IsPartOfDeal q
  deal = each at part_past_end inside

  late : is_lt (part_cmp q (part_at parts (at - 1))) ≡ false
  late = sorted_far (λ (r s : DealPart). is_lt (part_cmp r s)) weak parts in_order (at - 1) at part_past_end (omega arith) inside

  step : (bid ask : ℕ) → sum_by (part_of_pair bid ask) (take (at + 1) parts) ≡ sum_by (part_of_pair bid ask) (take at parts) + part_of_pair bid ask q
  step bid ask = sum_by_more (part_of_pair bid ask) parts at part_past_end inside

  last : (i : ℕ) → i + 1 ≡ at + 1 → i ≡ at
  last i e = omega arith

  made-next : (b : Bool) (shares : List Share) (s : Share) → is_of_pair s q ≡ b → AreSharesSoFar parts at shares s
      → AreSharesSoFar parts (at + 1) (cond b shares (shares ++ s ∷ [])) (cond b (record s { quantity = s.quantity + q.quantity }) (share_of_part q))
  made-next true shares s t made =
      let two = and_parts (s.bid == q.bid) (s.ask == q.ask) t in
      let fits = made.fits in
      let most = deal.bounded in
      let some = made.positive_here in
      record {
        bid = λ i e. subst (λ (j : ℕ). s.bid ≡ (part_at parts j).bid) (sym (last i e)) (eqb-true s.bid q.bid two.0);
        ask = λ i e. subst (λ (j : ℕ). s.ask ≡ (part_at parts j).ask) (sym (last i e)) (eqb-true s.ask q.ask two.1);
        sums = λ bid ask. omega (arith, made.sums bid ask, step bid ask, same-pair bid ask s q t);
        positive = made.positive;
        positive_here = omega arith;
        ascending = made.ascending;
        under = All-weaker (λ (t : Share). ShareBefore t s) (λ (t : Share). ShareBefore t (record s { quantity = s.quantity + q.quantity })) (λ t h. h) shares made.under;
        fits = omega arith;
      }
  made-next false shares s f made =
      let before : (at - 1) + 1 ≡ at = omega arith in
      let here = apart s (part_at parts (at - 1)) q (made.bid (at - 1) before) (made.ask (at - 1) before) late f in
      let most = deal.bounded in
      record {
        bid = λ i e. ap (λ (j : ℕ). (part_at parts j).bid) (sym (last i e));
        ask = λ i e. ap (λ (j : ℕ). (part_at parts j).ask) (sym (last i e));
        sums = λ bid ask. omega (arith, made.sums bid ask, step bid ask, sum_by-append (share_of_pair bid ask) shares (s ∷ []), sum_by-cons (share_of_pair bid ask) s []);
        positive = All-push (λ (t : Share). 0 < t.quantity) shares s made.positive made.positive_here;
        positive_here = deal.positive;
        ascending = push shares s made.ascending made.under;
        under = All-push (λ (t : Share). ShareBefore t (share_of_part q)) shares s (All-weaker (λ (t : Share). ShareBefore t s) (λ (t : Share). ShareBefore t (share_of_part q)) (λ t h. onward t s (share_of_part q) h here) shares made.under) here;
        fits = omega arith;
      }

  pub made-more : (shares ys : List Share) (s n : Share) → n ≡ next_share s q → ys ≡ finished_shares shares s q → AreSharesSoFar parts at shares s → AreSharesSoFar parts (at + 1) ys n
  made-more shares ys s n n_is ys_is made = subst (λ (x : Share). AreSharesSoFar parts (at + 1) ys x) (sym n_is) (subst (λ (xs : List Share). AreSharesSoFar parts (at + 1) xs (next_share s q)) (sym ys_is) (made-next (is_of_pair s q) shares s refl made))

-- the first part
pub made-first : (parts : List DealPart) (each : All IsPartOfDeal parts) (shares : List Share) (s : Share) → 0 < length parts → s ≡ share_of_part (part_at parts 0) → shares ≡ [] → AreSharesSoFar parts 1 shares s
made-first parts each shares s inside s_is none =
    let deal = each 0 part_past_end inside in
    subst (λ (xs : List Share). AreSharesSoFar parts 1 xs s) (sym none) (subst (AreSharesSoFar parts 1 []) (sym s_is) (record {
      bid = λ i e. ap (λ (j : ℕ). (part_at parts j).bid) (zero-is i e);
      ask = λ i e. ap (λ (j : ℕ). (part_at parts j).ask) (zero-is i e);
      sums = λ bid ask. let more = sum_by_more (part_of_pair bid ask) parts 0 part_past_end inside in omega arith;
      positive = All-nil (λ (t : Share). 0 < t.quantity);
      positive_here = deal.positive;
      ascending = λ i j d lt below. absurd (omega arith);
      under = All-nil (λ (t : Share). ShareBefore t (share_of_part (part_at parts 0)));
      fits = let most = deal.bounded in omega arith;
    }))
  where
    zero-is : (i : ℕ) → i + 1 ≡ 1 → 0 ≡ i
    zero-is i e = omega arith

-- with the last share put after the others
pub merged : (parts : List DealPart) (at : ℕ) (shares ys : List Share) (s : Share) → ys ≡ shares ++ s ∷ [] → length parts ≤ at → AreSharesSoFar parts at shares s → AreMergedShares parts ys
merged parts at shares ys s is all made = subst (AreMergedShares parts) (sym is) (record {
  sums = λ bid ask. sum_by-append (share_of_pair bid ask) shares (s ∷ []) ∙ ap (λ (n : ℕ). sum_by (share_of_pair bid ask) shares + n) (one bid ask) ∙ made.sums bid ask ∙ ap (sum_by (part_of_pair bid ask)) (take_all at parts all);
  positive = All-push (λ (t : Share). 0 < t.quantity) shares s made.positive made.positive_here;
  ascending = push shares s made.ascending made.under;
})
  where
    one : (bid ask : ℕ) → sum_by (share_of_pair bid ask) (s ∷ []) ≡ share_of_pair bid ask s
    one bid ask = omega (arith, sum_by-cons (share_of_pair bid ask) s [])

-- of no parts there are no shares
pub merged-none : (parts : List DealPart) (shares : List Share) → length parts ≡ 0 → shares ≡ [] → AreMergedShares parts shares
merged-none [] shares e none = subst (AreMergedShares []) (sym none) (record { sums = λ bid ask. refl; positive = All-nil (λ (t : Share). 0 < t.quantity); ascending = λ i j d lt below. absurd (omega arith) })
merged-none (p ∷ ps) shares e none = absurd (omega arith)

-- the parts of all deals, in another order
pub sorted-parts : (deals : List Deal) (from parts : List DealPart) → from ≡ map part_of_deal deals → DealsInRange deals → IsPermutation from parts → (length parts ≡ length deals) × All IsPartOfDeal parts × AreParts deals parts
sorted-parts deals from parts is ranges moved =
    let moved' : IsPermutation (map part_of_deal deals) parts = subst (λ (xs : List DealPart). IsPermutation xs parts) is moved in (
      length_permutation (map part_of_deal deals) parts moved' ∙ length-map deals part_of_deal,
      All-permutation IsPartOfDeal (map part_of_deal deals) parts moved' (All-map IsPartOfDeal part_of_deal deals (λ k d lt. let r = ranges k d lt in record { positive = r.sized.some; bounded = r.sized.most })),
      λ bid ask. sum_by-IsPermutation (part_of_pair bid ask) (map part_of_deal deals) parts moved' ∙ fold-map (λ (n : ℕ) (p : DealPart). n + part_of_pair bid ask p) part_of_deal 0 deals,
    )
