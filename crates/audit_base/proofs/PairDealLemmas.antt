-- The one list of deals that has a deal for each pair of a quantity above 0: what is in it, that only one list is so, and sums over it.
use Rattle.std.proofs.Common.{◌≡◌, ◌≤◌, ◌<◌, ◌+◌, ◌⊎◌, ℕ, zero, suc, List, [], ◌∷◌, ◌++◌, length, take, get_or, map, Bool, true, false, cond, Option, Some, None, refl, sym, ap, ◌∙◌, arith, inl, inr, sum_by, All, AllPairs, subst}
use Rattle.std.specs.Prelude.{Contains, nat_lt, filter_map, flat_map}
use Rattle.std.specs.List.{enumerate_from, range_with_len, cons_option}
use Rattle.std.proofs.lemmas.Bool.{cases_Bool, cases_eq, ltb-true, lt-ltb, both_ways, cond-true, cond-false}
use Rattle.std.proofs.lemmas.List.{get_or-map, length-map, same_lists, take_all}
use Rattle.std.proofs.lemmas.List.Elements.{All-nil, All-cons, All-head, All-tail, All-append, All-weaker, All-contains, Contains-append_left}
use Rattle.std.proofs.lemmas.List.Sums.{sum_by-cons, sum_by-append}
use Rattle.std.proofs.lemmas.List.FromFn.{length-enumerate_from, get_or-enumerate_from, length-range_with_len, get_or-range_with_len}
use Rattle.audit_base.specs.declared.orders.Order.{Order}
use Rattle.audit_base.specs.declared.orders.Deal.{Deal}
use Rattle.audit_base.specs.Sums.{sum_below}
use Rattle.audit_base.specs.Deals.{deal_past_end}
use Rattle.audit_base.specs.Expected.{pair_deal, pair_deals}
use Rattle.audit_base.proofs.SumLemmas.{AllPairs-head, AllPairs-tail, AllPairs-cons, Contains-cases, Contains-front, Contains-behind, below-same, below-list, sum_by-same}

-- the bid and the ask of a deal
abbrev pub ends_of : Deal → ℕ × ℕ
ends_of d = (d.bid, d.ask)

-- one pair is before another: by the bid, and then by the ask
abbrev pub Before : ℕ × ℕ → ℕ × ℕ → Type 0
Before p q = (p.0 < q.0) ⊎ ((p.0 ≡ q.0) × (p.1 < q.1))

-- a deal has the quantity and the price of its pair
pub record IsPairDeal (quantity price : ℕ → ℕ → ℕ) (count : ℕ) (d : Deal) : Type 0 where
  pub bid_inside : d.bid < count
  pub ask_inside : d.ask < count
  pub some : 0 < d.quantity
  pub is : d.quantity ≡ quantity d.bid d.ask
  pub at : d.price ≡ price d.bid d.ask

-- each deal is that of its pair, the pairs are in order and complete, and the places are 1, 2 and so on
pub record ArePairDeals (quantity price : ℕ → ℕ → ℕ) (count : ℕ) (deals : List Deal) : Type 0 where
  pub each : All (IsPairDeal quantity price count) deals
  pub in_order : AllPairs (λ d e. Before (ends_of d) (ends_of e)) deals
  pub complete : (bid ask : ℕ) → bid < count → ask < count → 0 < quantity bid ask → Contains (map ends_of deals) (bid, ask)
  pub numbered : (n : ℕ) (e : Deal) → n < length deals → (get_or deals n e).place ≡ n + 1

-- Two such lists are one.

before-one_way : (p q : ℕ × ℕ) → Before p q → Before q p → ⊥
before-one_way p q (inl a) (inl b) = absurd (omega arith)
before-one_way p q (inl a) (inr b) = let e = b.0 in absurd (omega arith)
before-one_way p q (inr a) (inl b) = let e = a.0 in absurd (omega arith)
before-one_way p q (inr a) (inr b) = let e = a.1 in let f = b.1 in absurd (omega arith)

cons-same : {X : Type 0} {a b : X} {xs ys : List X} → a ≡ b → xs ≡ ys → a ∷ xs ≡ b ∷ ys
cons-same e f = cc

-- two lists in one strict order with the same members are the same
pub ordered-same : {X : Type 0} (R : X → X → Type 0) → ((i j : X) → R i j → R j i → ⊥) → (xs ys : List X) → AllPairs R xs → AllPairs R ys
    → ((i : X) → Contains xs i → Contains ys i) → ((i : X) → Contains ys i → Contains xs i) → xs ≡ ys
ordered-same R one_way [] [] p q f g = refl
ordered-same R one_way [] (y ∷ ys) p q f g = let c = g y (Contains-front y ys) in let lt = c.1 in absurd (omega arith)
ordered-same R one_way (x ∷ xs) [] p q f g = let c = f x (Contains-front x xs) in let lt = c.1 in absurd (omega arith)
ordered-same R one_way (x ∷ xs) (y ∷ ys) p q f g =
    let heads : x ≡ y = elim (Contains-cases y ys x (f x (Contains-front x xs))) [
      | inl e ↦ sym e
      | inr behind ↦ elim (Contains-cases x xs y (g y (Contains-front y ys))) [
        | inl e ↦ e
        | inr behind' ↦ absurd (one_way y x (All-contains (R y) ys x (AllPairs-head R y ys q) behind) (All-contains (R x) xs y (AllPairs-head R x xs p) behind'))
      ]
    ] in
    cons-same heads (ordered-same R one_way xs ys (AllPairs-tail R x xs p) (AllPairs-tail R y ys q)
    (λ i c. elim (Contains-cases y ys i (f i (Contains-behind x xs i c))) [
      | inl e ↦ let r = All-contains (R x) xs i (AllPairs-head R x xs p) c in absurd (one_way x x (subst (λ k. R x k) (sym e ∙ sym heads) r) (subst (λ k. R x k) (sym e ∙ sym heads) r))
      | inr d ↦ d
    ])
    (λ i c. elim (Contains-cases x xs i (g i (Contains-behind y ys i c))) [
      | inl e ↦ let r = All-contains (R y) ys i (AllPairs-head R y ys q) c in absurd (one_way y y (subst (λ k. R y k) (sym e ∙ heads) r) (subst (λ k. R y k) (sym e ∙ heads) r))
      | inr d ↦ d
    ]))

deal-same : (p p' b b' a a' q q' c c' : ℕ) → p ≡ p' → b ≡ b' → a ≡ a' → q ≡ q' → c ≡ c'
    → ◌≡◌ {A = Deal} (record { place = p; bid = b; ask = a; quantity = q; price = c }) (record { place = p'; bid = b'; ask = a'; quantity = q'; price = c' })
deal-same p p' b b' a a' q q' c c' e f g h i = cc

mapped-order : (deals : List Deal) → AllPairs (λ d e. Before (ends_of d) (ends_of e)) deals → AllPairs Before (map ends_of deals)
mapped-order deals h i j p lt below =
    let under : j < length deals = rw (← length-map deals ends_of) below in
    let a = get_or-map ends_of deals i deal_past_end p (omega arith) in
    let b = get_or-map ends_of deals j deal_past_end p under in
    rw (a, b) (h i j deal_past_end lt under)

module _ (quantity price : ℕ → ℕ → ℕ) (count : ℕ) where
  moved : (xs ys : List Deal) → ArePairDeals quantity price count xs → ArePairDeals quantity price count ys → (p : ℕ × ℕ) → Contains (map ends_of xs) p → Contains (map ends_of ys) p
  moved xs ys x y p (n, lt, at) =
      let under : n < length xs = rw (← length-map xs ends_of) lt in
      let d = get_or xs n deal_past_end in
      let k = x.each n deal_past_end under in
      let e : get_or (map ends_of xs) n p ≡ ends_of d = get_or-map ends_of xs n deal_past_end p under in
      let some = k.some in let is = k.is in
      subst (λ q. Contains (map ends_of ys) q) (sym e ∙ at) (y.complete d.bid d.ask k.bid_inside k.ask_inside (omega arith))

  -- only one list has a deal for each pair
  pub one-list : (xs ys : List Deal) → ArePairDeals quantity price count xs → ArePairDeals quantity price count ys → xs ≡ ys
  one-list xs ys x y =
      let same : map ends_of xs ≡ map ends_of ys = ordered-same Before before-one_way (map ends_of xs) (map ends_of ys) (mapped-order xs x.in_order) (mapped-order ys y.in_order)
      (λ p c. moved xs ys x y p c) (λ p c. moved ys xs y x p c) in
      let long : length xs ≡ length ys = sym (length-map xs ends_of) ∙ ap length same ∙ length-map ys ends_of in
      same_lists xs ys long (λ n e lt.
      let a = get_or xs n e in let b = get_or ys n e in
      let under : n < length ys = omega arith in
      let p = x.each n e lt in let q = y.each n e under in
      let both : ends_of a ≡ ends_of b = sym (get_or-map ends_of xs n e (0, 0) lt) ∙ ap (λ l. get_or l n (0, 0)) same ∙ get_or-map ends_of ys n e (0, 0) under in
      let bids : a.bid ≡ b.bid = ap (λ r. r.0) both in
      let asks : a.ask ≡ b.ask = ap (λ r. r.1) both in
      let places : a.place ≡ b.place = x.numbered n e lt ∙ sym (y.numbered n e under) in
      let quantities : a.quantity ≡ b.quantity = p.is ∙ ap (λ r. quantity r.0 r.1) both ∙ sym q.is in
      let prices : a.price ≡ b.price = p.at ∙ ap (λ r. price r.0 r.1) both ∙ sym q.at in
      deal-same a.place b.place a.bid b.bid a.ask b.ask a.quantity b.quantity a.price b.price places bids asks quantities prices)

-- `pair_deals` is such a list.

AllPairs-append : {X : Type 0} (R : X → X → Type 0) (xs ys : List X) → AllPairs R xs → AllPairs R ys → All (λ x. All (R x) ys) xs → AllPairs R (xs ++ ys)
AllPairs-append R [] ys p q h = q
AllPairs-append R (x ∷ xs) ys p q h =
    AllPairs-cons R x (xs ++ ys) (All-append (R x) xs ys (AllPairs-head R x xs p) (All-head (λ x. All (R x) ys) x xs h))
    (AllPairs-append R xs ys (AllPairs-tail R x xs p) q (All-tail (λ x. All (R x) ys) x xs h))

module _ (quantity price : ℕ → ℕ → ℕ) where
  -- the deals of one bid with the asks of indices from one on
  abbrev row : ℕ → ℕ → ℕ → List Deal
  row bid from n = filter_map (pair_deal quantity price bid) (range_with_len from n)

  record InRow (bid from to : ℕ) (d : Deal) : Type 0 where
    bid_is : d.bid ≡ bid
    least : from ≤ d.ask
    most : d.ask < to
    some : 0 < d.quantity
    is : d.quantity ≡ quantity d.bid d.ask
    at : d.price ≡ price d.bid d.ask

  record IsRow (bid from n : ℕ) (ds : List Deal) : Type 0 where
    each : All (InRow bid from (from + n)) ds
    in_order : AllPairs (λ d e. Before (ends_of d) (ends_of e)) ds
    complete : (ask : ℕ) → from ≤ ask → ask < from + n → 0 < quantity bid ask → Contains (map ends_of ds) (bid, ask)

  row-is : (n bid from : ℕ) → IsRow bid from n (row bid from n)
  row-is zero bid from = record { each = All-nil (InRow bid from (from + 0)); in_order = λ i j d lt below. absurd (omega arith); complete = λ ask a b some. absurd (omega arith) }
  row-is (suc n) bid from =
      let r = row-is n bid (from + 1) in
      let rest = row bid (from + 1) n in
      let wider : All (InRow bid from (from + suc n)) rest = All-weaker (InRow bid (from + 1) (from + 1 + n)) (InRow bid from (from + suc n))
      (λ d k. let a = k.least in let b = k.most in record { bid_is = k.bid_is; least = omega arith; most = omega arith; some = k.some; is = k.is; at = k.at }) rest r.each in
      let d : Deal = record { place = 0; bid = bid; ask = from; quantity = quantity bid from; price = price bid from } in
      let after : All (λ e. Before (ends_of d) (ends_of e)) rest = All-weaker (InRow bid (from + 1) (from + 1 + n)) (λ e. Before (ends_of d) (ends_of e))
      (λ e k. let a = k.least in inr (sym k.bid_is, omega arith)) rest r.each in
      elim (cases_Bool (nat_lt 0 (quantity bid from))) [
        | inl t ↦
            let same : d ∷ rest ≡ row bid from (suc n) = ap (λ (o : Option Deal). cons_option o rest) (sym (cond-true (nat_lt 0 (quantity bid from)) (Some d) None t)) in
            subst (IsRow bid from (suc n)) same (record {
              each = All-cons (InRow bid from (from + suc n)) d rest (record { bid_is = refl; least = omega arith; most = omega arith; some = ltb-true 0 (quantity bid from) t; is = refl; at = refl }) wider;
              in_order = AllPairs-cons (λ d e. Before (ends_of d) (ends_of e)) d rest after r.in_order;
              complete = λ ask a b some. elim (cases_eq ask from) [
                | inl e ↦ subst (λ k. Contains (map ends_of (d ∷ rest)) (bid, k)) (sym e) (Contains-front (bid, from) (map ends_of rest))
                | inr ne ↦ Contains-behind (bid, from) (map ends_of rest) (bid, ask) (r.complete ask (omega (arith, ne)) (omega arith) some)
              ];
            })
        | inr f ↦
            let same : rest ≡ row bid from (suc n) = ap (λ (o : Option Deal). cons_option o rest) (sym (cond-false (nat_lt 0 (quantity bid from)) (Some d) None f)) in
            subst (IsRow bid from (suc n)) same (record {
              each = wider;
              in_order = r.in_order;
              complete = λ ask a b some. elim (cases_eq ask from) [
                | inl e ↦ absurd (both_ways _ f (lt-ltb 0 (quantity bid from) (subst (λ k. 0 < quantity bid k) e some)))
                | inr ne ↦ r.complete ask (omega (arith, ne)) (omega arith) some
              ];
            })
      ]

  -- the deals of the bids from one on with all asks
  abbrev rows : ℕ → ℕ → ℕ → List Deal
  rows count from n = flat_map (λ bid. filter_map (pair_deal quantity price bid) (range_with_len 0 count)) (range_with_len from n)

  record InRows (count from to : ℕ) (d : Deal) : Type 0 where
    least : from ≤ d.bid
    most : d.bid < to
    inside : d.ask < count
    some : 0 < d.quantity
    is : d.quantity ≡ quantity d.bid d.ask
    at : d.price ≡ price d.bid d.ask

  record AreRows (count from n : ℕ) (ds : List Deal) : Type 0 where
    each : All (InRows count from (from + n)) ds
    in_order : AllPairs (λ d e. Before (ends_of d) (ends_of e)) ds
    complete : (bid ask : ℕ) → from ≤ bid → bid < from + n → ask < count → 0 < quantity bid ask → Contains (map ends_of ds) (bid, ask)

  in-map-left : (xs ys : List Deal) (p : ℕ × ℕ) → Contains (map ends_of xs) p → Contains (map ends_of (xs ++ ys)) p
  in-map-left xs ys p c = subst (λ l. Contains l p) (sym (map-append xs ys)) (Contains-append_left (map ends_of xs) (map ends_of ys) p c)
    where
      map-append : (xs ys : List Deal) → map ends_of (xs ++ ys) ≡ map ends_of xs ++ map ends_of ys
      map-append [] ys = refl
      map-append (x ∷ xs) ys = cons-same refl (map-append xs ys)

  in-map-right : (xs ys : List Deal) (p : ℕ × ℕ) → Contains (map ends_of ys) p → Contains (map ends_of (xs ++ ys)) p
  in-map-right [] ys p c = c
  in-map-right (x ∷ xs) ys p c = Contains-behind (ends_of x) (map ends_of (xs ++ ys)) p (in-map-right xs ys p c)

  rows-are : (n count from : ℕ) → AreRows count from n (rows count from n)
  rows-are zero count from = record { each = All-nil (InRows count from (from + 0)); in_order = λ i j d lt below. absurd (omega arith); complete = λ bid ask a b c some. absurd (omega arith) }
  rows-are (suc n) count from =
      let first = row from 0 count in
      let rest = rows count (from + 1) n in
      let f = row-is count from 0 in
      let r = rows-are n count (from + 1) in
      let one : All (InRows count from (from + suc n)) first = All-weaker (InRow from 0 (0 + count)) (InRows count from (from + suc n))
      (λ d k. let e = k.bid_is in let m = k.most in record { least = omega arith; most = omega arith; inside = omega arith; some = k.some; is = k.is; at = k.at }) first f.each in
      let two : All (InRows count from (from + suc n)) rest = All-weaker (InRows count (from + 1) (from + 1 + n)) (InRows count from (from + suc n))
      (λ d k. let a = k.least in let b = k.most in record { least = omega arith; most = omega arith; inside = k.inside; some = k.some; is = k.is; at = k.at }) rest r.each in
      let after : All (λ d. All (λ e. Before (ends_of d) (ends_of e)) rest) first = All-weaker (InRow from 0 (0 + count)) (λ d. All (λ e. Before (ends_of d) (ends_of e)) rest)
      (λ d k. All-weaker (InRows count (from + 1) (from + 1 + n)) (λ e. Before (ends_of d) (ends_of e)) (λ e m. let a = k.bid_is in let b = m.least in inl (omega arith)) rest r.each) first f.each in
      record {
        each = All-append (InRows count from (from + suc n)) first rest one two;
        in_order = AllPairs-append (λ d e. Before (ends_of d) (ends_of e)) first rest f.in_order r.in_order after;
        complete = λ bid ask a b c some. elim (cases_eq bid from) [
          | inl e ↦ in-map-left first rest (bid, ask) (subst (λ k. Contains (map ends_of first) (k, ask)) (sym e) (f.complete ask (omega arith) (omega arith) (subst (λ k. 0 < quantity k ask) e some)))
          | inr ne ↦ in-map-right first rest (bid, ask) (r.complete bid ask (omega (arith, ne)) (omega arith) c some)
        ];
      }

-- Numbering changes the places alone.

abbrev numbered : List Deal → List Deal
numbered ds = map (λ e. record e.1 { place = e.0 }) (enumerate_from 1 ds)

numbered-at : (ds : List Deal) (k : ℕ) (d : Deal) → k < length ds → get_or (numbered ds) k d ≡ record (get_or ds k d) { place = 1 + k }
numbered-at ds k d lt =
    let inside : k < length (enumerate_from 1 ds) = rw (length-enumerate_from 1 ds) lt in
    get_or-map (λ (e : ℕ × Deal). record e.1 { place = e.0 }) (enumerate_from 1 ds) k (0, d) d inside
    ∙ ap (λ (e : ℕ × Deal). record e.1 { place = e.0 }) (get_or-enumerate_from 1 ds k (0, d) lt)

numbered-length : (ds : List Deal) → length (numbered ds) ≡ length ds
numbered-length ds = length-map (enumerate_from 1 ds) (λ (e : ℕ × Deal). record e.1 { place = e.0 }) ∙ length-enumerate_from 1 ds

numbered-ends : (n : ℕ) (ds : List Deal) → map ends_of (map (λ e. record e.1 { place = e.0 }) (enumerate_from n ds)) ≡ map ends_of ds
numbered-ends n [] = refl
numbered-ends n (d ∷ ds) = cons-same refl (numbered-ends (n + 1) ds)

module _ (orders : List Order) (quantity price : ℕ → ℕ → ℕ) where
  abbrev unnumbered : List Deal
  unnumbered = rows quantity price (length orders) 0 (length orders)

  pub pair_deals-are : ArePairDeals quantity price (length orders) (pair_deals orders quantity price)
  unfolding pair_deals
  pair_deals-are =
      let r = rows-are quantity price (length orders) (length orders) 0 in
      record {
        each = λ k d lt.
            let under : k < length unnumbered = rw (← numbered-length unnumbered) lt in
            let m = r.each k d under in
            let a = m.most in
            subst (IsPairDeal quantity price (length orders)) (sym (numbered-at unnumbered k d under))
            (record { bid_inside = omega arith; ask_inside = m.inside; some = m.some; is = m.is; at = m.at });
        in_order = λ i j d lt below.
            let under : j < length unnumbered = rw (← numbered-length unnumbered) below in
            rw (numbered-at unnumbered i d (omega arith), numbered-at unnumbered j d under) (r.in_order i j d lt under);
        complete = λ bid ask b a some. subst (λ l. Contains l (bid, ask)) (sym (numbered-ends 1 unnumbered)) (r.complete bid ask (omega arith) (omega arith) a some);
        numbered = λ n e lt.
            let under : n < length unnumbered = rw (← numbered-length unnumbered) lt in
            let place : (get_or (numbered unnumbered) n e).place ≡ 1 + n = ap (λ (d : Deal). d.place) (numbered-at unnumbered n e under) in
            omega arith;
      }

  -- so a list with these properties is `pair_deals`
  pub are-pair_deals : (deals : List Deal) → ArePairDeals quantity price (length orders) deals → deals ≡ pair_deals orders quantity price
  are-pair_deals deals h = one-list quantity price (length orders) deals (pair_deals orders quantity price) h pair_deals-are

-- Sums over the pairs.

abbrev part : (Deal → ℕ) → Option Deal → ℕ
part f None = 0
part f (Some d) = f d

part-if : (f : Deal → ℕ) (b : Bool) (d : Deal) → part f (cond b (Some d) None) ≡ cond b (f d) 0
part-if f true d = refl
part-if f false d = refl

option-sum : (f : Deal → ℕ) (o : Option Deal) (ds : List Deal) → sum_by f (cons_option o ds) ≡ part f o + sum_by f ds
option-sum f None ds = omega arith
option-sum f (Some d) ds = sum_by-cons f d ds

kept-sum : (f : Deal → ℕ) (h : ℕ → Option Deal) (xs : List ℕ) → sum_by f (filter_map h xs) ≡ sum_by (λ x. part f (h x)) xs
kept-sum f h [] = refl
kept-sum f h (x ∷ xs) = option-sum f (h x) (filter_map h xs) ∙ (let rest = kept-sum f h xs in let s = sum_by-cons (λ x. part f (h x)) x xs in omega arith)

rows-sum : (f : Deal → ℕ) (g : ℕ → List Deal) (xs : List ℕ) → sum_by f (flat_map g xs) ≡ sum_by (λ x. sum_by f (g x)) xs
rows-sum f g [] = refl
rows-sum f g (x ∷ xs) = let rest = rows-sum f g xs in let a = sum_by-append f (g x) (flat_map g xs) in let s = sum_by-cons (λ x. sum_by f (g x)) x xs in omega arith

range-sum : (f : ℕ → ℕ) (n : ℕ) → sum_by f (range_with_len 0 n) ≡ sum_below f n
range-sum f n =
    let long : length (range_with_len 0 n) ≡ n = length-range_with_len 0 n in
    let each : sum_below (λ i. f (get_or (range_with_len 0 n) i 0)) n ≡ sum_below f n = below-same (λ i. f (get_or (range_with_len 0 n) i 0)) f n
    (λ i lt. ap f (let e = get_or-range_with_len 0 n i 0 lt in omega arith)) in
    let whole : sum_below (λ i. f (get_or (range_with_len 0 n) i 0)) n ≡ sum_by f (take n (range_with_len 0 n)) = below-list f (range_with_len 0 n) 0 n (omega arith) in
    let all : take n (range_with_len 0 n) ≡ range_with_len 0 n = take_all n (range_with_len 0 n) (omega arith) in
    ap (sum_by f) (sym all) ∙ sym whole ∙ each

numbered-sum : (f : Deal → ℕ) → ((d : Deal) (n : ℕ) → f (record d { place = n }) ≡ f d) → (ds : List Deal) (n : ℕ)
    → sum_by f (map (λ e. record e.1 { place = e.0 }) (enumerate_from n ds)) ≡ sum_by f ds
numbered-sum f placeless [] n = refl
numbered-sum f placeless (d ∷ ds) n =
    let rest = numbered-sum f placeless ds (n + 1) in
    let a = sum_by-cons f (record d { place = n }) (map (λ (e : ℕ × Deal). record e.1 { place = e.0 }) (enumerate_from (n + 1) ds)) in
    let b = sum_by-cons f d ds in
    let c = placeless d n in
    omega arith

-- a sum over the deals is one over the pairs of a bid and an ask
pub pair_deals-sum : (orders : List Order) (quantity price : ℕ → ℕ → ℕ) (f : Deal → ℕ) → ((d : Deal) (n : ℕ) → f (record d { place = n }) ≡ f d)
    → sum_by f (pair_deals orders quantity price) ≡ sum_below (λ bid. sum_below (λ ask. cond (nat_lt 0 (quantity bid ask))
    (f (record { place = 0; bid = bid; ask = ask; quantity = quantity bid ask; price = price bid ask })) 0) (length orders)) (length orders)
unfolding pair_deals
pair_deals-sum orders quantity price f placeless =
    let n = length orders in
    let indices = range_with_len 0 n in
    let g : ℕ → ℕ → ℕ = λ bid ask. cond (nat_lt 0 (quantity bid ask)) (f (record { place = 0; bid = bid; ask = ask; quantity = quantity bid ask; price = price bid ask })) 0 in
    let one = numbered-sum f placeless (flat_map (λ bid. filter_map (pair_deal quantity price bid) indices) indices) 1 in
    let two = rows-sum f (λ bid. filter_map (pair_deal quantity price bid) indices) indices in
    let three = range-sum (λ bid. sum_by f (filter_map (pair_deal quantity price bid) indices)) n in
    let four : sum_below (λ bid. sum_by f (filter_map (pair_deal quantity price bid) indices)) n ≡ sum_below (λ bid. sum_below (g bid) n) n = below-same _ _ n (λ bid lt.
    let a = kept-sum f (pair_deal quantity price bid) indices in
    let b : sum_by (λ ask. part f (pair_deal quantity price bid ask)) indices ≡ sum_by (g bid) indices = sum_by-same (λ ask. part f (pair_deal quantity price bid ask)) (g bid) indices
    (λ k d lt. let ask = get_or indices k d in part-if f (nat_lt 0 (quantity bid ask)) (record { place = 0; bid = bid; ask = ask; quantity = quantity bid ask; price = price bid ask })) in
    let c = range-sum (g bid) n in
    a ∙ b ∙ c) in
    one ∙ two ∙ three ∙ four
