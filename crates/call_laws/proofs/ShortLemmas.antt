-- Short orders: they don't meet where the volume is the greatest, and where it is not, each side has one.
use Rattle.std.proofs.Common.{◌≡◌, ◌≤◌, ◌<◌, ◌+◌, ℕ, zero, suc, List, [], ◌∷◌, ◌++◌, map, length, get_or, Bool, true, false, Some, refl, ap, ◌∙◌, arith, sum_by, All, inl, inr, cond, eqb, ltb, subst}
use Rattle.std.specs.Prelude.{◌||◌, ◌^◌}
use Rattle.std.proofs.lemmas.List.Folds.{fold-map}
use Rattle.std.proofs.lemmas.List.Sums.{sum_by_push, get_or-le-sum_by}
use Rattle.std.proofs.lemmas.List.Elements.{All-push, All-map}
use Rattle.std.proofs.lemmas.Bool.{cases_Bool, cases_eq, cases_lt, and_parts, and_from, or_from, or_left, ne_eqb, cond-false, lt-ltb, ltb-true}
use Rattle.audit_base.specs.declared.terms.Side.{Side}
use Rattle.audit_base.specs.declared.terms.Side.TheVariants.{Buy, Sell}
use Rattle.audit_base.specs.declared.terms.VolumeRule.{VolumeRule}
use Rattle.audit_base.specs.declared.terms.VolumeRule.TheVariants as of_volume
use Rattle.audit_base.specs.RuleKinds.{rule_of_volume}
use Rattle.audit_base.specs.declared.orders.Order.{Order}
use Rattle.audit_base.specs.declared.orders.Deal.{Deal}
use Rattle.audit_base.specs.Sums.{sum_below}
use Rattle.audit_base.specs.Orders.{order_past_end, order_at, side_at, quantity_at, limit_at, same_side, is_uncancelled_on, IsUncancelledOn, OrdersInRange}
use Rattle.audit_base.specs.Priority.{Better}
use Rattle.audit_base.specs.Deals.{quantity_traded_by, traded, volume, DealInRange, DealsInRange}
use Rattle.audit_base.specs.Calls.{IsMatchingDeal, Matching, Fair, OnePrice, Greatest, GreatestUniform}
use Rattle.audit_base.specs.Rules.{Conforms}
use Rattle.audit_base.specs.CallOffences.{is_short, best_short}
use Rattle.audit_base.proofs.LeastLemmas.{none_some}
use Rattle.audit_base.proofs.OrderLemmas.{same_side-is, test-stands, stands-test}
use Rattle.audit_base.proofs.PriorityLemmas.{outranks-better, best-exists, best-is}
use Rattle.audit_base.proofs.DealLemmas.{part-bid, part-ask}
use Rattle.call_laws.specs.Laws.{ShortOrdersDoNotMeet, LowVolumeLeavesShortOrders}
use Rattle.call_laws.proofs.FairLemmas.{trades-stands, side-volume, share, share-own}

-- what the test on a short order says
pub record IsShort (orders : List Order) (deals : List Deal) (side : Side) (i : ℕ) : Type 0 where
  pub stands : IsUncancelledOn orders side i
  pub below : traded deals i < quantity_at orders i

none-past : (orders : List Order) (i : ℕ) → length orders ≤ i → quantity_at orders i ≡ 0
none-past [] i h = refl
none-past (o ∷ os) zero h = absurd (omega arith)
none-past (o ∷ os) (suc i) h = none-past os i (omega arith)

pub short-is : (orders : List Order) (deals : List Deal) (side : Side) (i : ℕ) → is_short orders deals side i ≡ true → IsShort orders deals side i
short-is orders deals side i t =
    let parts = and_parts (is_uncancelled_on side (order_at orders i)) (ltb (traded deals i) (quantity_at orders i)) t in
    let below = ltb-true (traded deals i) (quantity_at orders i) parts.1 in
    elim (cases_lt i (length orders)) [
      | inl lt ↦ record { stands = test-stands orders side i lt parts.0; below = below }
      | inr past ↦ let none = none-past orders i past in absurd (omega arith)
    ]

pub is-short : (orders : List Order) (deals : List Deal) (side : Side) (i : ℕ) → IsShort orders deals side i → is_short orders deals side i ≡ true
is-short orders deals side i s = and_from _ _ (stands-test orders side i s.stands) (lt-ltb (traded deals i) (quantity_at orders i) s.below)

-- the deal at another price
abbrev pub at_price : ℕ → Deal → Deal
at_price p d = record d { price = p }

sum_by-map : {X Y : Type 0} (f : Y → ℕ) (g : X → Y) (xs : List X) → sum_by f (map g xs) ≡ sum_by (λ x. f (g x)) xs
sum_by-map f g xs = fold-map (λ n y. n + f y) g 0 xs

cond-most : (b : Bool) (x : ℕ) → cond b x 0 ≤ x
cond-most true x = omega arith
cond-most false x = omega arith

-- Where a short bid meets a short ask, one more unit can trade, with all deals at the limit of this ask.
module _ (orders : List Order) (deals : List Deal) (m : Matching orders deals) (fair : Fair orders deals) (orders_range : OrdersInRange orders) (ranges : DealsInRange deals)
    (i k : ℕ) (bid : IsShort orders deals Buy i) (ask : IsShort orders deals Sell k) (meet : limit_at orders k ≤ limit_at orders i) where
  abbrev one_more : Deal
  one_more = record { place = length deals + 1; bid = i; ask = k; quantity = 1; price = limit_at orders k }

  abbrev same_price : List Deal
  same_price = map (at_price (limit_at orders k)) deals

  abbrev more : List Deal
  more = same_price ++ one_more ∷ []

  both-trade : (n : ℕ) (e : Deal) → n < length deals → (0 < traded deals (get_or deals n e).bid) × (0 < traded deals (get_or deals n e).ask)
  both-trade n e lt =
      let d = get_or deals n e in let some = (ranges n e lt).sized.some in
      (omega (arith, get_or-le-sum_by (quantity_traded_by d.bid) deals n e lt, part-bid d), omega (arith, get_or-le-sum_by (quantity_traded_by d.ask) deals n e lt, part-ask d))

  -- fairness: no bid that trades is below the short one, and no ask above it
  still-keeps : All (λ d. IsMatchingDeal orders (at_price (limit_at orders k) d)) deals
  still-keeps = λ n e lt.
      let d = get_or deals n e in let kept = m.kept n e lt in let s = both-trade n e lt in
      let low : limit_at orders d.ask ≤ limit_at orders k = elim (cases_lt (limit_at orders k) (limit_at orders d.ask)) [
        | inl over ↦
            let better : Better orders k d.ask = outranks-better Sell (order_at orders k) (order_at orders d.ask) ask.stands.of_side kept.ask_stands.of_side (or_left _ _ (lt-ltb _ _ over)) in
            let full = fair.fills Sell k d.ask ask.stands kept.ask_stands better s.1 in let b = ask.below in absurd (omega arith)
        | inr le ↦ le
      ] in
      let high : limit_at orders i ≤ limit_at orders d.bid = elim (cases_lt (limit_at orders d.bid) (limit_at orders i)) [
        | inl under ↦
            let better : Better orders i d.bid = outranks-better Buy (order_at orders i) (order_at orders d.bid) bid.stands.of_side kept.bid_stands.of_side (or_left _ _ (lt-ltb _ _ under)) in
            let full = fair.fills Buy i d.bid bid.stands kept.bid_stands better s.0 in let b = bid.below in absurd (omega arith)
        | inr le ↦ le
      ] in
      record { bid_stands = kept.bid_stands; ask_stands = kept.ask_stands; limits = record { least = low; most = omega arith } }

  more-traded : (j : ℕ) → traded more j ≡ traded deals j + cond (eqb i j || eqb k j) 1 0
  more-traded j = sum_by_push (quantity_traded_by j) same_price one_more ∙ ap (λ x. x + cond (eqb i j || eqb k j) 1 0) (sum_by-map (quantity_traded_by j) (at_price (limit_at orders k)) deals)

  more-matching : Matching orders more
  more-matching = record {
    kept = All-push (IsMatchingDeal orders) same_price one_more (All-map (IsMatchingDeal orders) (at_price (limit_at orders k)) deals still-keeps)
        (record { bid_stands = bid.stands; ask_stands = ask.stands; limits = record { least = omega arith; most = meet } });
    within = λ j lt.
        let e = more-traded j in
        elim (cases_eq i j) [
          | inl same ↦ let b : traded deals j < quantity_at orders j = subst (λ x. traded deals x < quantity_at orders x) same bid.below in omega (arith, cond-most (eqb i j || eqb k j) 1)
          | inr apart ↦ elim (cases_eq k j) [
            | inl same ↦ let b : traded deals j < quantity_at orders j = subst (λ x. traded deals x < quantity_at orders x) same ask.below in omega (arith, cond-most (eqb i j || eqb k j) 1)
            | inr apart' ↦ omega (arith, m.within j lt, cond-false {A = ℕ} (eqb i j || eqb k j) 1 0 (or_from (eqb i j) (eqb k j) (ne_eqb i j apart) (ne_eqb k j apart')))
          ]
        ];
  }

  more-one_price : OnePrice more
  more-one_price = record {
    price = limit_at orders k;
    each = All-push (λ d. d.price ≡ limit_at orders k) same_price one_more (All-map (λ d. d.price ≡ limit_at orders k) (at_price (limit_at orders k)) deals (λ n e lt. refl)) refl;
  }

  more-volume : volume more ≡ volume deals + 1
  more-volume = sum_by_push (λ d. d.quantity) same_price one_more ∙ ap (λ x. x + 1) (sum_by-map (λ d. d.quantity) (at_price (limit_at orders k)) deals)

  more-ranges : DealsInRange more
  more-ranges =
      let priced : limit_at orders k < 10 ^ 18 = (orders_range k order_past_end ask.stands.inside).priced in
      All-push DealInRange same_price one_more
      (All-map DealInRange (at_price (limit_at orders k)) deals (λ n e lt. record { sized = (ranges n e lt).sized; priced = priced }))
      (record { sized = record { some = omega arith; most = omega arith }; priced = priced })

  not-greatest : Greatest orders deals → ⊥
  not-greatest g = absurd (omega (arith, g more more-ranges more-matching, more-volume))

  not-greatest_uniform : GreatestUniform orders deals → ⊥
  not-greatest_uniform g = absurd (omega (arith, g more more-ranges more-matching more-one_price, more-volume))

-- where the volume is the greatest, short orders don't meet
pub short-apart : ShortOrdersDoNotMeet
short-apart r orders deals orders_range ranges c i k b a = elim (cases_lt (limit_at orders i) (limit_at orders k)) [
  | inl lt ↦ lt
  | inr meet ↦ absurd (meeting r c (short-is orders deals Buy i b) (short-is orders deals Sell k a) meet)
]
  where
    meeting : (r : VolumeRule) → Conforms (rule_of_volume r) orders deals → IsShort orders deals Buy i → IsShort orders deals Sell k → limit_at orders k ≤ limit_at orders i → ⊥
    meeting of_volume.Uniform c bid ask meet = not-greatest_uniform orders deals c.matching c.fair orders_range ranges i k bid ask meet c.greatest
    meeting of_volume.Maximum c bid ask meet = not-greatest orders deals c.matching c.fair orders_range ranges i k bid ask meet c.greatest

-- of two sums, the greater has a greater term
greater-term : (f g : ℕ → ℕ) (n : ℕ) → sum_below f n < sum_below g n → (k : ℕ) × (k < n) × (f k < g k)
greater-term f g zero lt = absurd (omega arith)
greater-term f g (suc n) lt = elim (cases_lt (f n) (g n)) [
  | inl here ↦ (n, omega arith, here)
  | inr less ↦ let r = greater-term f g n (omega arith) in (r.0, omega (arith, r.1), r.2)
]

-- where another matching has a greater volume, some order of each side trades more there, and so is short
pub lesser-short : (orders : List Order) (deals others : List Deal) → Matching orders deals → Matching orders others → volume deals < volume others
    → (side : Side) → (k : ℕ) × IsShort orders deals side k
lesser-short orders deals others m n lt side =
    let r = greater-term (share orders deals side) (share orders others side) (length orders)
    (omega (arith, side-volume orders deals m.kept side, side-volume orders others n.kept side)) in
    let k = r.0 in
    elim (cases_Bool (same_side side (side_at orders k))) [
      | inr off ↦ let none : share orders others side k ≡ 0 = cond-false _ _ 0 off in absurd (omega (arith, r.2))
      | inl on ↦
          let sided = same_side-is side _ on in
          let mine = share-own orders deals side k sided in
          let theirs = share-own orders others side k sided in
          let less : traded deals k < traded others k = omega (arith, r.2) in
          let most = n.within k r.1 in
          (k, record { stands = subst (λ s. IsUncancelledOn orders s k) sided (trades-stands orders others n.kept k (omega arith)); below = omega arith })
    ]

-- the best short order of a side is on it, and no record cancels it
pub best-stands : (orders : List Order) (deals : List Deal) (side : Side) (i : ℕ) → best_short orders deals side ≡ Some i → IsUncancelledOn orders side i
unfolding best_short
best-stands orders deals side i e =
    let b = best-is orders (is_short orders deals side) i e in
    test-stands orders side i b.inside (and_parts _ _ b.passes).0

-- so each side has a best short order
pub lesser-best : (orders : List Order) (deals others : List Deal) → Matching orders deals → Matching orders others → volume deals < volume others
    → (side : Side) → (i : ℕ) × (best_short orders deals side ≡ Some i)
unfolding best_short
lesser-best orders deals others m n lt side =
    let r = lesser-short orders deals others m n lt side in
    best-exists orders (is_short orders deals side) r.0 r.1.stands.inside (is-short orders deals side r.0 r.1)

pub lesser-leaves : LowVolumeLeavesShortOrders
lesser-leaves orders deals others m n lt side e = let best = lesser-best orders deals others m n lt side in none_some _ best.0 e best.1
