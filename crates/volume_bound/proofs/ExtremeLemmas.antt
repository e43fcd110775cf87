-- The extremes over all prices are reached among the candidates: 0, and a price for each
-- limit of one side.
use Rattle.std.proofs.Common.{◌≡◌, ◌≤◌, ◌<◌, ◌+◌, ◌^◌, ◌∙◌, ◌⊎◌, sym, subst, ℕ, Bool, true, false, cond, List, [], ◌∷◌, length, take, get_or, refl, inl, inr, eq-eqb, arith, All}
use Rattle.std.specs.Prelude.{◌&&◌, ◌||◌, ◌==◌, nat_lt, nat_le}
use Rattle.std.proofs.lemmas.Bool.{cases_lt, cases_eq, le-ltb, ne_eqb, leb-true, lt-ltb, ltb-true, le-leb}
use Rattle.std.proofs.lemmas.List.Elements.{All-cons, All-nil, All-head, All-tail, All-more, All-weaker}
use Rattle.std.proofs.lemmas.List.Sums.{sum_by-le-sum_by}
use Rattle.audit_base.specs.declared.orders.Order.{Order}
use Rattle.audit_base.specs.declared.orders.Cut.{Cut}
use Rattle.audit_base.specs.Bounds.{cut, executable_volume, IsLeastCut, IsGreatestExecutableVolume}
use Rattle.audit_base.proofs.SumLemmas.{sum_by-le-All}
use Rattle.volume_bound.specs.declared.limits.LimitQuantity.{LimitQuantity}
use Rattle.volume_bound.specs.Limits.{quantity_below, quantity_upto, quantity_from}
use Rattle.volume_bound.specs.Sides.{SideLimits, HaveSumsOf, cut_of, executable_of}

-- Which of two cuts is taken. `Good a b` says that the volume a is as good as b.

-- a volume that is as good, and where the two are equal a price that is no greater
pub record IsAsGood (Good : ℕ → ℕ → Type 0) (a b : Cut) : Type 0 where
  pub volumes : Good a.volume b.volume
  pub prices : b.volume ≡ a.volume → a.price ≤ b.price

abbrev pub Less : ℕ → ℕ → Type 0
Less a b = a ≤ b

abbrev pub More : ℕ → ℕ → Type 0
More a b = b ≤ a

-- what a function of prices is at one
abbrev pub at_price : (ℕ → ℕ) → ℕ → Cut
at_price value p = record { price = p; volume = value p }

less-joins : (a b c : Cut) → IsAsGood Less a b → IsAsGood Less b c → IsAsGood Less a c
less-joins a b c f g =
    let v = f.volumes in let w = g.volumes in
    record { volumes = omega arith; prices = λ e. let p = f.prices (omega arith) in let q = g.prices (omega arith) in omega arith }

more-joins : (a b c : Cut) → IsAsGood More a b → IsAsGood More b c → IsAsGood More a c
more-joins a b c f g =
    let v : b.volume ≤ a.volume = f.volumes in let w : c.volume ≤ b.volume = g.volumes in
    record { volumes = omega arith; prices = λ e. let p = f.prices (omega arith) in let q = g.prices (omega arith) in omega arith }

-- one of two cuts, as good as both
pub record IsTaken (Good : ℕ → ℕ → Type 0) (a b taken : Cut) : Type 0 where
  pub either : (taken ≡ a) ⊎ (taken ≡ b)
  pub first : IsAsGood Good taken a
  pub second : IsAsGood Good taken b

-- the tests by which the code takes one
less-first : (a b : Cut) → a.volume ≤ b.volume → (b.volume ≡ a.volume → a.price ≤ b.price) → IsTaken Less a b a
less-first a b v p = record { either = inl refl; first = record { volumes = omega arith; prices = λ e. omega arith }; second = record { volumes = v; prices = p } }

less-second : (a b : Cut) → b.volume ≤ a.volume → (a.volume ≡ b.volume → b.price ≤ a.price) → IsTaken Less a b b
less-second a b v p = record { either = inr refl; first = record { volumes = v; prices = p }; second = record { volumes = omega arith; prices = λ e. omega arith } }

more-first : (a b : Cut) → b.volume ≤ a.volume → (b.volume ≡ a.volume → a.price ≤ b.price) → IsTaken More a b a
more-first a b v p = record { either = inl refl; first = record { volumes = omega arith; prices = λ e. omega arith }; second = record { volumes = v; prices = p } }

more-second : (a b : Cut) → a.volume ≤ b.volume → (a.volume ≡ b.volume → b.price ≤ a.price) → IsTaken More a b b
more-second a b v p = record { either = inr refl; first = record { volumes = v; prices = p }; second = record { volumes = omega arith; prices = λ e. omega arith } }

pub lesser-taken : (a b : Cut) → IsTaken Less a b (cond (nat_lt b.volume a.volume || (b.volume == a.volume && nat_lt b.price a.price)) b a)
lesser-taken a b = elim (cases_lt b.volume a.volume) [
  | inl below ↦ rw (lt-ltb b.volume a.volume below) (less-second a b (omega arith) (λ e. absurd (omega arith)))
  | inr above ↦ rw (le-ltb b.volume a.volume above) (elim (cases_eq b.volume a.volume) [
    | inl same ↦ rw (eq-eqb b.volume a.volume same) (elim (cases_lt b.price a.price) [
      | inl earlier ↦ rw (lt-ltb b.price a.price earlier) (less-second a b (omega arith) (λ e. omega arith))
      | inr later ↦ rw (le-ltb b.price a.price later) (less-first a b above (λ e. later))
    ])
    | inr other ↦ rw (ne_eqb b.volume a.volume other) (less-first a b above (λ e. absurd (other e)))
  ])
]

pub greater-taken : (a b : Cut) → IsTaken More a b (cond (nat_lt a.volume b.volume || (b.volume == a.volume && nat_lt b.price a.price)) b a)
greater-taken a b = elim (cases_lt a.volume b.volume) [
  | inl above ↦ rw (lt-ltb a.volume b.volume above) (more-second a b (omega arith) (λ e. absurd (omega arith)))
  | inr below ↦ rw (le-ltb a.volume b.volume below) (elim (cases_eq b.volume a.volume) [
    | inl same ↦ rw (eq-eqb b.volume a.volume same) (elim (cases_lt b.price a.price) [
      | inl earlier ↦ rw (lt-ltb b.price a.price earlier) (more-second a b (omega arith) (λ e. omega arith))
      | inr later ↦ rw (le-ltb b.price a.price later) (more-first a b below (λ e. later))
    ])
    | inr other ↦ rw (ne_eqb b.volume a.volume other) (more-first a b below (λ e. absurd (other e)))
  ])
]

-- `best` is the value at a price of the range, and as good as those at the candidates
pub record IsBest (Good : ℕ → ℕ → Type 0) (value : ℕ → ℕ) (candidate : LimitQuantity → ℕ) (limits : List LimitQuantity) (best : Cut) : Type 0 where
  pub reached : value best.price ≡ best.volume
  pub inside : best.price ≤ 10 ^ 18
  pub zero_too : IsAsGood Good best (at_price value 0)
  pub each : All (λ l. IsAsGood Good best (at_price value (candidate l))) limits

-- one order further
best-more : (Good : ℕ → ℕ → Type 0) → ((a b c : Cut) → IsAsGood Good a b → IsAsGood Good b c → IsAsGood Good a c)
    → (value : ℕ → ℕ) (candidate : LimitQuantity → ℕ) (limits : List LimitQuantity) (n : ℕ) (l : LimitQuantity) → n < length limits → l ≡ get_or limits n l → candidate l ≤ 10 ^ 18
    → (best taken : Cut) → IsBest Good value candidate (take n limits) best → IsTaken Good best (at_price value (candidate l)) taken → IsBest Good value candidate (take (n + 1) limits) taken
best-more Good joins value candidate limits n l lt at small best taken so_far is =
    let inner : (value taken.price ≡ taken.volume) × (taken.price ≤ 10 ^ 18) = elim is.either [
      | inl e ↦ subst (λ (c : Cut). (value c.price ≡ c.volume) × (c.price ≤ 10 ^ 18)) (sym e) (so_far.reached, so_far.inside)
      | inr e ↦ subst (λ (c : Cut). (value c.price ≡ c.volume) × (c.price ≤ 10 ^ 18)) (sym e) (refl, small)
    ] in
    let P = λ (x : LimitQuantity). IsAsGood Good taken (at_price value (candidate x)) in
    record {
      reached = inner.0;
      inside = inner.1;
      zero_too = joins taken best (at_price value 0) is.first so_far.zero_too;
      each = All-more P limits n l lt (All-weaker (λ (x : LimitQuantity). IsAsGood Good best (at_price value (candidate x))) P (λ x g. joins taken best (at_price value (candidate x)) is.first g) (take n limits) so_far.each) (subst P at is.second);
    }

pub least-more : (value : ℕ → ℕ) (limits : List LimitQuantity) (n : ℕ) (l : LimitQuantity) → n < length limits → l ≡ get_or limits n l → l.limit < 10 ^ 18
    → (best other taken : Cut) → IsBest Less value (λ x. x.limit + 1) (take n limits) best → other ≡ at_price value (l.limit + 1)
    → taken ≡ cond (nat_lt other.volume best.volume || (other.volume == best.volume && nat_lt other.price best.price)) other best → IsBest Less value (λ x. x.limit + 1) (take (n + 1) limits) taken
least-more value limits n l lt at small best other taken so_far is takes =
    best-more Less less-joins value (λ x. x.limit + 1) limits n l lt at (omega arith) best taken so_far (rw (← is, takes) (lesser-taken best other))

pub greatest-more : (value : ℕ → ℕ) (limits : List LimitQuantity) (n : ℕ) (l : LimitQuantity) → n < length limits → l ≡ get_or limits n l → l.limit < 10 ^ 18
    → (best other taken : Cut) → IsBest More value (λ x. x.limit) (take n limits) best → other ≡ at_price value l.limit
    → taken ≡ cond (nat_lt best.volume other.volume || (other.volume == best.volume && nat_lt other.price best.price)) other best → IsBest More value (λ x. x.limit) (take (n + 1) limits) taken
greatest-more value limits n l lt at small best other taken so_far is takes =
    best-more More more-joins value (λ x. x.limit) limits n l lt at (omega arith) best taken so_far (rw (← is, takes) (greater-taken best other))

-- the greatest of 0 and the candidates up to p, and what holds of all of them holds of it
record IsFloor (P : ℕ → Type 0) (candidate : LimitQuantity → ℕ) (limits : List LimitQuantity) (p c : ℕ) : Type 0 where
  within : c ≤ p
  has : P c
  last : All (λ l. candidate l ≤ p → candidate l ≤ c) limits

floor-in : (P : ℕ → Type 0) (candidate : LimitQuantity → ℕ) (limits : List LimitQuantity) (p : ℕ) → P 0 → All (λ l. P (candidate l)) limits → (c : ℕ) × IsFloor P candidate limits p c
floor-in P candidate [] p zero each = (0, record { within = omega arith; has = zero; last = All-nil _ })
floor-in P candidate (l ∷ limits) p zero each =
    let rest = floor-in P candidate limits p zero (All-tail (λ x. P (candidate x)) l limits each) in
    let c = rest.0 in let f = rest.1 in let within = f.within in
    elim (cases_lt p (candidate l)) [
      | inl over ↦ (c, record { within = within; has = f.has; last = All-cons (λ x. candidate x ≤ p → candidate x ≤ c) l limits (λ le. absurd (omega arith)) f.last })
      | inr under ↦ elim (cases_lt c (candidate l)) [
        | inl more ↦ (
          candidate l,
          record {
            within = under;
            has = All-head (λ x. P (candidate x)) l limits each;
            last = All-cons (λ x. candidate x ≤ p → candidate x ≤ candidate l) l limits (λ le. omega arith) (All-weaker (λ x. candidate x ≤ p → candidate x ≤ c) (λ x. candidate x ≤ p → candidate x ≤ candidate l) (λ x g le. let h = g le in omega arith) limits f.last);
          },
        )
        | inr less ↦ (c, record { within = within; has = f.has; last = All-cons (λ x. candidate x ≤ p → candidate x ≤ c) l limits (λ le. less) f.last })
      ]
    ]

part-le : (a b : Bool) (x : ℕ) → (a ≡ true → b ≡ true) → cond a x 0 ≤ cond b x 0
part-le false b x h = omega arith
part-le true b x h = rw (h refl) (omega arith)

module _ (sides : SideLimits) (best : Cut) where
  -- the cut falls only one above the limit of a bid
  least-everywhere : IsBest Less (cut_of sides) (λ l. l.limit + 1) sides.bids best → (q : ℕ) → IsAsGood Less best (at_price (cut_of sides) q)
  least-everywhere is q =
      let floor = floor-in (λ c. IsAsGood Less best (at_price (cut_of sides) c)) (λ l. l.limit + 1) sides.bids q is.zero_too is.each in
      let c = floor.0 in let f = floor.1 in let within = f.within in
      let bids : quantity_from sides.bids c ≤ quantity_from sides.bids q = sum_by-le-All (λ l. cond (nat_le c l.limit) l.quantity 0) (λ l. cond (nat_le q l.limit) l.quantity 0) sides.bids (λ n d lt.
      let l = get_or sides.bids n d in
      part-le (nat_le c l.limit) (nat_le q l.limit) l.quantity (λ t. let low = leb-true c l.limit t in elim (cases_lt l.limit q) [
        | inl under ↦ let le : l.limit + 1 ≤ c = f.last n d lt (omega arith) in absurd (omega arith)
        | inr over ↦ le-leb q l.limit over
      ])) in
      let asks : quantity_below sides.asks c ≤ quantity_below sides.asks q = sum_by-le-sum_by (λ l. cond (nat_lt l.limit c) l.quantity 0) (λ l. cond (nat_lt l.limit q) l.quantity 0) sides.asks (λ l.
      part-le (nat_lt l.limit c) (nat_lt l.limit q) l.quantity (λ t. let low = ltb-true l.limit c t in lt-ltb l.limit q (omega arith))) in
      less-joins best (at_price (cut_of sides) c) (at_price (cut_of sides) q) f.has (record { volumes = omega arith; prices = λ e. within })

  -- the executable volume rises only at the limit of an ask
  greatest-everywhere : IsBest More (executable_of sides) (λ l. l.limit) sides.asks best → (q : ℕ) → IsAsGood More best (at_price (executable_of sides) q)
  greatest-everywhere is q =
      let floor = floor-in (λ c. IsAsGood More best (at_price (executable_of sides) c)) (λ l. l.limit) sides.asks q is.zero_too is.each in
      let c = floor.0 in let f = floor.1 in let within = f.within in
      let asks : quantity_upto sides.asks q ≤ quantity_upto sides.asks c = sum_by-le-All (λ l. cond (nat_le l.limit q) l.quantity 0) (λ l. cond (nat_le l.limit c) l.quantity 0) sides.asks (λ n d lt.
      let l = get_or sides.asks n d in
      part-le (nat_le l.limit q) (nat_le l.limit c) l.quantity (λ t. le-leb l.limit c (f.last n d lt (leb-true l.limit q t)))) in
      let bids : quantity_from sides.bids q ≤ quantity_from sides.bids c = sum_by-le-sum_by (λ l. cond (nat_le q l.limit) l.quantity 0) (λ l. cond (nat_le c l.limit) l.quantity 0) sides.bids (λ l.
      part-le (nat_le q l.limit) (nat_le c l.limit) l.quantity (λ t. let low = leb-true q l.limit t in le-leb c l.limit (omega arith))) in
      more-joins best (at_price (executable_of sides) c) (at_price (executable_of sides) q) f.has (record { volumes = omega arith; prices = λ e. within })

module _ (orders : List Order) (sides : SideLimits) (stands : HaveSumsOf orders sides) (best : Cut) where
  pub least-found : IsBest Less (cut_of sides) (λ l. l.limit + 1) sides.bids best → IsLeastCut orders best
  least-found is =
      let same : (q : ℕ) → cut_of sides q ≡ cut orders q = (λ q. let d = stands.demands q in let s = stands.supplies_below q in omega arith) in
      let all = least-everywhere sides best is in
      record {
        reached = record { holds = (is.inside, sym (same best.price) ∙ is.reached); none_below = λ k lt at. let le = (all k).prices (same k ∙ at.1) in absurd (omega arith) };
        least = λ q le. omega (arith, same q, (all q).volumes);
      }

  pub greatest-found : IsBest More (executable_of sides) (λ l. l.limit) sides.asks best → IsGreatestExecutableVolume orders best
  greatest-found is =
      let same : (q : ℕ) → executable_of sides q ≡ executable_volume orders q = (λ q. let d = stands.demands q in let s = stands.supplies q in rw (d, s) refl) in
      let all = greatest-everywhere sides best is in
      record {
        reached = record { holds = (is.inside, sym (same best.price) ∙ is.reached); none_below = λ k lt at. let le = (all k).prices (same k ∙ at.1) in absurd (omega arith) };
        greatest = λ q le. let most : executable_of sides q ≤ best.volume = (all q).volumes in rw (← same q) most;
      }
