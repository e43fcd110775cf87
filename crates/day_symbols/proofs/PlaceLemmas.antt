-- The places of the symbols of a share among its symbols.
use Rattle.std.proofs.Common.{◌≡◌, ◌<◌, ◌≤◌, ◌+◌, ◌-◌, ◌*◌, ◌/◌, ◌%◌, ◌==◌, inl, inr, ℕ, zero, suc, Bool, true, false, Some, List, [], ◌∷◌, ◌++◌, length, length-append, cond, refl, sym, ap, subst, ◌∙◌, append-nil, arith}
use Rattle.std.specs.Prelude.{filter, slice_get}
use Rattle.std.specs.List.{range_with_len}
use Rattle.std.proofs.lemmas.Bool.{cases_lt, cases_order, eqb-true, eq-eqb}
use Rattle.std.proofs.lemmas.List.Elements.{filter-append}
use Rattle.std.proofs.lemmas.Nat.{div-add-mod', mod-mul-add, mul-le}
use Rattle.std.proofs.lemmas.Option.{none-some, same_Some, slice_get_within}
use Rattle.std.proofs.Math.Nat.{add-mul, zero-mul}
use Rattle.day_symbols.specs.Shares.{DayShare, IsDayShare, indices_in, is_in_share, index_in_share}

-- one number more
range-more : (a n : ℕ) → range_with_len a (suc n) ≡ range_with_len a n ++ (a + n) ∷ []
range-more a zero = let same : a ≡ a + 0 = omega arith in ap (λ (k : ℕ). k ∷ []) same
range-more a (suc n) =
    let rest : range_with_len (a + 1) (suc n) ≡ range_with_len (a + 1) n ++ (a + 1 + n) ∷ [] = range-more (a + 1) n in
    let number : a + 1 + n ≡ a + suc n = omega arith in
    ap (λ (xs : List ℕ). a ∷ xs) (rest ∙ ap (λ (k : ℕ). range_with_len (a + 1) n ++ k ∷ []) number)

-- the numbers that pass, with one number more
passing-more : (p : ℕ → Bool) (n : ℕ) → filter p (range_with_len 0 (suc n)) ≡ filter p (range_with_len 0 n) ++ cond (p n) (n ∷ []) []
passing-more p n =
    let number : 0 + n ≡ n = omega arith in
    ap (filter p) (range-more 0 n ∙ ap (λ (k : ℕ). range_with_len 0 n ++ k ∷ []) number) ∙ filter-append p (range_with_len 0 n) (n ∷ [])

pub indices-more : (share : DayShare) (n : ℕ) → indices_in share (suc n) ≡ indices_in share n ++ cond (is_in_share share n) (n ∷ []) []
indices-more share n = passing-more (is_in_share share) n

-- the next place, after an index of the share and after another one
pub place-more : (share : DayShare) (n : ℕ) → is_in_share share n ≡ true → index_in_share share (suc n) ≡ index_in_share share n + 1
place-more share n is = ap length (indices-more share n ∙ ap (λ (b : Bool). indices_in share n ++ cond b (n ∷ []) []) is) ∙ length-append (indices_in share n) (n ∷ [])

pub place-same : (share : DayShare) (n : ℕ) → is_in_share share n ≡ false → index_in_share share (suc n) ≡ index_in_share share n
place-same share n other =
    ap length (indices-more share n ∙ ap (λ (b : Bool). indices_in share n ++ cond b (n ∷ []) []) other ∙ append-nil (indices_in share n))

-- Members of a list with one more.

pub got-left : {X : Type 0} (xs ys : List X) (i : ℕ) → i < length xs → slice_get (xs ++ ys) i ≡ slice_get xs i
got-left [] ys i lt = absurd (omega (arith, lt))
got-left (x ∷ xs) ys zero lt = refl
got-left (x ∷ xs) ys (suc i) lt = got-left xs ys i (omega (arith, lt))

pub got-last : {X : Type 0} (xs : List X) (x : X) → slice_get (xs ++ x ∷ []) (length xs) ≡ Some x
got-last [] x = refl
got-last (y ∷ ys) x = got-last ys x

-- Indices and their places.

-- an index of the share is at its place
pub place-at : (share : DayShare) (n i : ℕ) → is_in_share share i ≡ true → i < n → slice_get (indices_in share n) (index_in_share share i) ≡ Some i
place-at share zero i is lt = absurd (omega (arith, lt))
place-at share (suc n) i is lt = elim (cases_lt i n) as (λ _. slice_get (indices_in share (suc n)) (index_in_share share i) ≡ Some i) [
  | inl less ↦
      let earlier : slice_get (indices_in share n) (index_in_share share i) ≡ Some i = place-at share n i is less in
      ap (λ (xs : List ℕ). slice_get xs (index_in_share share i)) (indices-more share n)
      ∙ got-left (indices_in share n) (cond (is_in_share share n) (n ∷ []) []) (index_in_share share i) (slice_get_within (indices_in share n) (index_in_share share i) i earlier)
      ∙ earlier
  | inr more ↦
      let same : i ≡ n = omega (arith, lt, more) in
      let here : is_in_share share n ≡ true = ap (is_in_share share) (sym same) ∙ is in
      ap (λ (xs : List ℕ). slice_get xs (index_in_share share i)) (indices-more share n ∙ ap (λ (b : Bool). indices_in share n ++ cond b (n ∷ []) []) here)
      ∙ ap (λ (k : ℕ). slice_get (indices_in share n ++ n ∷ []) (index_in_share share k)) same
      ∙ got-last (indices_in share n) n
      ∙ ap (λ (k : ℕ). Some k) (sym same)
]

-- the index is one of the share, below this count, and is at this place
pub record IsIndexAt (share : DayShare) (n j i : ℕ) : Type 0 where
  pub shared : is_in_share share i ≡ true
  pub inside : i < n
  pub place : index_in_share share i ≡ j

wider : (share : DayShare) (n j i : ℕ) → IsIndexAt share n j i → IsIndexAt share (suc n) j i
wider share n j i at = record { shared = at.shared; inside = omega (arith, at.inside); place = at.place }

-- the same with one index more, by whether that is of the share
index-behind : (share : DayShare) (n j i : ℕ) (b : Bool) → is_in_share share n ≡ b → (slice_get (indices_in share n) j ≡ Some i → IsIndexAt share n j i)
    → slice_get (indices_in share n ++ cond b (n ∷ []) []) j ≡ Some i → IsIndexAt share (suc n) j i
index-behind share n j i false other before there = wider share n j i (before (ap (λ (xs : List ℕ). slice_get xs j) (sym (append-nil (indices_in share n))) ∙ there))
index-behind share n j i true is before there = elim (cases_lt j (length (indices_in share n))) as (λ _. IsIndexAt share (suc n) j i) [
  | inl less ↦ wider share n j i (before (sym (got-left (indices_in share n) (n ∷ []) j less) ∙ there))
  | inr more ↦
      let within : j < length (indices_in share n ++ n ∷ []) = slice_get_within (indices_in share n ++ n ∷ []) j i there in
      let last : length (indices_in share n) ≡ j = omega (arith, more, within, length-append (indices_in share n) (n ∷ [])) in
      let same : n ≡ i = same_Some n i (sym (got-last (indices_in share n) n) ∙ ap (slice_get (indices_in share n ++ n ∷ [])) last ∙ there) in
      record {
        shared = ap (is_in_share share) (sym same) ∙ is;
        inside = omega (arith, same);
        place = ap (index_in_share share) (sym same) ∙ last;
      }
]

-- what is at a place is an index of the share
pub index-at : (share : DayShare) (n j i : ℕ) → slice_get (indices_in share n) j ≡ Some i → IsIndexAt share n j i
index-at share zero j i got = absurd (none-some i got)
index-at share (suc n) j i got =
    index-behind share n j i (is_in_share share n) refl (λ there. index-at share n j i there) (ap (λ (xs : List ℕ). slice_get xs j) (sym (indices-more share n)) ∙ got)

-- A place is a quotient.

-- how many of the numbers below n leave r, where w is divided by
abbrev count_leaving : ℕ → ℕ → ℕ → ℕ
count_leaving w r n = length (filter (λ i. i % w == r) (range_with_len 0 n))

-- this many steps of w lead from r up to n
record AreBetween (w r n c : ℕ) : Type 0 where
  low : n ≤ c * w + r
  high : c * w + r < n + w

-- as many as the quotient says
same-quotient : (w r n c q : ℕ) → r < w → q * w + r ≡ n → AreBetween w r n c → c ≡ q
same-quotient w r n c q less is between = elim (cases_order c q) as (λ _. c ≡ q) [
  | inl same ↦ same
  | inr (inl below) ↦
      let more : (c + 1) * w ≤ q * w = mul-le (c + 1) w q w (omega (arith, below)) (omega arith) in
      absurd (omega (arith, more, add-mul c 1 w, between.low, is, less))
  | inr (inr above) ↦
      let more : (q + 1) * w ≤ c * w = mul-le (q + 1) w c w (omega (arith, above)) (omega arith) in
      absurd (omega (arith, more, add-mul q 1 w, between.high, is, less))
]

unequal : (k n : ℕ) → (k ≡ n → ⊥) → n ≤ k → n < k
unequal k n apart low = elim (cases_lt n k) as (λ _. n < k) [
  | inl less ↦ less
  | inr more ↦ absurd (apart (omega (arith, more, low)))
]

-- one number more
between-step : (w r n : ℕ) → r < w → (b : Bool) → (n % w == r) ≡ b → AreBetween w r n (count_leaving w r n) → AreBetween w r (suc n) (length (filter (λ i. i % w == r) (range_with_len 0 n) ++ cond b (n ∷ []) []))
between-step w r n less true passes between =
    let rest : n % w ≡ r = eqb-true (n % w) r passes in
    let parts : n / w * w + r ≡ n = ap (λ (k : ℕ). n / w * w + k) (sym rest) ∙ div-add-mod' n w in
    let count : count_leaving w r n ≡ n / w = same-quotient w r n (count_leaving w r n) (n / w) less parts between in
    let at : count_leaving w r n * w ≡ n / w * w = ap (λ (k : ℕ). k * w) count in
    let longer : length (filter (λ i. i % w == r) (range_with_len 0 n) ++ n ∷ []) ≡ count_leaving w r n + 1 = length-append (filter (λ i. i % w == r) (range_with_len 0 n)) (n ∷ []) in
    rw longer record {
      low = omega (arith, add-mul (count_leaving w r n) 1 w, at, parts, less);
      high = omega (arith, add-mul (count_leaving w r n) 1 w, at, parts, less);
    }
between-step w r n less false fails between =
    let apart : count_leaving w r n * w + r ≡ n → ⊥ = λ same.
    let rest : n % w ≡ r = ap (λ (k : ℕ). k % w) (sym same) ∙ mod-mul-add (count_leaving w r n) w r less in
    let passes : (n % w == r) ≡ true = eq-eqb (n % w) r rest in
    cc in
    let longer : length (filter (λ i. i % w == r) (range_with_len 0 n) ++ []) ≡ count_leaving w r n = ap length (append-nil (filter (λ i. i % w == r) (range_with_len 0 n))) in
    let above : n < count_leaving w r n * w + r = unequal (count_leaving w r n * w + r) n apart between.low in
    rw longer record { low = omega (arith, above); high = omega (arith, between.high) }

between-all : (w r n : ℕ) → r < w → AreBetween w r n (count_leaving w r n)
between-all w r zero less =
    let none : count_leaving w r 0 * w ≡ 0 = zero-mul w in
    record { low = omega arith; high = omega (arith, none, less) }
between-all w r (suc n) less =
    subst (λ (xs : List ℕ). AreBetween w r (suc n) (length xs)) (sym (passing-more (λ i. i % w == r) n))
    (between-step w r n less (n % w == r) refl (between-all w r n less))

-- the place of an index of the share is the quotient by the number of shares
pub place-is : (share : DayShare) (i : ℕ) → IsDayShare share → is_in_share share i ≡ true → index_in_share share i ≡ i / share.count
place-is share i shares is =
    let less : share.number - 1 < share.count = omega (arith, shares.first, shares.among) in
    let rest : i % share.count ≡ share.number - 1 = eqb-true (i % share.count) (share.number - 1) is in
    same-quotient share.count (share.number - 1) i (index_in_share share i) (i / share.count) less
    (ap (λ (k : ℕ). i / share.count * share.count + k) (sym rest) ∙ div-add-mod' i share.count)
    (between-all share.count (share.number - 1) i less)
