-- The order list of a history is an order list, and that of a well-formed history is regular.
use Rattle.std.proofs.Common.{◌≡◌, ◌≢◌, ◌≤◌, ◌<◌, ◌+◌, ◌^◌, ◌⊎◌, ℕ, zero, suc, List, [], ◌∷◌, length, take, get_or, Bool, true, false, cond, Option, Some, None, refl, sym, ap, ◌∙◌, arith, inl, inr, All, AllPairs, subst}
use Rattle.std.specs.Prelude.{◌&&◌, is_some, is_none, option_map, filter, filter_map, count_by}
use Rattle.std.specs.List.{enumerate_from, cons_option}
use Rattle.std.specs.Option.{option_or}
use Rattle.std.proofs.lemmas.Bool.{cases_Bool, cases_eq, cases_lt, cases_order, and_parts, and_from, both_ways, cond-true, cond-false, cond_both}
use Rattle.std.proofs.lemmas.List.Elements.{All-nil, All-cons}
use Rattle.std.proofs.lemmas.List.Sums.{sum_by-cons, count_by_more_yes, count_by-le-length, length-filter}
use Rattle.std.proofs.lemmas.List.FromFn.{length-enumerate_from}
use lib.Pointwise.{bytes_decides}
use Rattle.audit_base.specs.declared.names.Key.{Key}
use Rattle.audit_base.specs.declared.terms.Side.{Side}
use Rattle.audit_base.specs.declared.terms.Life.TheVariants.{Rests}
use Rattle.audit_base.specs.declared.records.OrderRecord.{OrderRecord}
use Rattle.audit_base.specs.declared.records.OrderRecord.TheVariants.{New, Cancel, Replace}
use Rattle.audit_base.specs.declared.orders.Order.{Order}
use Rattle.audit_base.specs.Least.{least_with}
use Rattle.audit_base.specs.Orders.{same_name, same_key, order_at, place_at, side_at, order_past_end, IsOrderList, HaveOwnKeys}
use Rattle.audit_base.specs.Histories.{key_of, symbol_of, target_key, is_order, ends_order, side_of, fits_side, history, entry_past_end, history_entry, history_entry_place, key_at, earlier_entry_with_key, target_of, duplicate_id_finding, time_back_finding, unknown_target_finding, entry_finding, WellFormed, replaced_order_at, is_placed, cancelled_of, order_index, order_of_entry, order_list, Regular}
use Rattle.audit_base.proofs.SumLemmas.{AllPairs-cons}
use Rattle.audit_base.proofs.OrderLemmas.{same_side-is}
use Rattle.audit_base.proofs.LeastLemmas.{cases_Option, none_some, option_or-parts, none-below, none-with, with-found, with-exists}
use Rattle.audit_base.proofs.OffenceLemmas.{get_or-default, only-none}

-- names and keys that are the same are equal
pub same_key-is : (a b : Key) → same_key a b ≡ true → a ≡ b
same_key-is a b t =
    let parts = and_parts (same_name a.firm b.firm) (same_name a.id b.id) t in
    let firm : a.firm ≡ b.firm = (bytes_decides a.firm b.firm).0 parts.0 in
    let id : a.id ≡ b.id = (bytes_decides a.id b.id).0 parts.1 in
    λ i. record { firm = firm i; id = id i }

pub is-same_key : (a b : Key) → a ≡ b → same_key a b ≡ true
is-same_key a b e = subst (λ k. same_key a k ≡ true) e (and_from _ _ ((bytes_decides a.firm a.firm).1 refl) ((bytes_decides a.id a.id).1 refl))

-- Places of a history, and of all that a test leaves of a numbered list, rise.

pub enumerated-places : {X : Type 0} (xs : List X) (test : ℕ × X → Bool) (n : ℕ)
    → All (λ e. n ≤ e.0) (filter test (enumerate_from n xs)) × AllPairs (λ e f. e.0 < f.0) (filter test (enumerate_from n xs))
enumerated-places [] test n = (All-nil (λ e. n ≤ e.0), λ i j d lt below. absurd (omega arith))
enumerated-places (x ∷ xs) test n =
    let rest = enumerated-places xs test (n + 1) in
    let tail = filter test (enumerate_from (n + 1) xs) in
    let least : All (λ e. n ≤ e.0) tail = λ k d lt. let le = rest.0 k d lt in omega arith in
    let above : All (λ e. n < e.0) tail = λ k d lt. let le = rest.0 k d lt in omega arith in
    cond_both (test (n, x)) ((n, x) ∷ tail) tail (λ l. All (λ e. n ≤ e.0) l × AllPairs (λ e f. e.0 < f.0) l)
    (λ t. (All-cons (λ e. n ≤ e.0) (n, x) tail (omega arith) least, AllPairs-cons (λ e f. e.0 < f.0) (n, x) tail above rest.1))
    (λ t. (least, rest.1))

pub place-rises : (symbol : List ℕ) (entries : List OrderRecord) (j k : ℕ) → j < k → k < length (history symbol entries)
    → history_entry_place (history symbol entries) j < history_entry_place (history symbol entries) k
place-rises symbol entries j k lt below = (enumerated-places entries (λ e. same_name (symbol_of e.1) symbol) 1).1 j k entry_past_end lt below

-- The order list by the indices of the history.

-- what `filter_map` over the numbered elements keeps: the element at i comes from one at some k, of which the kept ones before it are i
pub record IsKept {E O : Type 0} (f : ℕ → E → Option O) (test : E → Bool) (from : ℕ) (xs : List E) (d : E) (o : O) (i : ℕ) : Type 0 where
  pub at : ℕ
  pub inside : at < length xs
  pub gives : f (from + at) (get_or xs at d) ≡ Some o
  pub index : count_by test (take at xs) ≡ i

abbrev kept : {E O : Type 0} → (ℕ → E → Option O) → ℕ → List E → List O
kept f from xs = filter_map (λ e. f e.0 e.1) (enumerate_from from xs)

suc-take : {E : Type 0} (test : E → Bool) (x : E) (xs : List E) (k : ℕ) → count_by test (take (suc k) (x ∷ xs)) ≡ cond (test x) 1 0 + count_by test (take k xs)
suc-take test x xs k = sum_by-cons (λ y. cond (test y) 1 0) x (take k xs)

module _ {E O : Type 0} (f : ℕ → E → Option O) (test : E → Bool) (tells : (n : ℕ) (e : E) → is_some (f n e) ≡ test e) (d : E) (any : O) where
  none-test : (n : ℕ) (e : E) → f n e ≡ None → test e ≡ false
  none-test n e none = sym (tells n e) ∙ ap is_some none

  some-test : (n : ℕ) (e : E) (o : O) → f n e ≡ Some o → test e ≡ true
  some-test n e o some = sym (tells n e) ∙ ap is_some some

  later : (from : ℕ) (x : E) (xs : List E) (i j : ℕ) (o : O) → cond (test x) 1 0 + i ≡ j → IsKept f test (from + 1) xs d o i → IsKept f test from (x ∷ xs) d o j
  later from x xs i j o one k = record {
    at = suc k.at;
    inside = let lt = k.inside in omega arith;
    gives = let same : from + 1 + k.at ≡ from + suc k.at = omega arith in subst (λ m. f m (get_or xs k.at d) ≡ Some o) same k.gives;
    index = let e = k.index in let t = suc-take test x xs k.at in omega arith;
  }

  kept-step : (xs : List E) (x : E) (from i : ℕ) (r : Option O) → f from x ≡ r
      → ((j : ℕ) → j < length (kept f (from + 1) xs) → IsKept f test (from + 1) xs d (get_or (kept f (from + 1) xs) j any) j)
      → i < length (cons_option r (kept f (from + 1) xs)) → IsKept f test from (x ∷ xs) d (get_or (cons_option r (kept f (from + 1) xs)) i any) i
  kept-step xs x from i None e h lt =
      let no : ◌≡◌ {A = ℕ} (cond (test x) 1 0) 0 = cond-false (test x) 1 0 (none-test from x e) in
      later from x xs i i (get_or (kept f (from + 1) xs) i any) (omega arith) (h i lt)
  kept-step xs x from zero (Some y) e h lt =
      record { at = 0; inside = omega arith; gives = let same : from ≡ from + 0 = omega arith in subst (λ m. f m x ≡ Some y) same e; index = refl }
  kept-step xs x from (suc i) (Some y) e h lt =
      let one : ◌≡◌ {A = ℕ} (cond (test x) 1 0) 1 = cond-true (test x) 1 0 (some-test from x y e) in
      later from x xs i (suc i) (get_or (kept f (from + 1) xs) i any) (omega arith) (h i (omega arith))

  kept-from : (xs : List E) (from i : ℕ) → i < length (kept f from xs) → IsKept f test from xs d (get_or (kept f from xs) i any) i
  kept-from [] from i lt = absurd (omega arith)
  kept-from (x ∷ xs) from i lt = kept-step xs x from i (f from x) refl (λ j. kept-from xs (from + 1) j) lt

  -- and the element at k, if it is kept, is at the number of those before it
  abbrev StandsAt : ℕ → List E → List O → ℕ → Type 0
  StandsAt from xs os k = (count_by test (take k xs) < length os) × (f (from + k) (get_or xs k d) ≡ Some (get_or os (count_by test (take k xs)) any))

  at-step : (xs : List E) (x : E) (from k : ℕ) (r : Option O) → f from x ≡ r
      → ((j : ℕ) → j < length xs → test (get_or xs j d) ≡ true → StandsAt (from + 1) xs (kept f (from + 1) xs) j)
      → k < suc (length xs) → test (get_or (x ∷ xs) k d) ≡ true → StandsAt from (x ∷ xs) (cons_option r (kept f (from + 1) xs)) k
  at-step xs x from zero None e h lt t = absurd (both_ways _ (none-test from x e) t)
  at-step xs x from zero (Some y) e h lt t = (omega arith, let same : from ≡ from + 0 = omega arith in subst (λ m. f m x ≡ Some y) same e)
  at-step xs x from (suc k) None e h lt t =
      let no : ◌≡◌ {A = ℕ} (cond (test x) 1 0) 0 = cond-false (test x) 1 0 (none-test from x e) in
      let r = h k (omega arith) t in
      let same : from + 1 + k ≡ from + suc k = omega arith in
      let count : count_by test (take k xs) ≡ count_by test (take (suc k) (x ∷ xs)) = (let s = suc-take test x xs k in omega arith) in (
        subst (λ m. m < length (kept f (from + 1) xs)) count r.0,
        subst (λ m. f m (get_or xs k d) ≡ Some (get_or (kept f (from + 1) xs) (count_by test (take (suc k) (x ∷ xs))) any)) same
            (subst (λ m. f (from + 1 + k) (get_or xs k d) ≡ Some (get_or (kept f (from + 1) xs) m any)) count r.1),
      )
  at-step xs x from (suc k) (Some y) e h lt t =
      let one : ◌≡◌ {A = ℕ} (cond (test x) 1 0) 1 = cond-true (test x) 1 0 (some-test from x y e) in
      let r = h k (omega arith) t in
      let inside = r.0 in
      let same : from + 1 + k ≡ from + suc k = omega arith in
      let count : suc (count_by test (take k xs)) ≡ count_by test (take (suc k) (x ∷ xs)) = (let s = suc-take test x xs k in omega arith) in (
        subst (λ m. m < suc (length (kept f (from + 1) xs))) count (omega arith),
        subst (λ m. f m (get_or xs k d) ≡ Some (get_or (y ∷ kept f (from + 1) xs) (count_by test (take (suc k) (x ∷ xs))) any)) same
            (subst (λ m. f (from + 1 + k) (get_or xs k d) ≡ Some (get_or (y ∷ kept f (from + 1) xs) m any)) count r.1),
      )

  kept-at : (xs : List E) (from k : ℕ) → k < length xs → test (get_or xs k d) ≡ true → StandsAt from xs (kept f from xs) k
  kept-at [] from k lt t = absurd (omega arith)
  kept-at (x ∷ xs) from k lt t = at-step xs x from k (f from x) refl (λ j. kept-at xs (from + 1) j) lt t

-- What an order says of its record.

order-tells : (h : List (ℕ × OrderRecord)) (k : ℕ) (e : ℕ × OrderRecord) → is_some (order_of_entry h (k, e.0, e.1)) ≡ is_order e.1
order-tells h k (place, New key time symbol side quantity price life) = refl
order-tells h k (place, Cancel key time symbol target) = refl
order-tells h k (place, Replace key time symbol target side quantity price) = refl

-- the fields that the laws of histories speak of
pub record IsOrderOf (h : List (ℕ × OrderRecord)) (k : ℕ) (e : ℕ × OrderRecord) (o : Order) : Type 0 where
  pub place : o.place ≡ e.0
  pub key : o.key ≡ key_of e.1
  pub cancelled : o.cancelled ≡ cancelled_of h k
  pub side : side_of e.1 ≡ Some o.side
  pub target : (o.target ≡ None) ⊎ (o.target ≡ option_map (order_index h) (replaced_order_at h k))
  pub resting : (t : ℕ) → o.target ≡ Some t → o.life ≡ Rests

some-same : {A : Type 0} (x y : A) → Some x ≡ Some y → x ≡ y
some-same x y e = cc

no_target : (t : ℕ) → None ≡ Some t → ⊥
no_target t e = cc

order-fields : (h : List (ℕ × OrderRecord)) (k : ℕ) (e : ℕ × OrderRecord) (o : Order) → order_of_entry h (k, e.0, e.1) ≡ Some o → IsOrderOf h k e o
order-fields h k (place, New key time symbol side quantity price life) o e =
    let same = some-same _ _ e in
    record { place = sym (ap (λ (x : Order). x.place) same); key = sym (ap (λ (x : Order). x.key) same); cancelled = sym (ap (λ (x : Order). x.cancelled) same); side = ap (λ (x : Order). Some x.side) same; target = inl (sym (ap (λ (x : Order). x.target) same)); resting = λ t e. absurd (no_target t (ap (λ (x : Order). x.target) same ∙ e)) }
order-fields h k (place, Cancel key time symbol target) o e = cc
order-fields h k (place, Replace key time symbol target side quantity price) o e =
    let same = some-same _ _ e in
    record { place = sym (ap (λ (x : Order). x.place) same); key = sym (ap (λ (x : Order). x.key) same); cancelled = sym (ap (λ (x : Order). x.cancelled) same); side = ap (λ (x : Order). Some x.side) same; target = inr (sym (ap (λ (x : Order). x.target) same)); resting = λ t e. sym (ap (λ (x : Order). x.life) same) }

map-some : (f : ℕ → ℕ) (o : Option ℕ) (t : ℕ) → option_map f o ≡ Some t → (j : ℕ) × (o ≡ Some j) × (f j ≡ t)
map-some f None t e = cc
map-some f (Some j) t e = (j, refl, some-same _ _ e)

pub replaced-parts : (h : List (ℕ × OrderRecord)) (k j : ℕ) → replaced_order_at h k ≡ Some j → target_of h k ≡ Some j
replaced-parts h k j e = elim (cases_Bool (is_order (history_entry h k))) [
  | inl t ↦ sym (cond-true (is_order (history_entry h k)) (target_of h k) None t) ∙ e
  | inr f ↦ none_some (cond (is_order (history_entry h k)) (target_of h k) None) j (cond-false (is_order (history_entry h k)) (target_of h k) None f) e
]

-- what a record may name as its target
pub record IsTarget (h : List (ℕ × OrderRecord)) (k t : ℕ) : Type 0 where
  pub earlier : t < k
  pub ordered : is_order (history_entry h t) ≡ true
  pub named : ends_order (key_at h t) (history_entry h k) ≡ true
  pub sided : fits_side (side_of (history_entry h k)) (side_of (history_entry h t)) ≡ true

abbrev names_target : List (ℕ × OrderRecord) → ℕ → ℕ → Bool
names_target h k j = is_order (history_entry h j) && ends_order (key_at h j) (history_entry h k) && fits_side (side_of (history_entry h k)) (side_of (history_entry h j))

pub target-is : (h : List (ℕ × OrderRecord)) (k t : ℕ) → target_of h k ≡ Some t → IsTarget h k t
target-is h k t e =
    let r = with-found (names_target h k) k t e in
    let outer = and_parts (is_order (history_entry h t) && ends_order (key_at h t) (history_entry h k)) (fits_side (side_of (history_entry h k)) (side_of (history_entry h t))) r.1 in
    let inner = and_parts (is_order (history_entry h t)) (ends_order (key_at h t) (history_entry h k)) outer.0 in
    record { earlier = r.0; ordered = inner.0; named = inner.1; sided = outer.1 }

-- a record that ends a key names it as its target
ends-names : (key : Key) (r : OrderRecord) → ends_order key r ≡ true → (is_some (target_key r) ≡ true) × ((other : Key) → ends_order other r ≡ true → other ≡ key)
ends-names key (New own time symbol side quantity price life) e = cc
ends-names key (Cancel own time symbol target) e = (refl, λ other f. sym (same_key-is _ _ f) ∙ same_key-is _ _ e)
ends-names key (Replace own time symbol target side quantity price) e = (refl, λ other f. sym (same_key-is _ _ f) ∙ same_key-is _ _ e)

fits-same : (a b : Side) (x y : Option Side) → x ≡ Some a → y ≡ Some b → fits_side x y ≡ true → b ≡ a
fits-same a b None y e f t = cc
fits-same a b (Some s) None e f t = cc
fits-same a b (Some s) (Some u) e f t = let p : s ≡ a = some-same s a e in let q : u ≡ b = some-same u b f in sym q ∙ same_side-is s u t ∙ p

map-none : {A : Type 0} (f : ℕ → A) (o : Option ℕ) → option_map f o ≡ None → o ≡ None
map-none f None e = refl
map-none f (Some j) e = cc

first-none : (h : List (ℕ × OrderRecord)) (k : ℕ) → duplicate_id_finding h k ≡ None → earlier_entry_with_key h k ≡ None
first-none h k e = map-none _ (earlier_entry_with_key h k) e

third-none : (h : List (ℕ × OrderRecord)) (k : ℕ) → unknown_target_finding h k ≡ None → is_some (target_key (history_entry h k)) ≡ true → (t : ℕ) × (target_of h k ≡ Some t)
third-none h k e some = elim (cases_Option (target_of h k)) [
  | inr found ↦ found
  | inl none ↦ absurd (both_ways _ (only-none (is_some (target_key (history_entry h k)) && is_none (target_of h k)) _ e) (and_from _ _ some (ap is_none none)))
]

last-none : (h : List (ℕ × OrderRecord)) (k : ℕ) → entry_finding h k ≡ None → unknown_target_finding h k ≡ None
last-none h k e =
    let a = option_or-parts (duplicate_id_finding h k) (option_or (time_back_finding h k) (option_or (unknown_target_finding h k) None)) e in
    let b = option_or-parts (time_back_finding h k) (option_or (unknown_target_finding h k) None) a.1 in
    (option_or-parts (unknown_target_finding h k) None b.1).0

distinct-none : (h : List (ℕ × OrderRecord)) (j k : ℕ) → j < k → earlier_entry_with_key h k ≡ None → key_at h j ≢ key_at h k
distinct-none h j k lt e same = both_ways _ (none-with (λ i. same_key (key_at h i) (key_at h k)) k e j lt) (is-same_key (key_at h j) (key_at h k) same)

kept-longer : {O : Type 0} (r : Option O) (os : List O) (n : ℕ) → length os ≤ n → length (cons_option r os) ≤ suc n
kept-longer None os n le = omega arith
kept-longer (Some o) os n le = omega arith

sum-nothing : {E : Type 0} (test : E → Bool) (j k : ℕ) → count_by test (take j []) ≤ count_by test (take k [])
sum-nothing test zero zero = omega arith
sum-nothing test zero (suc k) = omega arith
sum-nothing test (suc j) zero = omega arith
sum-nothing test (suc j) (suc k) = omega arith

count-take : {E : Type 0} (test : E → Bool) (xs : List E) (j k : ℕ) → j ≤ k → count_by test (take j xs) ≤ count_by test (take k xs)
count-take test [] j k le = sum-nothing test j k
count-take test (x ∷ xs) zero k le = omega arith
count-take test (x ∷ xs) (suc j) zero le = absurd (omega arith)
count-take test (x ∷ xs) (suc j) (suc k) le =
    let rest = count-take test xs j k (omega arith) in
    omega (arith, suc-take test x xs j, suc-take test x xs k)

kept-length : {E O : Type 0} (f : ℕ → E → Option O) (xs : List E) (from : ℕ) → length (kept f from xs) ≤ length xs
kept-length f [] from = omega arith
kept-length f (x ∷ xs) from = kept-longer (f from x) (kept f (from + 1) xs) (length xs) (kept-length f xs (from + 1))

module _ (symbol : List ℕ) (entries : List OrderRecord) where
  abbrev records : List (ℕ × OrderRecord)
  records = history symbol entries

  abbrev orders : List Order
  orders = order_list symbol entries

  pub places : (j k : ℕ) → j < k → k < length records → history_entry_place records j < history_entry_place records k
  places j k lt below = place-rises symbol entries j k lt below

  same_record : (j k : ℕ) → j < length records → k < length records → history_entry_place records j ≡ history_entry_place records k → j ≡ k
  same_record j k hj hk e = elim (cases_order j k) [
    | inl same ↦ same
    | inr ne ↦ elim ne [
      | inl less ↦ let lt = places j k less hk in absurd (omega arith)
      | inr more ↦ let lt = places k j more hj in absurd (omega arith)
    ]
  ]

  -- `cancelled` is the order's own place, where it isn't placed, or the place of the first record that ends it
  pub cancelled-cases : (k c : ℕ) → cancelled_of records k ≡ Some c
      → ((is_placed records k ≡ false) × (c ≡ history_entry_place records k))
      ⊎ ((is_placed records k ≡ true) × (j : ℕ) × (j < length records) × (ends_order (key_at records k) (history_entry records j) ≡ true) × (history_entry_place records j ≡ c))
  cancelled-cases k c e = elim (cases_Bool (is_placed records k)) [
    | inr f ↦ inl (f, sym (some-same _ _ (sym (cond-false (is_placed records k) _ _ f) ∙ e)))
    | inl t ↦
        let found = map-some (history_entry_place records) (least_with (λ j. ends_order (key_at records k) (history_entry records j)) (length records)) c (sym (cond-true (is_placed records k) _ _ t) ∙ e) in
        let at = with-found (λ j. ends_order (key_at records k) (history_entry records j)) (length records) found.0 found.1 in
        inr (t, found.0, at.0, at.1, found.2)
  ]

  -- an order that a record ends is cancelled at that record or before
  pub cancelled-upto : (k j : ℕ) → k < j → j < length records → ends_order (key_at records k) (history_entry records j) ≡ true
      → (c : ℕ) × (cancelled_of records k ≡ Some c) × (c ≤ history_entry_place records j)
  cancelled-upto k j lt below e = elim (cases_Bool (is_placed records k)) [
    | inr f ↦ (history_entry_place records k, cond-false (is_placed records k) _ _ f, let p = places k j lt below in omega arith)
    | inl t ↦
        let test : ℕ → Bool = λ i. ends_order (key_at records k) (history_entry records i) in
        let found = with-exists test (length records) j below e in
        let at = with-found test (length records) found.0 found.1 in
        let first : found.0 ≤ j = elim (cases_lt j found.0) [ inl over ↦ absurd (both_ways _ (at.2 j over) e) | inr le ↦ le ] in
        let le : history_entry_place records found.0 ≤ history_entry_place records j = elim (cases_eq found.0 j) [ inl same ↦ rw same (omega arith) | inr ne ↦ let p = places found.0 j (omega (arith, ne)) below in omega arith ] in
        (history_entry_place records found.0, cond-true (is_placed records k) _ _ t ∙ ap (option_map (history_entry_place records)) found.1, le)
  ]

  -- each order of the list comes from a record of the history, and each new order or replacement of the history is in the list
  pub record IsFrom (o : Order) (i : ℕ) : Type 0 where
    pub at : ℕ
    pub inside : at < length records
    pub index : order_index records at ≡ i
    pub gives : order_of_entry records (at, (get_or records at entry_past_end).0, (get_or records at entry_past_end).1) ≡ Some o
    pub fields : IsOrderOf records at (get_or records at entry_past_end) o

  pub order-from : (i : ℕ) → i < length orders → IsFrom (order_at orders i) i
  order-from i lt =
      let r = kept-from (λ (k : ℕ) (e : ℕ × OrderRecord). order_of_entry records (k, e.0, e.1)) (λ e. is_order e.1) (order-tells records) entry_past_end order_past_end records 0 i lt in
      let same : 0 + r.at ≡ r.at = omega arith in
      record { at = r.at; inside = r.inside; index = r.index; gives = rw same at r.gives; fields = order-fields records r.at (get_or records r.at entry_past_end) _ (rw same at r.gives) }

  pub order-to : (k : ℕ) → k < length records → is_order (history_entry records k) ≡ true → (order_index records k < length orders) × IsOrderOf records k (get_or records k entry_past_end) (order_at orders (order_index records k))
  order-to k lt t =
      let r = kept-at (λ (k : ℕ) (e : ℕ × OrderRecord). order_of_entry records (k, e.0, e.1)) (λ e. is_order e.1) (order-tells records) entry_past_end order_past_end records 0 k lt t in
      let same : 0 + k ≡ k = omega arith in
      (r.0, order-fields records k (get_or records k entry_past_end) _ (rw same at r.1))

  -- earlier records have smaller indices
  index-most : (j k : ℕ) → j ≤ k → k ≤ length records → order_index records j ≤ order_index records k
  index-most j k le below = count-take (λ e. is_order e.1) records j k le

  index-less : (j k : ℕ) → j < k → k ≤ length records → is_order (history_entry records j) ≡ true → order_index records j < order_index records k
  index-less j k lt below t =
      let one = count_by_more_yes (λ (e : ℕ × OrderRecord). is_order e.1) records j entry_past_end (omega arith) t in
      let rest = count-take (λ (e : ℕ × OrderRecord). is_order e.1) records (j + 1) k (omega arith) in
      omega arith

  target-record : (k : ℕ) (o : Order) (t : ℕ) → IsOrderOf records k (get_or records k entry_past_end) o → o.target ≡ Some t
      → (j : ℕ) × (target_of records k ≡ Some j) × (order_index records j ≡ t)
  target-record k o t f e = elim f.target [
    | inl none ↦ none_some o.target t none e
    | inr from ↦
        let found = map-some (order_index records) (replaced_order_at records k) t (sym from ∙ e) in
        (found.0, replaced-parts records k found.0 found.1, found.2)
  ]

  orders-few : length orders ≤ length entries
  orders-few =
      let a = kept-length (λ (k : ℕ) (e : ℕ × OrderRecord). order_of_entry records (k, e.0, e.1)) records 0 in
      let test : ℕ × OrderRecord → Bool = λ e. same_name (symbol_of e.1) symbol in
      let b : length records ≤ length (enumerate_from 1 entries) = rw (length-filter test (enumerate_from 1 entries)) (count_by-le-length test (enumerate_from 1 entries)) in
      let c = length-enumerate_from 1 entries in
      omega arith

  -- places rise strictly, and a target is a lower index of the same side, whether the history is well-formed or not
  pub order_list-rising : AllPairs (λ o p. o.place < p.place) orders
  order_list-rising i j d lt below =
      let from = order-from i (omega arith) in
      let to = order-from j below in
      let f = from.fields in
      let g = to.fields in
      let index_i = from.index in
      let index_j = to.index in
      let inside = from.inside in
      let k_lt : from.at < to.at = elim (cases_lt from.at to.at) [ inl less ↦ less | inr more ↦ let le = index-most to.at from.at more (omega arith) in absurd (omega arith) ] in
      let p = places from.at to.at k_lt to.inside in
      let place_i = f.place in
      let place_j = g.place in
      let first : get_or orders i d ≡ order_at orders i = get_or-default orders i d order_past_end (omega arith) in
      let second : get_or orders j d ≡ order_at orders j = get_or-default orders j d order_past_end below in
      let rise : place_at orders i < place_at orders j = omega arith in
      rw (first, second) rise

  pub order_list-targets : (i t : ℕ) → i < length orders → (order_at orders i).target ≡ Some t → (t < i) × (side_at orders t ≡ side_at orders i)
  order_list-targets i t lt e =
      let from = order-from i lt in
      let k = from.at in
      let f = from.fields in
      let index = from.index in
      let found = target-record k (order_at orders i) t f e in
      let is = target-is records k found.0 found.1 in
      let earlier = is.earlier in
      let inside = from.inside in
      let same = found.2 in
      let to = order-to found.0 (omega arith) is.ordered in
      let g : IsOrderOf records found.0 (get_or records found.0 entry_past_end) (order_at orders t) = subst (λ x. IsOrderOf records found.0 (get_or records found.0 entry_past_end) (order_at orders x)) found.2 to.1 in
      let less = index-less found.0 k is.earlier (omega arith) is.ordered in
      (omega arith, fits-same (side_at orders i) (side_at orders t) (side_of (history_entry records k)) (side_of (history_entry records found.0)) f.side g.side is.sided)

  -- so it is an order list
  pub order_list-is : length entries < 2 ^ 32 → IsOrderList orders
  order_list-is small = record {
    rising = order_list-rising;
    fits_indices = let le = orders-few in omega arith;
    targets = order_list-targets;
    resting = λ i t lt. (order-from i lt).fields.resting t;
  }

  -- what holds where no record has a finding
  module _ (formed : WellFormed symbol entries) where
    no_finding : (k : ℕ) → k < length records → entry_finding records k ≡ None
    no_finding k lt = none-below (entry_finding records) (length records) formed k lt

    -- no two records have one key
    pub distinct-keys : (j k : ℕ) → j < length records → k < length records → key_at records j ≡ key_at records k → j ≡ k
    distinct-keys j k hj hk same = elim (cases_order j k) [
      | inl e ↦ e
      | inr ne ↦ elim ne [
        | inl less ↦ absurd (distinct-none records j k less (first-none records k ((option_or-parts _ _ (no_finding k hk)).0)) same)
        | inr more ↦ absurd (distinct-none records k j more (first-none records j ((option_or-parts _ _ (no_finding j hj)).0)) (sym same))
      ]
    ]

    -- a record that ends the order at k names it as its target
    pub ending-target : (j k : ℕ) → j < length records → k < length records → ends_order (key_at records k) (history_entry records j) ≡ true → target_of records j ≡ Some k
    ending-target j k hj hk e =
        let names = ends-names (key_at records k) (history_entry records j) e in
        let found = third-none records j (last-none records j (no_finding j hj)) names.0 in
        let t = target-is records j found.0 found.1 in
        let earlier = t.earlier in
        let same = distinct-keys found.0 k (omega arith) hk (names.1 (key_at records found.0) t.named) in
        found.1 ∙ ap (λ (x : ℕ). Some x) same

    -- the order list of a well-formed history is regular
    pub order_list-regular : Regular orders
    order_list-regular = record {
      own = λ i c lt e.
          let from = order-from i lt in
          let k = from.at in
          let f = from.fields in
          let place = f.place in
          elim (cancelled-cases k c (sym f.cancelled ∙ e)) [
            | inl own ↦ let same = own.1 in omega arith
            | inr ended ↦
                let j = ended.1 in
                let t = target-is records j k (ending-target j k ended.2 from.inside ended.3) in
                let later = places k j t.earlier ended.2 in
                let same = ended.4 in
                omega arith
          ];
      same_sides = λ i j hi hj e.
          let from = order-from i hi in
          let to = order-from j hj in
          let k = from.at in
          let m = to.at in
          let f = from.fields in
          let g = to.fields in
          let place_j = g.place in
          elim (cancelled-cases k (place_at orders j) (sym f.cancelled ∙ e)) [
            | inl own ↦
                let same = own.1 in
                let km : k ≡ m = same_record k m from.inside to.inside (omega arith) in
                some-same _ _ (sym g.side ∙ ap (λ n. side_of (history_entry records n)) (sym km) ∙ f.side)
            | inr ended ↦
                let n = ended.1 in
                let same = ended.4 in
                let nm : n ≡ m = same_record n m ended.2 to.inside (omega arith) in
                let t = target-is records n k (ending-target n k ended.2 from.inside ended.3) in
                sym (fits-same (side_at orders j) (side_at orders i) (side_of (history_entry records n)) (side_of (history_entry records k)) (ap (λ x. side_of (history_entry records x)) nm ∙ g.side) f.side t.sided)
          ];
      targets = λ i t lt e.
          let from = order-from i lt in
          let k = from.at in
          let f = from.fields in
          let place = f.place in
          let found = target-record k (order_at orders i) t f e in
          let is = target-is records k found.0 found.1 in
          let earlier = is.earlier in
          let inside = from.inside in
          let to = order-to found.0 (omega arith) is.ordered in
          let upto = cancelled-upto found.0 k is.earlier from.inside is.named in
          let g : IsOrderOf records found.0 (get_or records found.0 entry_past_end) (order_at orders t) = subst (λ x. IsOrderOf records found.0 (get_or records found.0 entry_past_end) (order_at orders x)) found.2 to.1 in
          let least = upto.2 in
          (upto.0, g.cancelled ∙ upto.1, omega arith);
    }

    -- no two of its orders have one key
    pub order_list-keys : HaveOwnKeys orders
    order_list-keys i j d lt below same =
        let from = order-from i (omega arith) in
        let to = order-from j below in
        let index_i = from.index in
        let index_j = to.index in
        let first : get_or orders i d ≡ order_at orders i = get_or-default orders i d order_past_end (omega arith) in
        let second : get_or orders j d ≡ order_at orders j = get_or-default orders j d order_past_end below in
        let one : key_at records from.at ≡ key_at records to.at = sym from.fields.key ∙ ap (λ (o : Order). o.key) (sym first) ∙ same ∙ ap (λ (o : Order). o.key) second ∙ to.fields.key in
        let e = ap (order_index records) (distinct-keys from.at to.at from.inside to.inside one) in
        omega arith
