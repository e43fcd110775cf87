-- The history of the generated records: it is all of them, and it is well-formed.
use Rattle.std.proofs.Common.{◌≡◌, ◌≢◌, ℕ, zero, suc, ◌+◌, ◌-◌, ◌*◌, ◌/◌, ◌%◌, ◌^◌, ◌<◌, ◌≤◌, List, [], ◌∷◌, length, get_or, Bool, true, false, Option, Some, None, refl, sym, ap, ◌∙◌, arith, inl, inr, subst, All}
use Rattle.std.specs.Prelude.{decimal, filter, not, ◌==◌, ◌&&◌, is_some, is_none, filter_map}
use Rattle.std.specs.List.{enumerate_from, cons_option}
use Rattle.std.proofs.lemmas.Bool.{cases_Bool, and_from, and_left, and_right, cond-true, cond-false, cond_both, eqb-true, eq-eqb, ne_eqb, le-ltb, both_ways}
use Rattle.std.proofs.lemmas.Fmt.{decimal_injective}
use Rattle.std.proofs.lemmas.List.Elements.{All-nil, All-cons, All-head, All-tail}
use Rattle.std.proofs.lemmas.List.FromFn.{get_or-map-range_with_len, length-map-range_with_len, get_or-enumerate_from, length-enumerate_from}
use Rattle.std.proofs.Math.Nat.{add-mod_right, div-add-mod}
use Rattle.std.proofs.lemmas.Nat.{mod-mul-add}
use lib.Pointwise.{bytes_decides}
use Rattle.audit_base.specs.declared.names.Key.{Key}
use Rattle.audit_base.specs.declared.terms.Life.TheVariants.{Rests}
use Rattle.audit_base.specs.declared.records.OrderRecord.{OrderRecord}
use Rattle.audit_base.specs.declared.records.OrderRecord.TheVariants.{New, Cancel}
use Rattle.audit_base.specs.declared.orders.Order.{Order}
use Rattle.audit_base.specs.Orders.{same_name, same_key, may_rest, order_at, order_past_end}
use Rattle.audit_base.specs.Least.{least_answer, only_if}
use Rattle.audit_base.specs.Histories.{key_of, time_of, symbol_of, target_key, is_order, ends_order, side_of, fits_side, history, entry_past_end, history_entry, key_at, target_of, duplicate_id_finding, time_back_finding, unknown_target_finding, entry_finding, WellFormed, Regular, order_of_entry, order_list, instant_order_finding}
use Rattle.audit_base.specs.Moments.{is_before}
use Rattle.audit_base.proofs.HistoryLemmas.{same_key-is, is-same_key, order_list-regular}
use Rattle.audit_base.proofs.LeastLemmas.{least-none, option_or-none, with-none, with-exists}
use Rattle.log_maker.specs.Generator.{AreOfSymbol, generated_symbol, firm_of_number, id_of_number, key_of_number, time_of_number, side_of_state, quantity_of_state, price_of_state, record_of_state, generated_record, generated_records, state_at}

only-none : {A : Type 0} (test : Bool) (a : A) → test ≡ false → only_if test a ≡ None
only-none test a off = cond-false test (Some a) None off

-- What each record holds, whether it is a cancel or a new order.

abbrev cancel_of : ℕ → OrderRecord
cancel_of i = Cancel (key_of_number i) (time_of_number i) generated_symbol (id_of_number (i - 5))

abbrev new_order_of : ℕ → ℕ → OrderRecord
new_order_of i state = New (key_of_number i) (time_of_number i) generated_symbol (side_of_state state) (quantity_of_state state) (price_of_state state) Rests

module _ (i state : ℕ) where
  of_both : (P : OrderRecord → Type 0) → P (cancel_of i) → P (new_order_of i state) → P (record_of_state i state)
  of_both P cancel new = cond_both (i % 10 == 0) (cancel_of i) (new_order_of i state) P (λ _. cancel) (λ _. new)

  key-is : key_of (record_of_state i state) ≡ key_of_number i
  key-is = of_both (λ r. key_of r ≡ key_of_number i) refl refl

  time-is : time_of (record_of_state i state) ≡ time_of_number i
  time-is = of_both (λ r. time_of r ≡ time_of_number i) refl refl

  symbol-is : symbol_of (record_of_state i state) ≡ generated_symbol
  symbol-is = of_both (λ r. symbol_of r ≡ generated_symbol) refl refl

  is-cancel : i % 10 ≡ 0 → record_of_state i state ≡ cancel_of i
  is-cancel tenth = cond-true (i % 10 == 0) (cancel_of i) (new_order_of i state) (eq-eqb (i % 10) 0 tenth)

  is-new : i % 10 ≢ 0 → record_of_state i state ≡ new_order_of i state
  is-new other = cond-false (i % 10 == 0) (cancel_of i) (new_order_of i state) (ne_eqb (i % 10) 0 other)

-- no two records have one key
keys-apart : (i j : ℕ) → i < 2 ^ 32 → j < 2 ^ 32 → i ≢ j → same_key (key_of_number i) (key_of_number j) ≡ false
keys-apart i j small_i small_j apart = elim (cases_Bool (same_key (key_of_number i) (key_of_number j))) [
  | inr apart_is ↦ apart_is
  | inl same ↦
      let ids : id_of_number i ≡ id_of_number j = ap (λ (k : Key). k.id) (same_key-is (key_of_number i) (key_of_number j) same) in
      let digits : decimal i ≡ decimal j = cc in
      absurd (apart (decimal_injective i j (omega arith) (omega arith) digits))
]

-- The order that a cancel names.

tenth-parts : (i : ℕ) → i % 10 ≡ 0 → 0 < i → (10 ≤ i) × ((i - 5) % 10 ≡ 5) × (i % 5 ≡ (i - 5) % 5)
tenth-parts i tenth some =
    let whole = div-add-mod i 10 in
    let q : ℕ = i / 10 in
    let back : (i - 5) ≡ (i / 10 - 1) * 10 + 5 = omega arith in
    let on : i ≡ (i - 5) + 5 = omega arith in (
      omega arith,
      ap (λ (n : ℕ). n % 10) back ∙ mod-mul-add (i / 10 - 1) 10 5 (omega arith),
      ap (λ (n : ℕ). n % 5) on ∙ add-mod_right (i - 5) 5,
    )

-- the order five before is one that the cancel ends
ends-five-before : (i : ℕ) → i % 5 ≡ (i - 5) % 5 → ends_order (key_of_number (i - 5)) (cancel_of i) ≡ true
ends-five-before i same =
    is-same_key (record { firm = firm_of_number i; id = id_of_number (i - 5) }) (key_of_number (i - 5))
    (ap (λ (n : ℕ). record { firm = 70 ∷ decimal n; id = id_of_number (i - 5) }) same)

-- The history.

filter-all : {X : Type 0} (test : X → Bool) (xs : List X) → All (λ x. test x ≡ true) xs → filter test xs ≡ xs
filter-all test [] all = refl
filter-all test (x ∷ xs) all =
    cond-true (test x) (x ∷ filter test xs) (filter test xs) (All-head (λ x. test x ≡ true) x xs all)
    ∙ ap (λ ys. x ∷ ys) (filter-all test xs (All-tail (λ x. test x ≡ true) x xs all))

with_first : {A O : Type 0} (f : A → Option O) (P : O → Type 0) (x : A) (xs : List A) (r : Option O) → f x ≡ r → ((o : O) → f x ≡ Some o → P o) → All P (filter_map f xs) → All P (cons_option r (filter_map f xs))
with_first f P x xs None e here rest = rest
with_first f P x xs (Some o) e here rest = All-cons P o (filter_map f xs) (here o e) rest

-- what `filter_map` keeps
all-kept : {A O : Type 0} (f : A → Option O) (P : O → Type 0) (xs : List A) → ((k : ℕ) (d : A) → k < length xs → (o : O) → f (get_or xs k d) ≡ Some o → P o) → All P (filter_map f xs)
all-kept f P [] each = All-nil P
all-kept f P (x ∷ xs) each = with_first f P x xs (f x) refl (λ o e. each 0 x (omega arith) o e) (all-kept f P xs (λ k d lt o e. each (suc k) d (omega arith) o e))

module _ (start count : ℕ) (few : count ≤ 1000000) where
  abbrev entries : List OrderRecord
  entries = generated_records start count

  abbrev numbered : List (ℕ × OrderRecord)
  numbered = enumerate_from 1 entries

  pub count-is : length entries ≡ count
  count-is = length-map-range_with_len (generated_record start) 1 count

  entry-is : (k : ℕ) (d : OrderRecord) → k < count → get_or entries k d ≡ generated_record start (1 + k)
  entry-is k d lt = get_or-map-range_with_len (generated_record start) 1 count k (1 + k) d lt refl

  numbered-is : (k : ℕ) (d : ℕ × OrderRecord) → k < count → get_or numbered k d ≡ (1 + k, generated_record start (1 + k))
  numbered-is k d lt = get_or-enumerate_from 1 entries k d (omega (arith, count-is)) ∙ ap (λ (r : OrderRecord). (1 + k, r)) (entry-is k d.1 lt)

  record-is : (k : ℕ) → k < count → history_entry numbered k ≡ generated_record start (1 + k)
  record-is k lt = ap (λ (e : ℕ × OrderRecord). e.1) (numbered-is k entry_past_end lt)

  pub all-of-symbol : AreOfSymbol generated_symbol entries
  all-of-symbol k d lt = ap symbol_of (entry-is k d (omega (arith, count-is))) ∙ symbol-is (1 + k) (state_at start (1 + k))

  history-is : history generated_symbol entries ≡ numbered
  history-is = filter-all (λ e. same_name (symbol_of e.1) generated_symbol) numbered (λ k d lt.
      let inside : k < count = omega (arith, count-is, length-enumerate_from 1 entries) in
      (bytes_decides (symbol_of (get_or numbered k d).1) generated_symbol).1
      (ap (λ (e : ℕ × OrderRecord). symbol_of e.1) (numbered-is k d inside) ∙ symbol-is (1 + k) (state_at start (1 + k))))

  key-at : (k : ℕ) → k < count → key_at numbered k ≡ key_of_number (1 + k)
  key-at k lt = ap key_of (record-is k lt) ∙ key-is (1 + k) (state_at start (1 + k))

  time-at : (k : ℕ) → k < count → time_of (history_entry numbered k) ≡ time_of_number (1 + k)
  time-at k lt = ap time_of (record-is k lt) ∙ time-is (1 + k) (state_at start (1 + k))

  -- none has the key of an earlier one
  no-duplicate : (k : ℕ) → k < count → duplicate_id_finding numbered k ≡ None
  no-duplicate k lt = rw (with-none (λ j. same_key (key_at numbered j) (key_at numbered k)) k (λ j below.
      ap (λ (key : Key). same_key key (key_at numbered k)) (key-at j (omega arith))
      ∙ ap (same_key (key_of_number (1 + j))) (key-at k lt)
      ∙ keys-apart (1 + j) (1 + k) (omega arith) (omega arith) (λ e. absurd (omega arith)))) refl

  not-before : (a b : ℕ) → a < b → is_before (time_of_number b) (time_of_number a) ≡ false
  not-before a b less = le-ltb b a (omega arith)

  earlier-first : (j : ℕ) → suc j < count → is_before (time_of (history_entry numbered (suc j))) (time_of (history_entry numbered j)) ≡ false
  earlier-first j lt =
      ap (λ m. is_before m (time_of (history_entry numbered j))) (time-at (suc j) lt)
      ∙ ap (is_before (time_of_number (1 + suc j))) (time-at j (omega arith))
      ∙ not-before (1 + j) (1 + suc j) (omega arith)

  -- none is before the one before it
  no-time_back : (k : ℕ) → k < count → time_back_finding numbered k ≡ None
  no-time_back zero lt = refl
  no-time_back (suc j) lt = rw (earlier-first j lt) refl

  -- each cancel has its target
  no-unknown_target : (k : ℕ) → k < count → unknown_target_finding numbered k ≡ None
  no-unknown_target k lt = only-none (is_some (target_key (history_entry numbered k)) && is_none (target_of numbered k)) _
      (elim (cases_Bool ((1 + k) % 10 == 0)) [
        | inr other ↦ and_left _ _ (ap (λ (r : OrderRecord). is_some (target_key r)) (record-is k lt ∙ is-new (1 + k) (state_at start (1 + k)) (λ e. both_ways _ other (eq-eqb ((1 + k) % 10) 0 e))))
        | inl tenth ↦ and_right _ _ (let found = target-found (eqb-true ((1 + k) % 10) 0 tenth) in ap is_none found.1)
      ])
    where
      target-found : (1 + k) % 10 ≡ 0 → (t : ℕ) × (target_of numbered k ≡ Some t)
      target-found tenth =
          let parts = tenth-parts (1 + k) tenth (omega arith) in
          let five = parts.0 in
          let t : ℕ = k - 5 in
          let before : 1 + (k - 5) ≡ 1 + k - 5 = omega arith in
          let self : history_entry numbered k ≡ cancel_of (1 + k) = record-is k lt ∙ is-cancel (1 + k) (state_at start (1 + k)) tenth in
          let not_tenth : (1 + (k - 5)) % 10 ≢ 0 = λ e. (let back : (1 + (k - 5)) % 10 ≡ 5 = ap (λ (n : ℕ). n % 10) before ∙ parts.1 in absurd (omega arith)) in
          let other : history_entry numbered (k - 5) ≡ new_order_of (1 + (k - 5)) (state_at start (1 + (k - 5))) = record-is (k - 5) (omega arith) ∙ is-new (1 + (k - 5)) (state_at start (1 + (k - 5))) not_tenth in
          let key : key_at numbered (k - 5) ≡ key_of_number (1 + k - 5) = key-at (k - 5) (omega arith) ∙ ap key_of_number before in
          with-exists (λ j. is_order (history_entry numbered j) && ends_order (key_at numbered j) (history_entry numbered k) && fits_side (side_of (history_entry numbered k)) (side_of (history_entry numbered j))) k (k - 5) (omega arith)
          (and_from _ _ (and_from _ _ (ap is_order other)
          (ap (λ (x : Key). ends_order x (history_entry numbered k)) key ∙ ap (ends_order (key_of_number (1 + k - 5))) self ∙ ends-five-before (1 + k) parts.2))
          (ap (λ (r : OrderRecord). fits_side (side_of r) (side_of (history_entry numbered (k - 5)))) self))

  no-finding : (k : ℕ) → k < count → entry_finding numbered k ≡ None
  no-finding k lt =
      option_or-none (duplicate_id_finding numbered k) _ (no-duplicate k lt)
      ∙ option_or-none (time_back_finding numbered k) _ (no-time_back k lt)
      ∙ option_or-none (unknown_target_finding numbered k) _ (no-unknown_target k lt)

  pub well_formed : WellFormed generated_symbol entries
  well_formed = subst (λ (h : List (ℕ × OrderRecord)). least_answer (entry_finding h) (length h) ≡ None) (sym history-is)
      (least-none (entry_finding numbered) (length numbered) (λ k lt. no-finding k (omega (arith, count-is, length-enumerate_from 1 entries))))

  pub regular : Regular (order_list generated_symbol entries)
  regular = order_list-regular generated_symbol entries well_formed

  -- an order that comes from a record at an index rests
  order-rests : (records : List (ℕ × OrderRecord)) (k place i state : ℕ) (o : Order) → order_of_entry records (k, place, record_of_state i state) ≡ Some o → may_rest o.life ≡ true
  order-rests records k place i state = of_both i state (λ r. (o : Order) → order_of_entry records (k, place, r) ≡ Some o → may_rest o.life ≡ true) (λ o e. absurd (cc)) (λ o e. rests-of _ o e refl)
    where
      rests-of : (made o : Order) → Some made ≡ Some o → may_rest made.life ≡ true → may_rest o.life ≡ true
      rests-of made o e rests = let same : made ≡ o = cc in subst (λ (x : Order). may_rest x.life ≡ true) same rests

  orders-rest : (records : List (ℕ × OrderRecord)) → All (λ o. may_rest o.life ≡ true) (filter_map (λ e. order_of_entry records (e.0, e.1.0, e.1.1)) (enumerate_from 0 numbered))
  orders-rest records = all-kept (λ e. order_of_entry records (e.0, e.1.0, e.1.1)) (λ o. may_rest o.life ≡ true) (enumerate_from 0 numbered) (λ k d lt o e.
      let inside : k < count = omega (arith, count-is, length-enumerate_from 1 entries, length-enumerate_from 0 numbered) in
      let is : get_or (enumerate_from 0 numbered) k d ≡ (0 + k, (1 + k, generated_record start (1 + k))) =
      get_or-enumerate_from 0 numbered k d (omega (arith, count-is, length-enumerate_from 1 entries)) ∙ ap (λ (r : ℕ × OrderRecord). (0 + k, r)) (numbered-is k d.1 inside) in
      order-rests records (0 + k) (1 + k) (1 + k) (state_at start (1 + k)) o (sym (ap (λ (x : ℕ × (ℕ × OrderRecord)). order_of_entry records (x.0, x.1.0, x.1.1)) is) ∙ e))

  pub all-rest : instant_order_finding (order_list generated_symbol entries) ≡ None
  all-rest = subst (λ (h : List (ℕ × OrderRecord)). instant_order_finding (filter_map (λ e. order_of_entry h (e.0, e.1.0, e.1.1)) (enumerate_from 0 h)) ≡ None) (sym history-is)
      (let orders = filter_map (λ e. order_of_entry numbered (e.0, e.1.0, e.1.1)) (enumerate_from 0 numbered) in
      rw (with-none (λ i. not (may_rest (order_at orders i).life)) (length orders) (λ k lt. ap not (orders-rest numbered k order_past_end lt))) refl)
