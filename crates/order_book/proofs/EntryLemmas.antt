-- What the calls of the ordered map make of the entries of a book, and of the list of their orders.
use Rattle.std.proofs.Common.{◌≡◌, ◌<◌, ◌≤◌, ◌-◌, ◌^◌, ℕ, List, [], ◌∷◌, length, Bool, true, false, cond, Option, Some, None, refl, sym, ap, ◌∙◌, arith, inl, inr, subst, All, AllPairs, slice_get}
use Rattle.std.specs.Prelude.{nat_lt, is_some, IsSome, IfSome}
use Rattle.std.specs.Ordering.{is_eq}
use Rattle.std.specs.declared.cmp.Ordering.TheVariants.{Less, Greater}
use Rattle.std.specs.List.{list_any, AllByRecursion}
use Rattle.std.specs.List.Sorted.{IsStrictlySortedBy}
use Rattle.std.specs.Map.{keys_of, values_of, lookup, remove_entry, set_value}
use Rattle.std.specs.BTreeMap.{insert_entry, is_at}
use Rattle.std.proofs.lemmas.Bool.{cases_Bool, cases_lt, lt-ltb, le-ltb}
use Rattle.std.proofs.lemmas.Bool.Decides.{nat_tests}
use Rattle.std.proofs.lemmas.List.Elements.{All-nil, All-head, All-tail, All-cons, All-map, All-weaker}
use Rattle.std.proofs.lemmas.Map.Keys.{sorted_head, sorted_tail}
use Rattle.audit_base.specs.declared.terms.Side.{Side}
use Rattle.audit_base.specs.declared.terms.Side.TheVariants.{Buy, Sell}
use Rattle.audit_base.specs.Priority.{better_limit}
use Rattle.audit_base.proofs.SumLemmas.{AllPairs-cons}
use Rattle.order_book.specs.declared.books.Resting.{Resting}
use Rattle.rank_order.specs.declared.ranks.Rank.{Rank}
use Rattle.order_book.specs.Books.{IsRestingOrder, IsAheadInBook, with_order, has_index_and_limit, without_order, after_take, best_resting}
use Rattle.order_book.specs.Entries.{IsBookEntry, AreBookEntries}
use Rattle.rank_order.specs.Ranks.{rank_cmp, rank_of, weight_of}

-- ranks against limits and indices
ahead-less : (side : Side) (r s : Resting) → r.limit < 10 ^ 18 → s.limit < 10 ^ 18 → better_limit side r.limit s.limit ≡ true → rank_cmp (rank_of side r.index r.limit) (rank_of side s.index s.limit) ≡ Less
ahead-less Buy r s p q h = grind (arith, nat_tests)
ahead-less Sell r s p q h = grind (arith, nat_tests)

behind-greater : (side : Side) (r s : Resting) → r.limit < 10 ^ 18 → s.limit < 10 ^ 18 → s.index < r.index → better_limit side r.limit s.limit ≡ false → rank_cmp (rank_of side r.index r.limit) (rank_of side s.index s.limit) ≡ Greater
behind-greater Buy r s p q lt h = grind (arith, nat_tests)
behind-greater Sell r s p q lt h = grind (arith, nat_tests)

less-ahead : (side : Side) (r s : Resting) → r.limit < 10 ^ 18 → s.limit < 10 ^ 18 → rank_cmp (rank_of side r.index r.limit) (rank_of side s.index s.limit) ≡ Less → IsAheadInBook side r s
less-ahead Buy r s p q h = elim (cases_lt s.limit r.limit) [
  | inl lt ↦ inl (lt-ltb s.limit r.limit lt)
  | inr le ↦ inr (grind (arith, nat_tests), grind (arith, nat_tests))
]
less-ahead Sell r s p q h = elim (cases_lt r.limit s.limit) [
  | inl lt ↦ inl (lt-ltb r.limit s.limit lt)
  | inr le ↦ inr (grind (arith, nat_tests), grind (arith, nat_tests))
]

equal-pair : (side : Side) (i l : ℕ) (s : Resting) → l < 10 ^ 18 → s.limit < 10 ^ 18 → is_eq (rank_cmp (record { weight = weight_of side l; index = i }) (rank_of side s.index s.limit)) ≡ has_index_and_limit i l s
equal-pair Buy i l s p q = grind (arith, nat_tests)
equal-pair Sell i l s p q = grind (arith, nat_tests)

module _ (side : Side) where
  abbrev Es : Type 0
  Es = List (Rank × Resting)

  -- entries whose ranks rise have their orders in rank order
  values-ranked : (es : Es) → All (IsBookEntry side) es → IsStrictlySortedBy rank_cmp (keys_of es) → AllPairs (IsAheadInBook side) (values_of es)
  values-ranked [] each up = λ i j d lt below. absurd (omega arith)
  values-ranked (e ∷ es) each up =
      let here = All-head (IsBookEntry side) e es each in
      let later = All-tail (IsBookEntry side) e es each in
      AllPairs-cons (IsAheadInBook side) e.1 (values_of es) (behind es here later (sorted_head rank_cmp e.0 (keys_of es) up)) (values-ranked es later (sorted_tail rank_cmp e.0 (keys_of es) up))
    where
      behind : (fs : Es) → IsBookEntry side e → All (IsBookEntry side) fs → AllByRecursion (λ k. rank_cmp e.0 k ≡ Less) (keys_of fs) → All (IsAheadInBook side e.1) (values_of fs)
      behind [] here later less = λ k d lt. absurd (omega arith)
      behind (f ∷ fs) here later less =
          let there = All-head (IsBookEntry side) f fs later in
          let below : rank_cmp (rank_of side e.1.index e.1.limit) (rank_of side f.1.index f.1.limit) ≡ Less = subst (λ (k : Rank). rank_cmp k (rank_of side f.1.index f.1.limit) ≡ Less) here.key (subst (λ (k : Rank). rank_cmp e.0 k ≡ Less) there.key less.0) in
          All-cons (IsAheadInBook side e.1) f.1 (values_of fs) (less-ahead side e.1 f.1 here.held.priced there.held.priced below) (behind fs here (All-tail (IsBookEntry side) f fs later) less.1)

  pub are-ranked : (es : Es) → AreBookEntries side es → AllPairs (IsAheadInBook side) (values_of es)
  are-ranked es are = values-ranked es are.each are.rising

  pub are-held : (es : Es) → AreBookEntries side es → All IsRestingOrder (values_of es)
  are-held es are = All-map IsRestingOrder (λ (e : Rank × Resting). e.1) es (All-weaker (IsBookEntry side) (λ (e : Rank × Resting). IsRestingOrder e.1) (λ e is. is.held) es are.each)

  -- what `insert` makes
  insert-values : (r : Resting) → IsRestingOrder r → (es : Es) → All (IsBookEntry side) es → All (λ x. x.index < r.index) (values_of es)
      → (values_of (insert_entry rank_cmp es (rank_of side r.index r.limit) r) ≡ with_order side r (values_of es)) × (All (IsBookEntry side) (insert_entry rank_cmp es (rank_of side r.index r.limit) r))
  insert-values r held [] each latest = (refl, All-cons (IsBookEntry side) (rank_of side r.index r.limit, r) [] (record { key = refl; held = held }) (All-nil (IsBookEntry side)))
  insert-values r held (e ∷ es) each latest =
      let here = All-head (IsBookEntry side) e es each in
      let later = All-tail (IsBookEntry side) e es each in
      let lower = All-head (λ (x : Resting). x.index < r.index) e.1 (values_of es) latest in
      let rest = insert-values r held es later (All-tail (λ (x : Resting). x.index < r.index) e.1 (values_of es) latest) in
      elim (cases_Bool (better_limit side r.limit e.1.limit)) [
        | inl t ↦
            let less : rank_cmp (rank_of side r.index r.limit) e.0 ≡ Less = rw here.key (ahead-less side r e.1 held.priced here.held.priced t) in
            rw (less, t) (refl, All-cons (IsBookEntry side) (rank_of side r.index r.limit, r) (e ∷ es) (record { key = refl; held = held }) each)
        | inr f ↦
            let more : rank_cmp (rank_of side r.index r.limit) e.0 ≡ Greater = rw here.key (behind-greater side r e.1 held.priced here.held.priced lower f) in
            rw (more, f) (ap (λ (xs : List Resting). e.1 ∷ xs) rest.0, All-cons (IsBookEntry side) e (insert_entry rank_cmp es (rank_of side r.index r.limit) r) here rest.1)
      ]

  pub inserted : (r : Resting) (rank : Rank) (es fs : Es) → rank ≡ rank_of side r.index r.limit → 0 < r.left → r.limit < 10 ^ 18 → AreBookEntries side es → All (λ x. x.index < r.index) (values_of es)
      → fs ≡ insert_entry rank_cmp es rank r → IsStrictlySortedBy rank_cmp (keys_of fs) → AreBookEntries side fs × (values_of fs ≡ with_order side r (values_of es))
  inserted r rank es fs key some priced are latest e up =
      let same : fs ≡ insert_entry rank_cmp es (rank_of side r.index r.limit) r = e ∙ ap (λ (k : Rank). insert_entry rank_cmp es k r) key in
      let both = insert-values r (record { positive = some; priced = priced }) es are.each latest in
      (record { each = subst (All (IsBookEntry side)) (sym same) both.1; rising = up }, ap values_of same ∙ both.0)

  -- what `remove` makes
  module _ (index limit : ℕ) (priced : limit < 10 ^ 18) where
    abbrev key : Rank
    key = record { weight = weight_of side limit; index = index }

    at-pair : (e : Rank × Resting) → IsBookEntry side e → is_at (rank_cmp key) e.0 ≡ has_index_and_limit index limit e.1
    at-pair e is = ap (λ (k : Rank). is_eq (rank_cmp key k)) is.key ∙ equal-pair side index limit e.1 priced is.held.priced

    remove-values : (es : Es) → All (IsBookEntry side) es → (values_of (remove_entry (is_at (rank_cmp key)) es) ≡ without_order index limit (values_of es)) × (All (IsBookEntry side) (remove_entry (is_at (rank_cmp key)) es))
        × (is_some (lookup (is_at (rank_cmp key)) es) ≡ list_any (has_index_and_limit index limit) (values_of es))
    remove-values [] each = (refl, each, refl)
    remove-values (e ∷ es) each =
        let here = All-head (IsBookEntry side) e es each in
        let later = All-tail (IsBookEntry side) e es each in
        let rest = remove-values es later in
        let same = at-pair e here in
        elim (cases_Bool (has_index_and_limit index limit e.1)) [
          | inl t ↦ rw (same ∙ t, t) (refl, later, refl)
          | inr f ↦ rw (same ∙ f, f) (ap (λ (xs : List Resting). e.1 ∷ xs) rest.0, All-cons (IsBookEntry side) e (remove_entry (is_at (rank_cmp key)) es) here rest.1, rest.2)
        ]

    pub removed : (rank : Rank) (es fs : Es) → rank ≡ key → AreBookEntries side es → fs ≡ remove_entry (is_at (rank_cmp rank)) es → IsStrictlySortedBy rank_cmp (keys_of fs)
        → AreBookEntries side fs × (values_of fs ≡ without_order index limit (values_of es))
    removed rank es fs is are e up =
        let same : fs ≡ remove_entry (is_at (rank_cmp key)) es = e ∙ ap (λ (k : Rank). remove_entry (is_at (rank_cmp k)) es) is in
        let both = remove-values es are.each in
        (record { each = subst (All (IsBookEntry side)) (sym same) both.1; rising = up }, ap values_of same ∙ both.0)

    pub was-there : (rank : Rank) (es : Es) (answer : Bool) (found : Option Resting) → rank ≡ key → AreBookEntries side es → found ≡ lookup (is_at (rank_cmp rank)) es → answer ≡ is_some found
        → answer ≡ list_any (has_index_and_limit index limit) (values_of es)
    was-there rank es answer found is are f a = a ∙ ap is_some f ∙ ap (λ (k : Rank). is_some (lookup (is_at (rank_cmp k)) es)) is ∙ (remove-values es are.each).2

  -- the first entry
  pub first-value : (es : Es) (k : Rank) (r : Resting) → slice_get es 0 ≡ Some (k, r) → best_resting (values_of es) ≡ Some r
  first-value [] k r e = absurd (cc)
  first-value (x ∷ es) k r e = let same : x ≡ (k, r) = cc in ap (λ (y : Rank × Resting). Some y.1) same

  key-itself : (k : Rank) → is_eq (rank_cmp k k) ≡ true
  key-itself k = grind (arith, nat_tests)

  -- what a write through the first entry makes
  pub with_best_left : (es fs : Es) (k key : Rank) (r w : Resting) (quantity : ℕ) → AreBookEntries side es → slice_get es 0 ≡ Some (k, r) → key ≡ k → quantity < r.left → w ≡ record r { left = r.left - quantity }
      → fs ≡ set_value (is_at (rank_cmp key)) es w → AreBookEntries side fs × (values_of fs ≡ after_take quantity (values_of es))
  with_best_left [] fs k key r w quantity are e f less is g = absurd (cc)
  with_best_left (x ∷ es) fs k key r w quantity are e f less is g =
      let k-is : x.0 ≡ k = let same : x ≡ (k, r) = cc in ap (λ (y : Rank × Resting). y.0) same in
      let r-is : x.1 ≡ r = let same : x ≡ (k, r) = cc in ap (λ (y : Rank × Resting). y.1) same in
      let here = All-head (IsBookEntry side) x es are.each in
      let hit : is_at (rank_cmp key) x.0 ≡ true = rw (f ∙ sym k-is) (key-itself x.0) in
      let made : fs ≡ (x.0, w) ∷ es = g ∙ ap (λ (b : Bool). cond b ((x.0, w) ∷ es) (x ∷ set_value (is_at (rank_cmp key)) es w)) hit in
      let lesser : nat_lt quantity x.1.left ≡ true = rw r-is (lt-ltb quantity r.left less) in
      let w-is : w ≡ record x.1 { left = x.1.left - quantity } = is ∙ ap (λ (y : Resting). record y { left = y.left - quantity }) (sym r-is) in
      let left-is : x.1.left ≡ r.left = ap (λ (y : Resting). y.left) r-is in
      let entry : IsBookEntry side (x.0, w) = record {
        key = here.key ∙ ap (λ (x : Resting). rank_of side x.index x.limit) (sym w-is);
        held = rw w-is (record { positive = omega arith; priced = here.held.priced });
      } in (
        record {
          each = rw made (All-cons (IsBookEntry side) (x.0, w) es entry (All-tail (IsBookEntry side) x es are.each));
          rising = rw made are.rising;
        },
        ap values_of made ∙ ap (λ (y : Resting). y ∷ values_of es) w-is ∙ sym (ap (λ (b : Bool). cond b (record x.1 { left = x.1.left - quantity } ∷ values_of es) (values_of es)) lesser),
      )

  -- what is left without the first entry
  pub popped : (es fs : Es) (p : Rank × Resting) (quantity : ℕ) → AreBookEntries side es → es ≡ p ∷ fs → p.1.left ≤ quantity → AreBookEntries side fs × (values_of fs ≡ after_take quantity (values_of es))
  popped es fs p quantity are e over =
      let whole : AreBookEntries side (p ∷ fs) = subst (AreBookEntries side) e are in
      let none : nat_lt quantity p.1.left ≡ false = le-ltb _ _ over in (
        record { each = All-tail (IsBookEntry side) p fs whole.each; rising = sorted_tail rank_cmp p.0 (keys_of fs) whole.rising },
        sym (ap (λ (ys : Es). after_take quantity (values_of ys)) e ∙ ap (λ (b : Bool). cond b (record p.1 { left = p.1.left - quantity } ∷ values_of fs) (values_of fs)) none),
      )

  -- the same, in the words of the code
  pub popped-first : (es fs : Es) (k : Rank) (r : Resting) (o : Option (Rank × Resting)) (quantity : ℕ) → AreBookEntries side es → slice_get es 0 ≡ Some (k, r) → (0 < length es → IsSome o) → IfSome o (λ p. es ≡ p ∷ fs) → r.left ≤ quantity
      → AreBookEntries side fs × (values_of fs ≡ after_take quantity (values_of es))
  popped-first [] fs k r o quantity are e some removal over = absurd (cc)
  popped-first (x ∷ es) fs k r None quantity are e some removal over =
      let h : IsSome {T = Rank × Resting} None = some (omega arith) in
      absurd (cc)
  popped-first (x ∷ es) fs k r (Some p) quantity are e some removal over =
      let same : x ≡ (k, r) = cc in
      let is : x ≡ p = cc in
      let left-is : p.1.left ≡ r.left = ap (λ (y : Rank × Resting). y.1.left) (sym is ∙ same) in
      popped (x ∷ es) fs p quantity are removal (omega arith)
