-- Ids that rise: none of them is there twice, and one that is asked for is found by halving.
use Rattle.std.proofs.Common.{◌≡◌, ◌<◌, ◌≤◌, ◌+◌, ◌-◌, ◌∙◌, ◌⊎◌, ℕ, zero, suc, Bool, true, false, Option, Some, None, List, [], ◌∷◌, ◌++◌, length, get_or, take, drop, refl, sym, ap, subst, arith, inl, inr, All, Result, Ok, Err, OnOk, OnErr}
use Rattle.std.specs.Prelude.{if◌then◌else◌, slice_get, unwrap_or}
use Rattle.std.specs.Option.{option_or}
use Rattle.std.specs.Ordering.{nat_cmp, ordering_then, is_lt, MatchOrdering, ordering_index}
use Rattle.std.specs.Cmp.{IsTotalOrder}
use Rattle.std.specs.Cmp.Lexicographic.{slice_cmp}
use Rattle.std.specs.List.Sorted.{IsBinarySearchResult, IsNonDecreasingBy}
use Rattle.std.specs.declared.cmp.Ordering.{Ordering}
use Rattle.std.specs.declared.cmp.Ordering.TheVariants.{Less, Equal, Greater}
use Rattle.std.proofs.lemmas.Bool.{cases_lt, and_parts, and_from, false_from_ne_true, false≢true}
use Rattle.std.proofs.lemmas.Cmp.{ranked, nat_cmp_total, nat_list_cmp_total, on_total, then_total, tied_itself}
use Rattle.std.proofs.lemmas.List.{get_or_append_left, get_or_push, length_push, get_or-map, length-append, length-drop, length-map, map-append, take-append-le, drop-append-le, take_all}
use Rattle.std.proofs.Math.Seq.{drop-append_seam}
use Rattle.std.proofs.lemmas.Option.{slice_get-get_or}
use Rattle.std.proofs.lemmas.List.Elements.{All-weaker, All-head, All-tail, All-push}
use Rattle.std.proofs.lemmas.List.Folds.{list_all-append, list_all_at}
use Rattle.std.proofs.lemmas.List.Sorted.{IsNonDecreasingBy-from_default}
use Rattle.std.proofs.lemmas.Slice.Eq.{bytes_eq-Decides}
use Rattle.audit_base.specs.Orders.{same_name}
use Rattle.matching_core.specs.declared.rising_ids.RisingId.{RisingId}
use Rattle.matching_core.specs.IdOrder.{compare_ids, is_above_ids, rising_place_of_id}
use Rattle.matching_core.specs.RisingIds.{id_text, ids_with_places, id_at, AreRisingIds, IsIdInside}

-- The order.

pub ids_total : IsTotalOrder compare_ids
ids_total = then_total (on_total length nat_cmp_total) nat_list_cmp_total

same-bytes : (a b : List ℕ) → slice_cmp nat_cmp a b ≡ Equal → a ≡ b
same-bytes [] [] e = refl
same-bytes [] (y ∷ ys) e = absurd (cc)
same-bytes (x ∷ xs) [] e = absurd (cc)
same-bytes (x ∷ xs) (y ∷ ys) e = go (nat_cmp x y) (ranked x y (nat_cmp x y) refl) (same-bytes xs ys) e
  where
    go : (o : Ordering) → MatchOrdering o (x < y) (x ≡ y) (y < x) → (slice_cmp nat_cmp xs ys ≡ Equal → xs ≡ ys) → ordering_then o (slice_cmp nat_cmp xs ys) ≡ Equal → x ∷ xs ≡ y ∷ ys
    go Less m rest tie = absurd (cc)
    go Equal m rest tie = λ i. m i ∷ rest tie i
    go Greater m rest tie = absurd (cc)

same-id : (a b : List ℕ) → compare_ids a b ≡ Equal → a ≡ b
same-id a b e = go (nat_cmp (length a) (length b)) e
  where
    go : (o : Ordering) → ordering_then o (slice_cmp nat_cmp a b) ≡ Equal → a ≡ b
    go Less tie = absurd (cc)
    go Equal tie = same-bytes a b tie
    go Greater tie = absurd (cc)

not-both : (o : Ordering) → o ≡ Less → o ≡ Equal → ⊥
not-both Less e f = cc
not-both Equal e f = cc
not-both Greater e f = cc

less-differs : (a b : List ℕ) → compare_ids a b ≡ Less → a ≡ b → ⊥
less-differs a b less e = not-both (compare_ids b b) (subst (λ x. compare_ids x b ≡ Less) e less) (tied_itself ids_total b)

more-differs : (a b : List ℕ) → compare_ids a b ≡ Greater → a ≡ b → ⊥
more-differs a b more e = go (compare_ids b b) (subst (λ x. compare_ids x b ≡ Greater) e more) (tied_itself ids_total b)
  where
    go : (o : Ordering) → o ≡ Greater → o ≡ Equal → ⊥
    go Less x y = cc
    go Equal x y = cc
    go Greater x y = cc

is-less : (o : Ordering) → is_lt o ≡ true → o ≡ Less
is-less Less e = refl
is-less Equal e = absurd (cc)
is-less Greater e = absurd (cc)

differ : (a b : List ℕ) → (a ≡ b → ⊥) → same_name a b ≡ false
differ a b f = false_from_ne_true _ (λ e. f ((bytes_eq-Decides a b).0 e))

-- The place of an id in a list.

pub place-none : (es : List (List ℕ × ℕ)) (id : List ℕ) → ((k : ℕ) → k < length es → id_at es k ≡ id → ⊥) → rising_place_of_id es id ≡ None
place-none [] id f = refl
place-none (e ∷ es) id f = rw (differ e.0 id (f 0 (omega arith))) (place-none es id (λ k lt. f (suc k) (omega (arith, lt))))

pub place-at : (es : List (List ℕ × ℕ)) (id : List ℕ) (i : ℕ) → i < length es → id_at es i ≡ id → ((k : ℕ) → k < i → id_at es k ≡ id → ⊥) → rising_place_of_id es id ≡ Some (get_or es i ([], 0)).1
place-at [] id i lt is f = absurd (omega (arith, lt))
place-at (e ∷ es) id zero lt is f = rw ((bytes_eq-Decides e.0 id).1 is) refl
place-at (e ∷ es) id (suc i) lt is f = rw (differ e.0 id (f 0 (omega arith))) (place-at es id i (omega (arith, lt)) is (λ k below. f (suc k) (omega (arith, below))))

place-push : (es : List (List ℕ × ℕ)) (e : List ℕ × ℕ) (id : List ℕ) → rising_place_of_id (es ++ e ∷ []) id ≡ option_or (rising_place_of_id es id) (if same_name e.0 id then Some e.1 else None)
place-push [] e id = refl
place-push (x ∷ es) e id = go (same_name x.0 id) (place-push es e id)
  where
    go : (b : Bool) → rising_place_of_id (es ++ e ∷ []) id ≡ option_or (rising_place_of_id es id) (if same_name e.0 id then Some e.1 else None)
        → (if b then Some x.1 else rising_place_of_id (es ++ e ∷ []) id) ≡ option_or (if b then Some x.1 else rising_place_of_id es id) (if same_name e.0 id then Some e.1 else None)
    go true rest = refl
    go false rest = rest

above-none : (es : List (List ℕ × ℕ)) (id : List ℕ) → is_above_ids es id ≡ true → rising_place_of_id es id ≡ None
above-none [] id h = refl
above-none (e ∷ es) id h =
    let parts = and_parts (is_lt (compare_ids e.0 id)) (is_above_ids es id) h in
    rw (differ e.0 id (less-differs e.0 id (is-less (compare_ids e.0 id) parts.0))) (above-none es id parts.1)

-- Above all.

pub above-front : (es : List (List ℕ × ℕ)) (e : List ℕ × ℕ) (id : List ℕ) → is_above_ids (es ++ e ∷ []) id ≡ true → is_above_ids es id ≡ true
above-front es e id h =
    (and_parts (is_above_ids es id) (is_above_ids (e ∷ []) id) (sym (list_all-append (λ (x : List ℕ × ℕ). is_lt (compare_ids x.0 id)) es (e ∷ [])) ∙ h)).0

above-each : (es : List (List ℕ × ℕ)) (id : List ℕ) → is_above_ids es id ≡ true → (i : ℕ) → i < length es → compare_ids (id_at es i) id ≡ Less
above-each [] id h i lt = absurd (omega (arith, lt))
above-each (e ∷ es) id h zero lt = is-less (compare_ids e.0 id) (and_parts (is_lt (compare_ids e.0 id)) (is_above_ids es id) h).0
above-each (e ∷ es) id h (suc i) lt = above-each es id (and_parts (is_lt (compare_ids e.0 id)) (is_above_ids es id) h).1 i (omega (arith, lt))

above-all : (es : List (List ℕ × ℕ)) (id : List ℕ) → ((i : ℕ) → i < length es → compare_ids (id_at es i) id ≡ Less) → is_above_ids es id ≡ true
above-all [] id f = refl
above-all (e ∷ es) id f = and_from (is_lt (compare_ids e.0 id)) (is_above_ids es id) (ap is_lt (f 0 (omega arith))) (above-all es id (λ i lt. f (suc i) (omega (arith, lt))))

-- ids that rise are all below one that is above their last
pub above-last : (es : List (List ℕ × ℕ)) (id : List ℕ) (last : ℕ) → AreRisingIds es → last + 1 ≡ length es → is_above_ids es id ≡ is_lt (compare_ids (id_at es last) id)
above-last es id last rises is = go (is_lt (compare_ids (id_at es last) id)) refl
  where
    each : compare_ids (id_at es last) id ≡ Less → (i : ℕ) → (i < last) ⊎ (last ≤ i) → i ≤ last → compare_ids (id_at es i) id ≡ Less
    each less i (inl before) le = ids_total.trans (id_at es i) (id_at es last) id (rises i last before (omega (arith, is))) less
    each less i (inr behind) le = subst (λ k. compare_ids (id_at es k) id ≡ Less) {x = last} (omega (arith, behind, le)) less

    go : (b : Bool) → is_lt (compare_ids (id_at es last) id) ≡ b → is_above_ids es id ≡ b
    go true e = above-all es id (λ i lt. each (is-less (compare_ids (id_at es last) id) e) i (cases_lt i last) (omega (arith, is, lt)))
    go false e = list_all_at (λ (x : List ℕ × ℕ). is_lt (compare_ids x.0 id)) es last ([], 0) (omega (arith, is)) e

-- one more that is above all
pub push-rises : (es : List (List ℕ × ℕ)) (id : List ℕ) (place : ℕ) → AreRisingIds es → is_above_ids es id ≡ true → AreRisingIds (es ++ (id, place) ∷ [])
push-rises es id place rises above i j lt in_range = go (cases_lt j (length es))
  where
    front : (k : ℕ) → k < length es → id_at es k ≡ id_at (es ++ (id, place) ∷ []) k
    front k below = sym (ap (λ (e : List ℕ × ℕ). e.0) (get_or_append_left es ((id, place) ∷ []) ([], 0) k below))

    go : (j < length es) ⊎ (length es ≤ j) → compare_ids (id_at (es ++ (id, place) ∷ []) i) (id_at (es ++ (id, place) ∷ []) j) ≡ Less
    go (inl below) = subst (λ x. compare_ids x (id_at (es ++ (id, place) ∷ []) j) ≡ Less) (front i (omega (arith, lt, below)))
        (subst (λ x. compare_ids (id_at es i) x ≡ Less) (front j below) (rises i j lt below))
    go (inr behind) =
        let own : length es ≡ j = omega (arith, behind, in_range, length_push es (id, place)) in
        subst (λ x. compare_ids x (id_at (es ++ (id, place) ∷ []) j) ≡ Less) (front i (omega (arith, lt, own)))
        (subst (λ x. compare_ids (id_at es i) x ≡ Less) (sym (ap (λ (e : List ℕ × ℕ). e.0) (get_or_push es (id, place) ([], 0) j own))) (above-each es id above i (omega (arith, lt, own))))

-- Where the bytes lie.

text-kept : (bytes more : List ℕ) (own : RisingId) → IsIdInside bytes own → id_text (bytes ++ more) own ≡ id_text bytes own
text-kept bytes more own inside =
    ap (take own.size) (drop-append-le own.start bytes more (omega (arith, inside)))
    ∙ take-append-le own.size (drop own.start bytes) more (omega (arith, inside, length-drop own.start bytes))

-- bytes after the others change no id
pub entries-kept : (bytes more : List ℕ) (ids : List RisingId) → All (IsIdInside bytes) ids → ids_with_places (bytes ++ more) ids ≡ ids_with_places bytes ids
entries-kept bytes more [] inside = refl
entries-kept bytes more (own ∷ ids) inside =
    let text = text-kept bytes more own (All-head (IsIdInside bytes) own ids inside) in
    let rest = entries-kept bytes more ids (All-tail (IsIdInside bytes) own ids inside) in
    λ i. (text i, own.place) ∷ rest i

pub inside-kept : (bytes more : List ℕ) (ids : List RisingId) → All (IsIdInside bytes) ids → All (IsIdInside (bytes ++ more)) ids
inside-kept bytes more ids inside =
    All-weaker (IsIdInside bytes) (IsIdInside (bytes ++ more)) (λ own in_bytes. omega (arith, in_bytes, length-append bytes more)) ids inside

-- the bytes of one id more, after the others
new-text : (bytes text : List ℕ) → take (length text) (drop (length bytes) (bytes ++ text)) ≡ text
new-text bytes text = ap (take (length text)) (drop-append_seam bytes text) ∙ take_all (length text) text (omega arith)

pub inside-push : (bytes text : List ℕ) (ids : List RisingId) (own : RisingId) → own.start ≡ length bytes → own.size ≡ length text → All (IsIdInside bytes) ids → All (IsIdInside (bytes ++ text)) (ids ++ own ∷ [])
inside-push bytes text ids own start size inside =
    All-push (IsIdInside (bytes ++ text)) ids own (inside-kept bytes text ids inside) (omega (arith, start, size, length-append bytes text))

pub entries-push : (bytes text : List ℕ) (ids : List RisingId) (own : RisingId) → own.start ≡ length bytes → own.size ≡ length text → All (IsIdInside bytes) ids
    → ids_with_places (bytes ++ text) (ids ++ own ∷ []) ≡ ids_with_places bytes ids ++ (text, own.place) ∷ []
entries-push bytes text ids own start size inside =
    let here : id_text (bytes ++ text) own ≡ text = (λ i. take (size i) (drop (start i) (bytes ++ text))) ∙ new-text bytes text in
    map-append (λ own. (id_text (bytes ++ text) own, own.place)) ids (own ∷ [])
    ∙ (λ i. entries-kept bytes text ids inside i ++ (here i, own.place) ∷ [])

-- What halving finds.

not-more : (o : Ordering) → o ≡ Less → o ≡ Greater → ⊥
not-more Less e f = cc
not-more Equal e f = cc
not-more Greater e f = cc

index-rises : (a b id : List ℕ) → compare_ids a b ≡ Less → ordering_index (compare_ids a id) ≤ ordering_index (compare_ids b id)
index-rises a b id less = go (compare_ids a id) (compare_ids b id) refl refl
  where
    go : (x y : Ordering) → compare_ids a id ≡ x → compare_ids b id ≡ y → ordering_index x ≤ ordering_index y
    go Less y e f = omega arith
    go Equal Less e f = absurd (not-both (compare_ids a id) (ids_total.trans a b id less f) e)
    go Equal Equal e f = omega arith
    go Equal Greater e f = omega arith
    go Greater Less e f = absurd (not-more (compare_ids a id) (ids_total.trans a b id less f) e)
    go Greater Equal e f = absurd (not-more (compare_ids a id) (subst (λ x. compare_ids a x ≡ Less) (same-id b id f) less) e)
    go Greater Greater e f = omega arith

abbrev pub any_id : RisingId
any_id = record { start = 0; place = 0; size = 0 }

module _ (bytes : List ℕ) (ids : List RisingId) (id : List ℕ) (rises : AreRisingIds (ids_with_places bytes ids)) where
  abbrev entry : RisingId → List ℕ × ℕ
  entry own = (id_text bytes own, own.place)

  text-at : (i : ℕ) (d : RisingId) → i < length ids → id_at (ids_with_places bytes ids) i ≡ id_text bytes (get_or ids i d)
  text-at i d lt = ap (λ (e : List ℕ × ℕ). e.0) (get_or-map entry ids i d ([], 0) lt)

  in-order : (i j : ℕ) (d : RisingId) → i < j → j < length ids → compare_ids (id_text bytes (get_or ids i d)) (id_text bytes (get_or ids j d)) ≡ Less
  in-order i j d lt in_range =
      subst (λ x. compare_ids x (id_text bytes (get_or ids j d)) ≡ Less) (text-at i d (omega (arith, lt, in_range)))
      (subst (λ x. compare_ids (id_at (ids_with_places bytes ids) i) x ≡ Less) (text-at j d in_range)
      (rises i j lt (omega (arith, in_range, length-map ids entry))))

  answers-rise : IsNonDecreasingBy (λ own. ordering_index (compare_ids (id_text bytes own) id)) ids
  answers-rise = IsNonDecreasingBy-from_default (λ own. ordering_index (compare_ids (id_text bytes own) id)) ids any_id (λ i j le lt. elim (cases_lt i j) [
    | inl before ↦ index-rises (id_text bytes (get_or ids i any_id)) (id_text bytes (get_or ids j any_id)) id (in-order i j any_id before lt)
    | inr behind ↦
        let same : i ≡ j = omega (arith, le, behind) in
        let equal = ap (λ k. ordering_index (compare_ids (id_text bytes (get_or ids k any_id)) id)) same in
        omega (arith, equal)
  ])

  pub found-at : (i : ℕ) (d : RisingId) → i < length ids → compare_ids (id_text bytes (get_or ids i d)) id ≡ Equal → rising_place_of_id (ids_with_places bytes ids) id ≡ Some (get_or ids i d).place
  found-at i d lt equal =
      let own : id_at (ids_with_places bytes ids) i ≡ id = text-at i d lt ∙ same-id (id_text bytes (get_or ids i d)) id equal in
      let in_range : i < length (ids_with_places bytes ids) = omega (arith, lt, length-map ids entry) in
      place-at (ids_with_places bytes ids) id i in_range own (λ k below same. less-differs (id_at (ids_with_places bytes ids) k) (id_at (ids_with_places bytes ids) i) (rises k i below in_range) (same ∙ sym own))
      ∙ ap (λ (e : List ℕ × ℕ). Some e.1) (get_or-map entry ids i d ([], 0) lt)

  pub found-none : (i : ℕ) → i ≤ length ids → IsBinarySearchResult (λ own. compare_ids (id_text bytes own) id) ids (Err i) → rising_place_of_id (ids_with_places bytes ids) id ≡ None
  found-none i le searched =
      let parted = searched answers-rise in
      place-none (ids_with_places bytes ids) id (λ k in_range same.
      let lt : k < length ids = omega (arith, in_range, length-map ids entry) in
      let own : id_text bytes (get_or ids k any_id) ≡ id = sym (text-at k any_id lt) ∙ same in
      elim (cases_lt k i) [
        | inl before ↦ less-differs (id_text bytes (get_or ids k any_id)) id (parted.0 k any_id (omega arith) before) own
        | inr behind ↦ more-differs (id_text bytes (get_or ids k any_id)) id (parted.1 k any_id behind lt) own
      ])

-- One more id, above all or among the others.

pub adds-rising : (mapped : List ℕ → Option ℕ) (es : List (List ℕ × ℕ)) (id : List ℕ) (place : ℕ) → is_above_ids es id ≡ true → mapped id ≡ None
    → (other : List ℕ) → option_or (mapped other) (rising_place_of_id (es ++ (id, place) ∷ []) other) ≡ (if same_name id other then Some place else option_or (mapped other) (rising_place_of_id es other))
adds-rising mapped es id place above new other =
    ap (option_or (mapped other)) (place-push es (id, place) other) ∙ go (same_name id other) refl
  where
    go : (b : Bool) → same_name id other ≡ b → option_or (mapped other) (option_or (rising_place_of_id es other) (if b then Some place else None)) ≡ (if b then Some place else option_or (mapped other) (rising_place_of_id es other))
    go true e =
        let same : id ≡ other = (bytes_eq-Decides id other).0 e in
        let unmapped : mapped other ≡ None = ap mapped (sym same) ∙ new in
        let absent : rising_place_of_id es other ≡ None = ap (rising_place_of_id es) (sym same) ∙ above-none es id above in
        λ i. option_or (unmapped i) (option_or (absent i) (Some place))
    go false e = ap (option_or (mapped other)) (without (rising_place_of_id es other))
      where
        without : (o : Option ℕ) → option_or o None ≡ o
        without None = refl
        without (Some x) = refl

abbrev Adds : (old new : List ℕ → Option ℕ) (id : List ℕ) (place : ℕ) → Type 0
Adds old new id place = (other : List ℕ) → new other ≡ (if same_name id other then Some place else old other)

pub adds-mapped : (old new : List ℕ → Option ℕ) (es : List (List ℕ × ℕ)) (id : List ℕ) (place : ℕ) → Adds old new id place
    → (other : List ℕ) → option_or (new other) (rising_place_of_id es other) ≡ (if same_name id other then Some place else option_or (old other) (rising_place_of_id es other))
adds-mapped old new es id place adds other = ap (λ o. option_or o (rising_place_of_id es other)) (adds other) ∙ go (same_name id other)
  where
    go : (b : Bool) → option_or (if b then Some place else old other) (rising_place_of_id es other) ≡ (if b then Some place else option_or (old other) (rising_place_of_id es other))
    go true = refl
    go false = refl

-- what is not above all may be looked up beside what is
pub apart-mapped : (old new : List ℕ → Option ℕ) (es : List (List ℕ × ℕ)) (id : List ℕ) (place : ℕ) → is_above_ids es id ≡ false → Adds old new id place
    → ((other : List ℕ) → is_above_ids es other ≡ true → old other ≡ None) → (other : List ℕ) → is_above_ids es other ≡ true → new other ≡ None
apart-mapped old new es id place among adds apart other above =
    let off : same_name id other ≡ false = differ id other (λ same. false≢true (sym among ∙ ap (is_above_ids es) same ∙ above)) in
    adds other ∙ ap (λ (b : Bool). if b then Some place else old other) off ∙ apart other above

pub above-new : (es : List (List ℕ × ℕ)) (mapped : List ℕ → Option ℕ) (id : List ℕ) → is_above_ids es id ≡ true → mapped id ≡ None → option_or (mapped id) (rising_place_of_id es id) ≡ None
above-new es mapped id above new = λ i. option_or (new i) (above-none es id above i)

-- In the words of the code.

last-is : (ids : List RisingId) (own : RisingId) → slice_get ids (length ids - 1) ≡ Some own → (length ids - 1 + 1 ≡ length ids) × (get_or ids (length ids - 1) own ≡ own)
last-is [] own e = absurd (cc)
last-is (x ∷ rest) own e = (omega arith, ap (λ o. unwrap_or o own) (sym (slice_get-get_or (x ∷ rest) (length (x ∷ rest) - 1) own (omega arith)) ∙ e))

pub above-by-last : (bytes : List ℕ) (ids : List RisingId) (own : RisingId) (id : List ℕ) → AreRisingIds (ids_with_places bytes ids) → slice_get ids (length ids - 1) ≡ Some own
    → is_above_ids (ids_with_places bytes ids) id ≡ is_lt (compare_ids (id_text bytes own) id)
above-by-last bytes ids own id rises at =
    let last = last-is ids own at in
    let entry : RisingId → List ℕ × ℕ = λ own. (id_text bytes own, own.place) in
    let text : id_at (ids_with_places bytes ids) (length ids - 1) ≡ id_text bytes own =
    ap (λ (e : List ℕ × ℕ). e.0) (get_or-map entry ids (length ids - 1) own ([], 0) (omega (arith, last.0))) ∙ ap (id_text bytes) last.1 in
    above-last (ids_with_places bytes ids) id (length ids - 1) rises (last.0 ∙ sym (length-map ids entry)) ∙ ap (λ x. is_lt (compare_ids x id)) text

-- a row that was added to, or stayed as it was
pub rises-after : {T E : Type 0} (old new : List (List ℕ × ℕ)) (id : List ℕ) (place : ℕ) (r : Result T E) → AreRisingIds old → is_above_ids old id ≡ true
    → OnOk r (new ≡ old ++ (id, place) ∷ []) → OnErr r (new ≡ old) → AreRisingIds new
rises-after old new id place (Ok x) rises above more stays = subst AreRisingIds (sym more) (push-rises old id place rises above)
rises-after old new id place (Err e) rises above more stays = subst AreRisingIds (sym stays) rises

pub after-err : {T E P : Type 0} (r : Result T E) → P → OnErr r P
after-err (Ok x) p = tt
after-err (Err e) p = p
