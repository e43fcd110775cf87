-- Fields that are compared with names one by one.
use Rattle.std.proofs.Common.{◌≡◌, ℕ, zero, suc, ◌<◌, ◌≤◌, ◌==◌, ◌-◌, true, false, List, [], ◌∷◌, length, get_or, map, None, Some, refl, sym, ap, subst, ◌∙◌, inl, inr, arith}
use Rattle.std.specs.Borrow.{Bor}
use Rattle.std.specs.Cmp.Lexicographic.{pointwise}
use Rattle.std.proofs.lemmas.Bool.{cases_Bool, and_parts, and_from, and_left, and_right, eqb-true, eq-eqb}
use Rattle.csv.specs.Records.{field_at}
use Rattle.audit_base.specs.Names.{is_name_byte}
use Rattle.csv_logs.specs.Columns.{column_text}
use Rattle.csv_logs.specs.Logs.{same_fields}
use Rattle.std.specs.List.{list_all}
use Rattle.std.specs.Prelude.{unwrap_or}

pub bytes-same : (xs ys : List ℕ) → pointwise ◌==◌ xs ys ≡ true → xs ≡ ys
bytes-same [] [] e = refl
bytes-same [] (y ∷ ys) e = absurd (cc e)
bytes-same (x ∷ xs) [] e = absurd (cc e)
bytes-same (x ∷ xs) (y ∷ ys) e =
    let p = and_parts (x == y) (pointwise ◌==◌ xs ys) e in
    let first : x ≡ y = eqb-true x y p.0 in
    let rest : xs ≡ ys = bytes-same xs ys p.1 in
    λ i. first i ∷ rest i

pub bytes-equal : (xs : List ℕ) → pointwise ◌==◌ xs xs ≡ true
bytes-equal [] = refl
bytes-equal (x ∷ xs) = and_from (x == x) (pointwise ◌==◌ xs xs) (eq-eqb x x refl) (bytes-equal xs)

pub fields-equal : (fields : List (List ℕ)) → same_fields fields fields ≡ true
fields-equal [] = refl
fields-equal (field ∷ fields) = and_from (pointwise ◌==◌ field field) (same_fields fields fields) (bytes-equal field) (fields-equal fields)

pub fields-same : (fields names : List (List ℕ)) → same_fields fields names ≡ true → fields ≡ names
fields-same [] [] e = refl
fields-same [] (name ∷ names) e = absurd (cc e)
fields-same (field ∷ fields) [] e = absurd (cc e)
fields-same (field ∷ fields) (name ∷ names) e =
    let p = and_parts (pointwise ◌==◌ field name) (same_fields fields names) e in
    let first : field ≡ name = bytes-same field name p.0 in
    let rest : fields ≡ names = fields-same fields names p.1 in
    λ i. first i ∷ rest i

abbrev now_of : Bor (List ℕ) → List ℕ
now_of name = name.now

-- fields that are the names at each place
pub names-same : (fields : List (List ℕ)) (names : List (Bor (List ℕ))) → length fields ≡ length names
    → ((k : ℕ) (d : Bor (List ℕ)) → k < length names → field_at fields k ≡ Some (get_or names k d).now) → true ≡ same_fields fields (map (λ name. name.now) names)
unfolding field_at
names-same [] [] size each = refl
names-same [] (name ∷ names) size each = absurd (omega (arith, size))
names-same (field ∷ fields) [] size each = absurd (omega (arith, size))
names-same (field ∷ fields) (name ∷ names) size each =
    let here : field ≡ name.now = cc (each zero name (omega arith)) in
    let later = names-same fields names (omega (arith, size)) (λ k d h. each (suc k) d (omega (arith, h))) in
    sym (and_from (pointwise ◌==◌ field name.now) (same_fields fields (map (λ name. name.now) names)) (subst (λ (t : List ℕ). pointwise ◌==◌ field t ≡ true) here (bytes-equal field)) (sym later))

-- fields that are not the name at some place
pub names-differ : (fields : List (List ℕ)) (names : List (Bor (List ℕ))) (k : ℕ) (d : Bor (List ℕ)) → k < length names
    → (field_at fields k ≡ Some (get_or names k d).now → ⊥) → false ≡ same_fields fields (map (λ name. name.now) names)
unfolding field_at
names-differ [] [] k d h differ = absurd (omega (arith, h))
names-differ [] (name ∷ names) k d h differ = refl
names-differ (field ∷ fields) [] k d h differ = absurd (omega (arith, h))
names-differ (field ∷ fields) (name ∷ names) zero d h differ = elim (cases_Bool (pointwise ◌==◌ field name.now)) [
  | inl same ↦ absurd (differ (ap (λ (t : List ℕ). Some t) (bytes-same field name.now same)))
  | inr other ↦ sym (and_left (pointwise ◌==◌ field name.now) (same_fields fields (map (λ name. name.now) names)) other)
]
names-differ (field ∷ fields) (name ∷ names) (suc k) d h differ =
    sym (and_right (pointwise ◌==◌ field name.now) (same_fields fields (map (λ name. name.now) names)) (sym (names-differ fields names k d (omega (arith, h)) differ)))

-- the text of a column holds bytes of names where all fields do
field-names : (fields : List (List ℕ)) (i : ℕ) → list_all (list_all is_name_byte) fields ≡ true → list_all is_name_byte (unwrap_or (field_at fields i) []) ≡ true
unfolding field_at
field-names [] i all = refl
field-names (field ∷ fields) zero all = (and_parts (list_all is_name_byte field) (list_all (list_all is_name_byte) fields) all).0
field-names (field ∷ fields) (suc i) all = field-names fields i (and_parts (list_all is_name_byte field) (list_all (list_all is_name_byte) fields) all).1

pub column-names : (number : ℕ) (fields : List (List ℕ)) (text : List ℕ) → list_all (list_all is_name_byte) fields ≡ true → text ≡ column_text number fields → list_all is_name_byte text ≡ true
column-names number fields text all is = ap (list_all is_name_byte) is ∙ field-names fields (number - 1) all

-- a list of nine fields is the list of what is at its nine places
pub nine-texts : (fields : List (List ℕ)) → length fields ≡ 9 → map (λ i. unwrap_or (field_at fields i) []) (0 ∷ 1 ∷ 2 ∷ 3 ∷ 4 ∷ 5 ∷ 6 ∷ 7 ∷ 8 ∷ []) ≡ fields
unfolding field_at
nine-texts [] e = absurd (omega (arith, e))
nine-texts (a ∷ []) e = absurd (omega (arith, e))
nine-texts (a ∷ b ∷ []) e = absurd (omega (arith, e))
nine-texts (a ∷ b ∷ c ∷ []) e = absurd (omega (arith, e))
nine-texts (a ∷ b ∷ c ∷ d ∷ []) e = absurd (omega (arith, e))
nine-texts (a ∷ b ∷ c ∷ d ∷ f ∷ []) e = absurd (omega (arith, e))
nine-texts (a ∷ b ∷ c ∷ d ∷ f ∷ g ∷ []) e = absurd (omega (arith, e))
nine-texts (a ∷ b ∷ c ∷ d ∷ f ∷ g ∷ h ∷ []) e = absurd (omega (arith, e))
nine-texts (a ∷ b ∷ c ∷ d ∷ f ∷ g ∷ h ∷ i ∷ []) e = absurd (omega (arith, e))
nine-texts (a ∷ b ∷ c ∷ d ∷ f ∷ g ∷ h ∷ i ∷ j ∷ []) e = refl
nine-texts (a ∷ b ∷ c ∷ d ∷ f ∷ g ∷ h ∷ i ∷ j ∷ k ∷ rest) e = absurd (omega (arith, e))

-- the text at a place of some texts
pub text-at : (texts : List (Bor (List ℕ))) (i : ℕ) (d : Bor (List ℕ)) → i < length texts → Some (get_or texts i d).now ≡ field_at (map (λ text. text.now) texts) i
unfolding field_at
text-at [] i d h = absurd (omega (arith, h))
text-at (text ∷ texts) zero d h = refl
text-at (text ∷ texts) (suc i) d h = text-at texts i d (omega (arith, h))

pub text-none : (texts : List (Bor (List ℕ))) (i : ℕ) → length texts ≤ i → None ≡ field_at (map (λ text. text.now) texts) i
unfolding field_at
text-none [] i h = refl
text-none (text ∷ texts) zero h = absurd (omega (arith, h))
text-none (text ∷ texts) (suc i) h = text-none texts i (omega (arith, h))
