-- Where a byte is first, and what is before it.
use Rattle.std.proofs.Common.{◌≡◌, ◌≢◌, ℕ, ◌+◌, ◌<◌, ◌≤◌, Bool, true, false, cond, ltb, min, Some, None, List, [], ◌∷◌, ◌++◌, length, get_or, take, drop, ap, subst, sym, refl, ◌∙◌, arith, rules}
use Rattle.std.specs.List.{All, position, position_or_len}
use Rattle.std.proofs.lemmas.Bool.Decides.{nat_tests}
use Rattle.std.proofs.lemmas.List.{take-append-drop, drop_more, get_or_at, get_or-take, length-take, length-take-le, length-append}
use Rattle.std.proofs.lemmas.List.Elements.{All-head, All-tail, All-from_get_or}
use Rattle.std.proofs.lemmas.List.Sums.{fails_before_first, passes_at_first}
use Rattle.memchr.specs.Find.{Nowhere, Passes, is_byte}
use Rattle.fix_fields.specs.FieldAt.{is_equals_sign}

-- a list is what is before a place, the element there, and what is after it
pub split_at : (b : ℕ) (bytes : List ℕ) (k : ℕ) → k < length bytes → get_or bytes k 0 ≡ b → bytes ≡ take k bytes ++ b ∷ drop (k + 1) bytes
split_at b bytes k low is =
    sym (take-append-drop k bytes) ∙ ap (λ r. take k bytes ++ r) (drop_more bytes k 0 low ∙ ap (λ x. x ∷ drop (k + 1) bytes) is)

-- where a byte was sought and not found before a place, it isn't there
pub none_before : (b : ℕ) (bytes : List ℕ) (k : ℕ) → k ≤ length bytes → Nowhere (Passes (is_byte b) bytes) 0 k → All (λ x. x ≢ b) (take k bytes)
none_before b bytes k high none =
    All-from_get_or (λ x. x ≢ b) (take k bytes) 0 (λ i low is.
    let size : length (take k bytes) ≡ k = length-take-le k bytes high in
    let below : i < k = omega arith in none i (omega arith) below (rw (sym (get_or-take k bytes i 0 below) ∙ is) (search (rules, nat_tests))))

-- where a byte isn't found, the list isn't one with it
pub absent : (b : ℕ) (bytes : List ℕ) → Nowhere (Passes (is_byte b) bytes) 0 (length bytes) → (front more : List ℕ) → bytes ≢ front ++ b ∷ more
absent b bytes none front more is =
    let size : length bytes ≡ length front + length (b ∷ more) = ap length is ∙ length-append front (b ∷ more) in
    let here : get_or bytes (length front) 0 ≡ b = ap (λ l. get_or l (length front) 0) is ∙ get_or_at front b more 0 (length front) refl in
    none (length front) (omega arith) (omega arith) (rw here (search (rules, nat_tests)))

-- two lists that go up to the same byte, which neither holds before, go up to it at the same place
pub same_until : (b : ℕ) (xs ys : List ℕ) (x y : List ℕ) → All (λ a. a ≢ b) xs → All (λ a. a ≢ b) ys → xs ++ b ∷ x ≡ ys ++ b ∷ y → (xs ≡ ys) × (x ≡ y)
same_until b [] [] x y p q e = (refl, cc)
same_until b [] (c ∷ ys) x y p q e =
    let h : c ≢ b = All-head (λ a. a ≢ b) c ys q in absurd (h (cc))
same_until b (c ∷ xs) [] x y p q e =
    let h : c ≢ b = All-head (λ a. a ≢ b) c xs p in absurd (h (cc))
same_until b (c ∷ xs) (d ∷ ys) x y p q e =
    let t : xs ++ b ∷ x ≡ ys ++ b ∷ y = cc in
    let r = same_until b xs ys x y (All-tail (λ a. a ≢ b) c xs p) (All-tail (λ a. a ≢ b) d ys q) t in
    let h : c ≡ d = cc in
    let s : xs ≡ ys = r.0 in (cc, r.1)

-- what the test for a byte says
pub is_there : (b : ℕ) (bytes : List ℕ) (k : ℕ) → Passes (is_byte b) bytes k → get_or bytes k 0 ≡ b
is_there b bytes k h = grind (arith, nat_tests)

-- a number that a test chooses, read back
pub chosen_number : (b : Bool) (x y : ℕ) → cond b (Some x) None ≡ Some y → (b ≡ true) × (x ≡ y)
chosen_number true x y h = (refl, cc)
chosen_number false x y h = (cc)

not_chosen : (b : Bool) (x : ℕ) → cond b (Some x) None ≡ None → b ≡ false
not_chosen true x h = (cc)
not_chosen false x h = refl

-- what `position` says
pub first_is : {X : Type 0} (p : X → Bool) (xs : List X) (i : ℕ) → position p xs ≡ Some i → (position_or_len p xs < length xs) × (position_or_len p xs ≡ i)
first_is p xs i h =
    let c = chosen_number (ltb (position_or_len p xs) (length xs)) (position_or_len p xs) i h in (grind (arith, nat_tests, c.0), c.1)

-- the first `=` among the first ten bytes, by where it is in all of them
pub record FirstEquals (bytes : List ℕ) (size : ℕ) : Type 0 where
  pub low : size < length bytes
  pub ten : size < 10
  pub here : get_or bytes size 0 ≡ 61
  pub before : All (λ b. b ≢ 61) (take size bytes)

pub first_equals : (bytes : List ℕ) (size : ℕ) → position is_equals_sign (take 10 bytes) ≡ Some size → FirstEquals bytes size
first_equals bytes size h =
    let front : List ℕ = take 10 bytes in
    let first = first_is is_equals_sign front size h in
    let n : ℕ = position_or_len is_equals_sign front in
    let below : n < length front = first.0 in
    let same : n ≡ size = first.1 in
    let long : length front ≡ min 10 (length bytes) = length-take 10 bytes in
    let ten : n < 10 = omega arith in
    let low : n < length bytes = omega arith in
    let at_n : get_or front n 0 ≡ get_or bytes n 0 = get_or-take 10 bytes n 0 ten in
    let passes : is_equals_sign (get_or front n 0) ≡ true = passes_at_first is_equals_sign front 0 below in
    let sixty_one : get_or front n 0 ≡ 61 = grind (arith, nat_tests, passes) in
    let cut : length (take n bytes) ≡ n = length-take-le n bytes (omega arith) in
    let none : All (λ b. b ≢ 61) (take n bytes) =
    All-from_get_or (λ b. b ≢ 61) (take n bytes) 0 (λ k high is.
    let under : k < n = omega arith in
    let fails : is_equals_sign (get_or front k 0) ≡ false = fails_before_first is_equals_sign front k 0 under in
    let there : get_or front k 0 ≡ 61 = get_or-take 10 bytes k 0 (omega arith) ∙ sym (get_or-take n bytes k 0 under) ∙ is in
    grind (arith, nat_tests, fails, there)) in
    let found : FirstEquals bytes n = record { low = low; ten = ten; here = sym at_n ∙ sixty_one; before = none } in
    subst (λ (k : ℕ). FirstEquals bytes k) same found

-- an `=` among the first ten bytes is found
pub equals_is_found : (bytes : List ℕ) (k : ℕ) → position is_equals_sign (take 10 bytes) ≡ None → k < 10 → k < length bytes → get_or bytes k 0 ≡ 61 → ⊥
equals_is_found bytes k none ten low here =
    let front : List ℕ = take 10 bytes in
    let n : ℕ = position_or_len is_equals_sign front in
    let test : ltb n (length front) ≡ false = not_chosen (ltb n (length front)) n none in
    let long : length front ≡ min 10 (length bytes) = length-take 10 bytes in
    let past : length front ≤ n = grind (arith, nat_tests, test) in
    let fails : is_equals_sign (get_or front k 0) ≡ false = fails_before_first is_equals_sign front k 0 (omega arith) in
    let there : get_or front k 0 ≡ 61 = get_or-take 10 bytes k 0 ten ∙ here in
    grind (arith, nat_tests, fails, there)
