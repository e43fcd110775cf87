-- Headers: which one a text begins with, and that it stays so in a longer text.
use Rattle.std.proofs.Common.{◌≡◌, ℕ, ◌<◌, ◌≤◌, Bool, true, false, not, ◌==◌, inl, inr, List, [], ◌∷◌, ◌++◌, length, drop, refl, sym, ap, ◌∙◌, append_assoc, arith}
use Rattle.std.specs.Prelude.{Contains, nat_eq, nat_le, nat_lt}
use Rattle.std.specs.List.{list_all, list_any, starts_with}
use Rattle.std.proofs.lemmas.List.{length-append, append-nil}
use Rattle.std.proofs.lemmas.Bool.{and_parts, and_from, or_parts, or_cases, or_left, or_right, or_from, not_from_true, not_from_false, not-false, not-true, lt-ltb, ltb-true, leb-true, eqb-true, cases_Bool, cases_lt}
use Rattle.audit_base.proofs.SumLemmas.{Contains-cases, Contains-front, Contains-behind}
use Rattle.fix_framing.specs.Headers.{header, fix44, AreHeaders, is_header_size, are_apart, header_of, header_size, longest_header, may_begin, is_cut_header}
use Rattle.fix_framing.specs.Frames.{has_bad_begin, ends_in_header}
use Rattle.fix_framing.proofs.PrefixLemmas.{split-at, starts-so, false-from, shorter-prefix, equal-prefix}

pub length-header : length header ≡ 12
unfolding header
length-header = refl

pub fix44-headers : AreHeaders fix44
unfolding header
fix44-headers = record { some = omega arith; sized = refl; apart = refl }

-- a header of FIX 4.4 is its one header
pub fix44-head : (head : List ℕ) → Contains fix44 head → head ≡ header
fix44-head head known = elim (Contains-cases header [] head known) [
  | inl same ↦ sym same
  | inr other ↦ let none = other.1 in absurd (omega arith)
]

-- a text begins with one header, or with none
record BeginsWith (headers : List (List ℕ)) (text : List ℕ) : Type 0 where
  pub known : Contains headers (header_of headers text)
  pub whole : text ≡ header_of headers text ++ drop (length (header_of headers text)) text

begins-first : (head : List ℕ) (more : List (List ℕ)) (text : List ℕ) → starts_with nat_eq text head ≡ true → BeginsWith (head ∷ more) text
begins-first head more text starts =
    let here : header_of (head ∷ more) text ≡ head = rw starts refl in
    record {
      known = rw here (Contains-front head more);
      whole = rw here (split-at text head starts);
    }

begins-later : (head : List ℕ) (more : List (List ℕ)) (text : List ℕ) → starts_with nat_eq text head ≡ false → BeginsWith more text → BeginsWith (head ∷ more) text
begins-later head more text other later =
    let here : header_of (head ∷ more) text ≡ header_of more text = rw other refl in
    record {
      known = rw here (Contains-behind head more (header_of more text) later.known);
      whole = rw here later.whole;
    }

-- a text that is a prefix of a header, and no proper one, begins with it
whole-header : (head text : List ℕ) → starts_with nat_eq text head ≡ false → is_cut_header text head ≡ false → may_begin text head ≡ false
whole-header head text other uncut =
    or_from (starts_with nat_eq text head) (starts_with nat_eq head text) other (false-from (starts_with nat_eq head text) (λ part.
    elim (cases_lt (length text) (length head)) [
      | inl short ↦ let cut = and_from (starts_with nat_eq head text) (nat_lt (length text) (length head)) part (lt-ltb (length text) (length head) short) in cc (sym uncut ∙ cut)
      | inr long ↦
          let same : head ≡ text = equal-prefix text head part long in
          cc (sym other ∙ starts-so text head [] (sym same ∙ sym (append-nil head)))
    ]))

begins-any : (headers : List (List ℕ)) (text : List ℕ) → list_any (may_begin text) headers ≡ true → list_any (is_cut_header text) headers ≡ false → BeginsWith headers text
begins-any [] text some uncut = absurd (cc)
begins-any (head ∷ more) text some uncut =
    let both = or_parts (is_cut_header text head) (list_any (is_cut_header text) more) uncut in
    elim (cases_Bool (starts_with nat_eq text head)) [
      | inl starts ↦ begins-first head more text starts
      | inr other ↦
          let here = whole-header head text other both.0 in
          let later : list_any (may_begin text) more ≡ true = elim (or_cases (may_begin text head) (list_any (may_begin text) more) some) [ inl h ↦ cc (here, h) | inr h ↦ h ] in
          begins-later head more text other (begins-any more text later both.1)
    ]

pub header_size-of : (headers : List (List ℕ)) (r : List ℕ) → header_size headers r ≡ length (header_of headers r)
unfolding header_size
header_size-of headers r = refl

-- r begins with the header that is found
abbrev pub header_found : List (List ℕ) → List ℕ → Type 0
header_found headers r = Contains headers (header_of headers r) × (r ≡ header_of headers r ++ drop (header_size headers r) r)

-- tests 1 and 2 pass where a text begins with a header
pub begins-header : (headers : List (List ℕ)) (r : List ℕ) → has_bad_begin headers r ≡ false → ends_in_header headers r ≡ false → header_found headers r
unfolding header_size
begins-header headers r begins uncut =
    let found = begins-any headers r (not-false (list_any (may_begin r) headers) begins) uncut in (found.known, found.whole)

-- each of the headers is apart from this one, in both directions
all-with : (p : List ℕ → Bool) (headers : List (List ℕ)) (head : List ℕ) → list_all p headers ≡ true → Contains headers head → p head ≡ true
all-with p [] head all known = let none = known.1 in absurd (omega arith)
all-with p (first ∷ more) head all known =
    let both = and_parts (p first) (list_all p more) all in
    elim (Contains-cases first more head known) [
      | inl same ↦ rw (← same) both.0
      | inr later ↦ all-with p more head both.1 later
    ]

pub headers-apart : (headers : List (List ℕ)) (head other : List ℕ) → AreHeaders headers → Contains headers head → Contains headers other → starts_with nat_eq other head ≡ true → other ≡ head
headers-apart headers head other are known its starts =
    let row = all-with (λ h. list_all (are_apart h) headers) headers head are.apart known in
    let apart = all-with (are_apart head) headers other row its in
    elim (or_cases (not (starts_with nat_eq other head)) (length head == length other) apart) [
      | inl apart_so ↦ cc (not-true (starts_with nat_eq other head) apart_so, starts)
      | inr same ↦ equal-prefix head other starts (omega (arith, eqb-true (length head) (length other) same))
    ]

-- two headers that begin one text are one
pub headers-same : (headers : List (List ℕ)) (head other x y : List ℕ) → AreHeaders headers → Contains headers head → Contains headers other → head ++ x ≡ other ++ y → head ≡ other
headers-same headers head other x y are known its same =
    elim (cases_lt (length head) (length other)) [
      | inl short ↦ sym (headers-apart headers head other are known its (shorter-prefix head other x y same (omega (arith, short))))
      | inr long ↦ headers-apart headers other head are its known (shorter-prefix other head y x (sym same) long)
    ]

-- what the text begins with is found, and passes tests 1 and 2
any-begins : (headers : List (List ℕ)) (head text : List ℕ) → Contains headers head → starts_with nat_eq text head ≡ true → list_any (may_begin text) headers ≡ true
any-begins [] head text known starts = let none = known.1 in absurd (omega arith)
any-begins (first ∷ more) head text known starts =
    elim (Contains-cases first more head known) [
      | inl same ↦ or_left (may_begin text first) (list_any (may_begin text) more) (or_left (starts_with nat_eq text first) (starts_with nat_eq first text) (rw same starts))
      | inr later ↦ or_right (may_begin text first) (list_any (may_begin text) more) (any-begins more head text later starts)
    ]

pub begins-with : (headers : List (List ℕ)) (head r rest : List ℕ) → Contains headers head → r ≡ head ++ rest → has_bad_begin headers r ≡ false
begins-with headers head r rest known whole = not_from_true (list_any (may_begin r) headers) (any-begins headers head r known (starts-so r head rest whole))

first-found : (headers : List (List ℕ)) (head text : List ℕ) → Contains headers head → starts_with nat_eq text head ≡ true → BeginsWith headers text
first-found [] head text known starts = let none = known.1 in absurd (omega arith)
first-found (first ∷ more) head text known starts =
    elim (cases_Bool (starts_with nat_eq text first)) [
      | inl here ↦ begins-first first more text here
      | inr other ↦ elim (Contains-cases first more head known) [
        | inl same ↦ let here : starts_with nat_eq text first ≡ true = rw same starts in cc (other, here)
        | inr later ↦ begins-later first more text other (first-found more head text later starts)
      ]
    ]

pub header_of-is : (headers : List (List ℕ)) (head r rest : List ℕ) → AreHeaders headers → Contains headers head → r ≡ head ++ rest → header_of headers r ≡ head
header_of-is headers head r rest are known whole =
    let found = first-found headers head r known (starts-so r head rest whole) in
    headers-same headers (header_of headers r) head (drop (length (header_of headers r)) r) rest are found.known known (sym found.whole ∙ whole)

pub header_size-is : (headers : List (List ℕ)) (head r rest : List ℕ) → AreHeaders headers → Contains headers head → r ≡ head ++ rest → header_size headers r ≡ length head
unfolding header_size
header_size-is headers head r rest are known whole = ap length (header_of-is headers head r rest are known whole)

-- no header is cut short there
none-cut : (headers : List (List ℕ)) (text : List ℕ) → ((head : List ℕ) → Contains headers head → is_cut_header text head ≡ false) → list_any (is_cut_header text) headers ≡ false
none-cut [] text each = refl
none-cut (head ∷ more) text each = or_from (is_cut_header text head) (list_any (is_cut_header text) more) (each head (Contains-front head more)) (none-cut more text (λ other known. each other (Contains-behind head more other known)))

pub header-whole : (headers : List (List ℕ)) (head r rest : List ℕ) → AreHeaders headers → Contains headers head → r ≡ head ++ rest → ends_in_header headers r ≡ false
header-whole headers head r rest are known whole =
    none-cut headers r (λ other its. false-from (is_cut_header r other) (λ cut.
    let both = and_parts (starts_with nat_eq other r) (nat_lt (length r) (length other)) cut in
    let part = split-at other r both.0 in
    let longer : other ≡ head ++ (rest ++ drop (length r) other) = part ∙ (ap (λ xs. xs ++ drop (length r) other) whole ∙ append_assoc head rest (drop (length r) other)) in
    let same = headers-apart headers head other are known its (starts-so other head (rest ++ drop (length r) other) longer) in
    let short = ltb-true (length r) (length other) both.1 in
    let sizes = ap length whole ∙ length-append head rest in
    let equal = ap length same in omega arith))

-- what begins as no message does, however it goes on
one-otherwise : (r m head : List ℕ) → may_begin r head ≡ false → may_begin (r ++ m) head ≡ false
one-otherwise r m head other =
    let neither = or_parts (starts_with nat_eq r head) (starts_with nat_eq head r) other in
    let first_no : starts_with nat_eq (r ++ m) head ≡ true → ⊥ = λ yes.
    let rest = drop (length head) (r ++ m) in
    let whole : r ++ m ≡ head ++ rest = split-at (r ++ m) head yes in
    elim (cases_lt (length r) (length head)) [
      | inl short ↦ cc (neither.1, shorter-prefix r head m rest whole (omega (arith, short)))
      | inr long ↦ cc (neither.0, shorter-prefix head r rest m (sym whole) long)
    ] in
    let second_no : starts_with nat_eq head (r ++ m) ≡ true → ⊥ = λ yes.
    let whole = split-at head (r ++ m) yes in
    let rest = drop (length (r ++ m)) head in
    let yes_then = starts-so head r (m ++ rest) (whole ∙ append_assoc r m rest) in
    cc (neither.1, yes_then) in
    or_from (starts_with nat_eq (r ++ m) head) (starts_with nat_eq head (r ++ m)) (false-from (starts_with nat_eq (r ++ m) head) first_no) (false-from (starts_with nat_eq head (r ++ m)) second_no)

any-otherwise : (headers : List (List ℕ)) (r m : List ℕ) → list_any (may_begin r) headers ≡ false → list_any (may_begin (r ++ m)) headers ≡ false
any-otherwise [] r m other = refl
any-otherwise (head ∷ more) r m other =
    let both = or_parts (may_begin r head) (list_any (may_begin r) more) other in
    or_from (may_begin (r ++ m) head) (list_any (may_begin (r ++ m)) more) (one-otherwise r m head both.0) (any-otherwise more r m both.1)

pub begins-otherwise-more : (headers : List (List ℕ)) (r m : List ℕ) → has_bad_begin headers r ≡ true → has_bad_begin headers (r ++ m) ≡ true
begins-otherwise-more headers r m other =
    not_from_false (list_any (may_begin (r ++ m)) headers) (any-otherwise headers r m (not-true (list_any (may_begin r) headers) other))

-- no header is longer than the longest
longest-any : (headers : List (List ℕ)) (head : List ℕ) → Contains headers head → length head ≤ longest_header headers
longest-any [] head known = let none = known.1 in absurd (omega arith)
longest-any (first ∷ more) head known =
    elim (Contains-cases first more head known) [
      | inl same ↦ omega (arith, ap length same)
      | inr later ↦ omega (arith, longest-any more head later)
    ]

pub header-longest : (headers : List (List ℕ)) (r : List ℕ) → header_found headers r → header_size headers r ≤ longest_header headers
unfolding header_size
header-longest headers r found = longest-any headers (header_of headers r) found.0

pub cut-longest : (headers : List (List ℕ)) (r : List ℕ) → ends_in_header headers r ≡ true → length r < longest_header headers
cut-longest [] r cut = absurd (cc)
cut-longest (head ∷ more) r cut =
    elim (or_cases (is_cut_header r head) (list_any (is_cut_header r) more) cut) [
      | inl here ↦ omega (arith, ltb-true (length r) (length head) (and_parts (starts_with nat_eq head r) (nat_lt (length r) (length head)) here).1)
      | inr later ↦ omega (arith, cut-longest more r later)
    ]

pub header-inside : (headers : List (List ℕ)) (r : List ℕ) → header_found headers r → header_size headers r ≤ length r
unfolding header_size
header-inside headers r found = let sizes = ap length found.1 ∙ length-append (header_of headers r) (drop (length (header_of headers r)) r) in omega arith

-- no bytes are a proper prefix of each header
pub nothing-begins : (headers : List (List ℕ)) → AreHeaders headers → has_bad_begin headers [] ≡ false
nothing-begins [] are = let some = are.some in absurd (omega arith)
nothing-begins (head ∷ more) are =
    not_from_true (list_any (may_begin []) (head ∷ more)) (or_left (may_begin [] head) (list_any (may_begin []) more) (or_right (starts_with nat_eq [] head) (starts_with nat_eq head []) (starts-so head [] head refl)))

pub nothing-ends : (headers : List (List ℕ)) → AreHeaders headers → ends_in_header headers [] ≡ true
nothing-ends [] are = let some = are.some in absurd (omega arith)
nothing-ends (head ∷ more) are =
    let sized = and_parts (is_header_size head) (list_all is_header_size more) are.sized in
    let one = leb-true 1 (length head) (and_parts (nat_le 1 (length head)) (nat_le (length head) 13) sized.0).0 in
    or_left (is_cut_header [] head) (list_any (is_cut_header []) more) (and_from (starts_with nat_eq head []) (nat_lt 0 (length head)) (starts-so head [] head refl) (lt-ltb 0 (length head) (omega (arith, one))))

-- a header that is found has at most 13 bytes
pub header-few : (headers : List (List ℕ)) (r : List ℕ) → AreHeaders headers → header_found headers r → header_size headers r ≤ 13
header-few headers r are found =
    let sized = all-with is_header_size headers (header_of headers r) are.sized found.0 in
    let most = leb-true (length (header_of headers r)) 13 (and_parts (nat_le 1 (length (header_of headers r))) (nat_le (length (header_of headers r)) 13) sized).1 in
    omega (arith, header_size-of headers r, most)
