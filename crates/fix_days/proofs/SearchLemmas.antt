-- Searches for beginnings in texts of which more may come.
use Rattle.std.proofs.Common.{◌≡◌, ℕ, zero, suc, ◌+◌, ◌-◌, ◌<◌, ◌≤◌, Bool, true, false, not, ◌&&◌, ◌||◌, List, [], ◌∷◌, ◌++◌, length, take, drop, refl, sym, subst, ap, ◌∙◌, inl, inr, append_assoc, arith}
use Rattle.std.specs.Prelude.{codes, get_or, nat_eq}
use Rattle.std.specs.List.{starts_with}
use Rattle.std.specs.Cmp.Lexicographic.{pointwise}
use Rattle.std.specs.Char.{is_ascii_digit}
use Rattle.std.proofs.lemmas.Bool.{and_from, and_parts, cases_lt, false≢true}
use Rattle.std.proofs.lemmas.List.{append-nil, drop-append-le, drop-drop, get_or-drop, get_or_append_left, length-append, length-drop, length-take-le, take-append-drop, take-append-le}
use Rattle.fix_framing.proofs.PrefixLemmas.{false-from, split-at}
use Rattle.memchr.specs.Find.{Nowhere, OccursAt}
use Rattle.fix_days.specs.Lines.{begins_message, FirstBeginning, follows_digit, HasNoBeginningBelow, is_beginning}
use Rattle.fix_days.specs.Searches.{HasNoneFrom, IsFirstFrom, IsSearched}

-- six bytes decide whether a text begins a message
pub starts-same : (text more p : List ℕ) → length p ≤ length text → starts_with nat_eq (text ++ more) p ≡ starts_with nat_eq text p
starts-same text more p long = ap (pointwise nat_eq p) (take-append-le (length p) text more long)

begins-same : (text more : List ℕ) → 6 ≤ length text → begins_message (text ++ more) ≡ begins_message text
begins-same text more long =
    ap (λ (b : Bool). b || starts_with nat_eq (text ++ more) (codes "8=FIXT")) (starts-same text more (codes "8=FIX.") long)
    ∙ ap (λ (b : Bool). starts_with nat_eq text (codes "8=FIX.") || b) (starts-same text more (codes "8=FIXT") long)

pub starts-long : (text p : List ℕ) → starts_with nat_eq text p ≡ true → length p ≤ length text
starts-long text p starts =
    let size = ap length (split-at text p starts) ∙ length-append p (drop (length p) text) in omega (arith, size)

begins-six : (text : List ℕ) → begins_message text ≡ true → 6 ≤ length text
begins-six text begins = by-first (starts_with nat_eq text (codes "8=FIX.")) refl
  where
    by-first : (b : Bool) → starts_with nat_eq text (codes "8=FIX.") ≡ b → 6 ≤ length text
    by-first true is = starts-long text (codes "8=FIX.") is
    by-first false is = starts-long text (codes "8=FIXT") (sym (ap (λ (b : Bool). b || starts_with nat_eq text (codes "8=FIXT")) is) ∙ begins)

pub digit-more : (text more : List ℕ) (place : ℕ) → place ≤ length text → follows_digit (text ++ more) place ≡ follows_digit text place
digit-more text more zero inside = refl
digit-more text more (suc before) inside = ap is_ascii_digit (get_or_append_left text more 0 before (omega (arith, inside)))

pub beginning-more : (text more : List ℕ) (place : ℕ) → place + 6 ≤ length text → is_beginning (text ++ more) place ≡ is_beginning text place
beginning-more text more place inside =
    let rest = length-drop place text in
    let here : begins_message (drop place (text ++ more)) ≡ begins_message (drop place text) =
    ap begins_message (drop-append-le place text more (omega (arith, inside))) ∙ begins-same (drop place text) more (omega (arith, rest, inside)) in
    ap (λ (b : Bool). b && not (follows_digit (text ++ more) place)) here
    ∙ ap (λ (b : Bool). begins_message (drop place text) && not b) (digit-more text more place (omega (arith, inside)))

pub beginning-six : (text : List ℕ) (place : ℕ) → is_beginning text place ≡ true → place + 6 ≤ length text
beginning-six text place is =
    let six = begins-six (drop place text) (and_parts (begins_message (drop place text)) (not (follows_digit text place)) is).0 in
    omega (arith, six, length-drop place text)

-- a beginning after the first byte is one in a longer text
beginning-suc : (byte : ℕ) (text : List ℕ) (place : ℕ) → is_beginning (byte ∷ text) (suc (suc place)) ≡ is_beginning text (suc place)
beginning-suc byte text place = refl

pub beginning-after : (front text : List ℕ) (k : ℕ) → is_beginning (front ++ text) (length front + suc k) ≡ is_beginning text (suc k)
beginning-after [] text k = let same : length {A = ℕ} [] + suc k ≡ suc k = omega arith in ap (is_beginning text) same
beginning-after (byte ∷ front) text k =
    let long : length (byte ∷ front) + suc k ≡ suc (suc (length front + k)) = omega arith in
    let short : length front + suc k ≡ suc (length front + k) = omega arith in
    ap (is_beginning (byte ∷ (front ++ text))) long ∙ beginning-suc byte (front ++ text) (length front + k) ∙ ap (is_beginning (front ++ text)) (sym short) ∙ beginning-after front text k

-- the first beginning of what is left
module _ (left held : List ℕ) (searched : ℕ) (is : IsSearched left held searched) where
  -- a place after those that are searched
  past : (k : ℕ) → length is.passed + searched ≤ k → (searched ≤ k - length is.passed) × (k ≡ length is.passed + (k - length is.passed))
  past k high = (omega (arith, high), omega (arith, high))

  -- no beginning is before a place, whatever follows, if none is in the bytes held that end six bytes after it
  none-below : (more : List ℕ) (count : ℕ) → count + 5 ≤ length held → ((k : ℕ) → searched ≤ k → k < count → is_beginning held k ≡ false) → HasNoBeginningBelow (left ++ more) (length is.passed + count)
  none-below more count room first = λ k low. elim (cases_lt k (length is.passed + searched)) [
    | inl few ↦ is.none more k few
    | inr many ↦
        let place = past k many in
        let j = k - length is.passed in
        let less : j < count = omega (arith, low, place.1) in
        ap (is_beginning (left ++ more)) place.1 ∙ is.same more j place.0 ∙ beginning-more held more j (omega (arith, less, room)) ∙ first j place.0 less
  ]

  pub search-found : (step : ℕ) → IsFirstFrom held searched step → (more : List ℕ) → FirstBeginning (left ++ more) (is.passed ++ take step held) (drop step held ++ more)
  search-found step found more =
      let six = beginning-six held step found.is in
      let taken = length-take-le step held (omega (arith, six)) in
      let size : length (is.passed ++ take step held) ≡ length is.passed + step = length-append is.passed (take step held) ∙ ap (λ (k : ℕ). length is.passed + k) taken in
      record {
        cut =
            ap (λ (t : List ℕ). t ++ more) (is.whole ∙ ap (λ (t : List ℕ). is.passed ++ t) (sym (take-append-drop step held)) ∙ sym (append_assoc is.passed (take step held) (drop step held)))
            ∙ append_assoc (is.passed ++ take step held) (drop step held) more;
        is = ap (is_beginning (left ++ more)) size ∙ is.same more step found.low ∙ beginning-more held more step six ∙ found.is;
        first = subst (HasNoBeginningBelow (left ++ more)) (sym size) (none-below more step (omega (arith, six)) found.first);
      }

  -- after bytes that are dropped
  dropped : (count : ℕ) → count ≤ length held → left ≡ (is.passed ++ take count held) ++ drop count held
  dropped count inside = is.whole ∙ ap (λ (t : List ℕ). is.passed ++ t) (sym (take-append-drop count held)) ∙ sym (append_assoc is.passed (take count held) (drop count held))

  size-dropped : (count : ℕ) → count ≤ length held → length (is.passed ++ take count held) ≡ length is.passed + count
  size-dropped count inside = length-append is.passed (take count held) ∙ ap (λ (k : ℕ). length is.passed + k) (length-take-le count held inside)

  same-after : (count : ℕ) → count ≤ length held → (more : List ℕ) (k : ℕ) → is_beginning (left ++ more) (length (is.passed ++ take count held) + suc k) ≡ is_beginning (drop count held ++ more) (suc k)
  same-after count inside more k =
      let front = is.passed ++ take count held in
      let whole : left ++ more ≡ front ++ (drop count held ++ more) = ap (λ (t : List ℕ). t ++ more) (dropped count inside) ∙ append_assoc front (drop count held) more in
      ap (λ (t : List ℕ). is_beginning t (length front + suc k)) whole ∙ beginning-after front (drop count held ++ more) k

  -- a beginning whose message isn't all there
  pub search-wait : (step : ℕ) → IsFirstFrom held searched step → IsSearched left (drop step held) 0
  search-wait step found =
      let six = beginning-six held step found.is in
      let inside : step ≤ length held = omega (arith, six) in
      let front = is.passed ++ take step held in
      record {
        passed = front;
        whole = dropped step inside;
        inside = omega arith;
        none = λ more. subst (HasNoBeginningBelow (left ++ more)) (sym (size-dropped step inside) ∙ plus-zero (length front)) (none-below more step (omega (arith, six)) found.first);
        same = λ more k low. same-at more k;
      }
    where
      plus-zero : (n : ℕ) → n ≡ n + 0
      plus-zero n = omega arith

      same-at : (more : List ℕ) (k : ℕ) → is_beginning (left ++ more) (length (is.passed ++ take step held) + k) ≡ is_beginning (drop step held ++ more) k
      same-at more zero =
          let six = beginning-six held step found.is in
          let inside : step ≤ length held = omega (arith, six) in
          let here : is_beginning (left ++ more) (length (is.passed ++ take step held)) ≡ true = (search-found step found more).is in
          let begins = (and_parts (begins_message (drop step held)) (not (follows_digit held step)) found.is).0 in
          let rest = length-drop step held in
          let there : begins_message (drop step held ++ more) ≡ true = begins-same (drop step held) more (omega (arith, six, rest)) ∙ begins in
          ap (is_beginning (left ++ more)) (sym (plus-zero (length (is.passed ++ take step held)))) ∙ here ∙ sym (and_from (begins_message (drop step held ++ more)) true there refl)
      same-at more (suc k) =
          let six = beginning-six held step found.is in same-after step (omega (arith, six)) more k

  -- no beginning, and only the last six bytes are kept
  pub search-kept : (count : ℕ) → HasNoneFrom held searched → count + 6 ≡ length held → IsSearched left (drop count held) 1
  search-kept count none six =
      let inside : count ≤ length held = omega (arith, six) in
      let front = is.passed ++ take count held in
      let rest = length-drop count held in
      let size : length is.passed + (count + 1) ≡ length front + 1 = omega (arith, size-dropped count inside) in
      record {
        passed = front;
        whole = dropped count inside;
        inside = omega (arith, rest, six);
        none = λ more. subst (HasNoBeginningBelow (left ++ more)) size (none-below more (count + 1) (omega (arith, six)) (λ k low less. none k low));
        same = λ more k low. same-at more k low;
      }
    where
      same-at : (more : List ℕ) (k : ℕ) → 1 ≤ k → is_beginning (left ++ more) (length (is.passed ++ take count held) + k) ≡ is_beginning (drop count held ++ more) k
      same-at more zero low = absurd (omega (arith, low))
      same-at more (suc k) low = same-after count (omega (arith, six)) more k

  -- no beginning, and nothing follows
  pub search-end : HasNoneFrom held searched → HasNoBeginningBelow left (length left)
  search-end none = λ k low. elim (cases_lt k (length is.passed + searched)) [
    | inl few ↦ ap (λ (t : List ℕ). is_beginning t k) (sym (append-nil left)) ∙ is.none [] k few
    | inr many ↦
        let place = past k many in
        let j = k - length is.passed in
        ap (λ (t : List ℕ). is_beginning t k) (sym (append-nil left)) ∙ ap (is_beginning (left ++ [])) place.1 ∙ is.same [] j place.0 ∙ ap (λ (t : List ℕ). is_beginning t j) (append-nil held) ∙ none j place.0
  ]

  -- a piece more
  pub search-more : (piece : List ℕ) → IsSearched (left ++ piece) (held ++ piece) searched
  search-more piece = record {
    passed = is.passed;
    whole = ap (λ (t : List ℕ). t ++ piece) is.whole ∙ append_assoc is.passed held piece;
    inside = omega (arith, is.inside, length-append held piece);
    none = λ more k low. ap (λ (t : List ℕ). is_beginning t k) (append_assoc left piece more) ∙ is.none (piece ++ more) k low;
    same = λ more k low.
        ap (λ (t : List ℕ). is_beginning t (length is.passed + k)) (append_assoc left piece more) ∙ is.same (piece ++ more) k low
        ∙ ap (λ (t : List ℕ). is_beginning t k) (sym (append_assoc held piece more));
  }

-- nothing is searched
pub search-start : (text : List ℕ) → IsSearched text text 0
search-start text = record {
  passed = [];
  whole = refl;
  inside = omega arith;
  none = λ more k low. absurd (omega (arith, low));
  same = λ more k low. let same : length {A = ℕ} [] + k ≡ k = omega arith in ap (is_beginning (text ++ more)) same;
}

-- where a message begins, `8=FIX` occurs
record Holds (text : List ℕ) : Type 0 where
  rest : List ℕ
  whole : text ≡ codes "8=FIX" ++ rest

holds-five : (text : List ℕ) → begins_message text ≡ true → Holds text
holds-five text begins = by-first (starts_with nat_eq text (codes "8=FIX.")) refl
  where
    by-first : (b : Bool) → starts_with nat_eq text (codes "8=FIX.") ≡ b → Holds text
    by-first true is = record { rest = 46 ∷ drop 6 text; whole = split-at text (codes "8=FIX.") is }
    by-first false is = record { rest = 84 ∷ drop 6 text; whole = split-at text (codes "8=FIXT") (sym (ap (λ (b : Bool). b || starts_with nat_eq text (codes "8=FIXT")) is) ∙ begins) }

occurs : (text : List ℕ) (at k : ℕ) → at ≤ k → is_beginning text k ≡ true → OccursAt (drop at text) (codes "8=FIX") (k - at)
occurs text at k low is =
    let holds = holds-five (drop k text) (and_parts (begins_message (drop k text)) (not (follows_digit text k)) is).0 in
    let same : drop (k - at) (drop at text) ≡ codes "8=FIX" ++ holds.rest = drop-drop (k - at) at text ∙ ap (λ (n : ℕ). drop n text) (omega (arith, low)) ∙ holds.whole in
    let six = beginning-six text k is in
    let rest = length-drop at text in
    record {
      fits = omega (arith, six, rest, low);
      reads = λ j few. sym (get_or-drop (k - at) (drop at text) j 0) ∙ ap (λ (t : List ℕ). get_or t j 0) same ∙ get_or_append_left (codes "8=FIX") holds.rest 0 j few;
    }

-- no beginning before the first occurrence
pub none-passed : (text hay : List ℕ) (from at until : ℕ) → hay ≡ drop at text → ((k : ℕ) → from ≤ k → k < at → is_beginning text k ≡ false) → Nowhere (OccursAt hay (codes "8=FIX")) 0 until → (k : ℕ) → from ≤ k → k < at + until → is_beginning text k ≡ false
none-passed text hay from at until is before none k low high = elim (cases_lt k at) [
  | inl few ↦ before k low few
  | inr many ↦
      false-from (is_beginning text k) (λ begins.
      none (k - at) (omega arith) (omega (arith, high, many)) (subst (λ (t : List ℕ). OccursAt t (codes "8=FIX") (k - at)) (sym is) (occurs text at k many begins)))
]

pub first-from : (text hay : List ℕ) (from at step : ℕ) → hay ≡ drop at text → from ≤ at → ((k : ℕ) → from ≤ k → k < at → is_beginning text k ≡ false) → Nowhere (OccursAt hay (codes "8=FIX")) 0 step → is_beginning text (at + step) ≡ true → IsFirstFrom text from (at + step)
first-from text hay from at step is low before none begins =
    let six = beginning-six text (at + step) begins in
    record { low = omega (arith, low); high = omega (arith, six); is = begins; first = none-passed text hay from at step is before none }

pub none-from : (text hay : List ℕ) (from at : ℕ) → hay ≡ drop at text → at ≤ length text → ((k : ℕ) → from ≤ k → k < at → is_beginning text k ≡ false) → Nowhere (OccursAt hay (codes "8=FIX")) 0 (length hay + 1) → HasNoneFrom text from
none-from text hay from at is inside before none k low =
    false-from (is_beginning text k) (λ begins.
    let six = beginning-six text k begins in
    let size = ap length is in
    let rest = length-drop at text in
    false≢true (sym (none-passed text hay from at (length hay + 1) is before none k low (omega (arith, six, size, rest, inside))) ∙ begins))

-- the occurrence was no beginning
pub none-step : (text hay : List ℕ) (from at step : ℕ) → hay ≡ drop at text → ((k : ℕ) → from ≤ k → k < at → is_beginning text k ≡ false) → Nowhere (OccursAt hay (codes "8=FIX")) 0 step → is_beginning text (at + step) ≡ false → (k : ℕ) → from ≤ k → k < at + step + 1 → is_beginning text k ≡ false
none-step text hay from at step is before none other k low high = elim (cases_lt k (at + step)) [
  | inl few ↦ none-passed text hay from at step is before none k low few
  | inr many ↦ ap (is_beginning text) (omega (arith, high, many)) ∙ other
]

pub step-inside : (text hay : List ℕ) (at step : ℕ) → hay ≡ drop at text → at ≤ length text → OccursAt hay (codes "8=FIX") step → at + step + 1 ≤ length text
step-inside text hay at step is inside occurs =
    let fits = occurs.fits in
    let size = ap length is in
    let rest = length-drop at text in omega (arith, fits, size, rest, inside)
