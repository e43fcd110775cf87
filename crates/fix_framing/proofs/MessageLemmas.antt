-- A message is what no test fails on: in one direction and in the other.
use Rattle.std.proofs.Common.{◌≡◌, ℕ, suc, ◌+◌, ◌-◌, ◌<◌, ◌≤◌, ◌%◌, Bool, true, false, cond, not, ◌||◌, ◌==◌, None, List, [], ◌∷◌, ◌++◌, length, take, drop, sum, refl, sym, ap, ◌∙◌, append_assoc, arith}
use Rattle.std.specs.Prelude.{Contains, slice_index, nat_lt, nat_eq, codes}
use Rattle.std.specs.List.{list_all, prefix_len, starts_with, slice_range}
use Rattle.std.proofs.lemmas.List.Sums.{prefix_len-le-length}
use Rattle.std.specs.Char.{is_ascii_digit}
use Rattle.std.specs.Str.Parse.{digits_value}
use Rattle.std.proofs.lemmas.List.{length-take-le, length-drop, length-append, get_or-drop, get_or_at, take-append-drop, take_at, drop_more, drop-drop, drop_all}
use Rattle.std.proofs.lemmas.Bool.{and_parts, and_from, or_parts, or_from, not_from_true, not-false, le-ltb, ltb-false, leb-true, leb-false, eq-eqb, ne_eqb, eqb-true, eqb-false, le-leb, lt-leb}
use Rattle.std.proofs.lemmas.Bool.Decides.{Decides-eqb}
use Rattle.std.proofs.lemmas.Slice.Eq.{starts_is}
use Rattle.fix_framing.specs.Headers.{AreHeaders, header_of, header_size}
use Rattle.fix_framing.specs.Frames.{before_checksum, checksum_field, IsFrameWith, IsFrameAt, length_digits, body_size, body_place, trailer_place, frame_size_with, body_of_with, trailer_of, is_trailer, frame_fault_with}
use Rattle.fix_framing.proofs.LengthLemmas.{count_of, length-length_digits}
use Rattle.fix_framing.proofs.TestLemmas.{NoFault, none-from_NoFault, NoFault-from_none}
use Rattle.fix_framing.proofs.HeaderLemmas.{begins-with, header-whole, header_size-is, begins-header, header-inside}
use Rattle.fix_framing.proofs.FrameLemmas.{Reads, Reads-rest, Reads-digits, Reads-size, Reads-body, Reads-trailer, Reads-before, Reads-tail, Reads-body_of, length-before, IsFrameWith-reads}

-- a checksum field
length-field : (cs : List ℕ) → length cs ≡ 3 → length (checksum_field cs) ≡ 7
length-field cs three =
    let outer = length-append (codes "10=" ++ cs) (1 ∷ []) in
    let inner = length-append (codes "10=") cs in omega arith

field-digits : (cs : List ℕ) → length cs ≡ 3 → slice_range (checksum_field cs) 3 6 ≡ cs
field-digits cs three = take_at cs (1 ∷ []) 3 three

field-is_trailer : (cs : List ℕ) → length cs ≡ 3 → list_all is_ascii_digit cs ≡ true → is_trailer (checksum_field cs) ≡ true
field-is_trailer cs three each =
    let regrouped : checksum_field cs ≡ codes "10=" ++ (cs ++ (1 ∷ [])) = append_assoc (codes "10=") cs (1 ∷ []) in
    let starts = (starts_is Decides-eqb (checksum_field cs) (codes "10=") (starts_with nat_eq (checksum_field cs) (codes "10=")) refl).1 (cs ++ (1 ∷ [])) regrouped in
    let inner = length-append (codes "10=") cs in
    let last : slice_index (checksum_field cs) 6 ≡ 1 = get_or_at (codes "10=" ++ cs) 1 [] 0 6 (omega arith) in
    let digits : list_all is_ascii_digit (slice_range (checksum_field cs) 3 6) ≡ true = rw (field-digits cs three) each in
    and_from _ _ (and_from _ _ starts digits) (eq-eqb _ 1 last)

-- what is read as header, length, body and checksum field has no fault
pub Reads-NoFault : (hs : List (List ℕ)) (r h ds b cs more : List ℕ) → AreHeaders hs → Contains hs h → Reads r h ds b (checksum_field cs ++ more) → 0 < length ds → length ds ≤ 9 → length b ≤ 1048576 → length cs ≡ 3 → list_all is_ascii_digit cs ≡ true → digits_value 10 cs ≡ sum (before_checksum h ds b) % 256 → NoFault hs r
Reads-NoFault hs r h ds b cs more are known reads some few bounded three each summed =
    let tail = checksum_field cs ++ more in
    let regrouped : before_checksum h ds b ++ tail ≡ h ++ (ds ++ (1 ∷ (b ++ tail))) = simp append_assoc in
    let split = reads.whole ∙ regrouped in
    let head : header_size hs r ≡ length h = header_size-is hs h r (ds ++ (1 ∷ (b ++ tail))) are known split in
    let count = ap length (Reads-digits r h ds b tail reads) in
    let size = Reads-size r h ds b tail reads in
    let body = Reads-body r h ds b tail reads in
    let place = Reads-trailer r h ds b tail reads in
    let before = length-before h ds b in
    let all = ap length reads.whole ∙ length-append (before_checksum h ds b) tail in
    let field = length-field cs three in
    let outer = length-append (checksum_field cs) more in
    let rest = length-drop (body_place (length h) r) r in
    let shifted : slice_index r (length h + length ds) ≡ 1 =
    rw (← get_or-drop (length h) r (length ds) 0, Reads-rest r h ds b tail reads) (get_or_at ds 1 (b ++ tail) 0 (length ds) refl) in
    let soh : slice_index r (length h + length (length_digits (length h) r)) ≡ 1 = rw count shifted in
    let seven : trailer_of (length h) r ≡ checksum_field cs = rw (Reads-tail r h ds b tail reads) (take_at (checksum_field cs) more 7 field) in
    let value : digits_value 10 (slice_range (trailer_of (length h) r) 3 6) ≡ sum (take (trailer_place (length h) r) r) % 256 =
    rw (seven, field-digits cs three, Reads-before r h ds b tail reads) summed in
    record {
      begins = begins-with hs h r (ds ++ (1 ∷ (b ++ tail))) known split;
      header_ends = header-whole hs h r (ds ++ (1 ∷ (b ++ tail))) are known split;
      long = rw head (lt-leb 10 (length (length_digits (length h) r)) (omega arith));
      length_ends = rw head (ne_eqb (length r) (length h + length (length_digits (length h) r)) (λ e. omega arith));
      bad_length = rw head (or_from _ _ (or_from _ _ (ne_eqb (length (length_digits (length h) r)) 0 (λ e. omega arith)) (not_from_true _ (eq-eqb (slice_index r (length h + length (length_digits (length h) r))) 1 soh))) (le-ltb 1048576 (body_size (length h) r) (omega arith)));
      body_ends = rw head (le-ltb (length (drop (body_place (length h) r) r)) (body_size (length h) r + 7) (omega arith));
      bad_trailer = rw head (not_from_true (is_trailer (trailer_of (length h) r)) (rw seven (field-is_trailer cs three each)));
      bad_sum = rw head (not_from_true _ (eq-eqb (digits_value 10 (slice_range (trailer_of (length h) r) 3 6)) (sum (take (trailer_place (length h) r) r) % 256) value));
    }

pub IsFrameWith-NoFault : (hs : List (List ℕ)) (f b more : List ℕ) → AreHeaders hs → IsFrameWith hs f b → NoFault hs (f ++ more)
IsFrameWith-NoFault hs f b more are frame =
    let few = and_parts _ _ frame.are_digits in
    let fewer = and_parts _ _ few.0 in
    let three = and_parts _ _ frame.three in
    let third = and_parts _ _ three.0 in
    let least = leb-true 3 (length frame.sum_digits) third.0 in
    let most = leb-true (length frame.sum_digits) 3 third.1 in
    Reads-NoFault hs (f ++ more) frame.head frame.length_digits b frame.sum_digits more are frame.known (IsFrameWith-reads hs f b more frame)
    (leb-true 1 (length frame.length_digits) fewer.0) (leb-true (length frame.length_digits) 9 fewer.1) frame.bounded (omega arith) three.1 frame.summed

-- where a message begins, nothing fails, and its size and body are those found
pub IsFrameWith-no_fault : (hs : List (List ℕ)) (f b more : List ℕ) → AreHeaders hs → IsFrameWith hs f b → frame_fault_with hs (f ++ more) ≡ None
IsFrameWith-no_fault hs f b more are frame = none-from_NoFault hs (f ++ more) (IsFrameWith-NoFault hs f b more are frame)

IsFrameWith-head : (hs : List (List ℕ)) (f b more : List ℕ) → AreHeaders hs → (frame : IsFrameWith hs f b) → header_size hs (f ++ more) ≡ length frame.head
IsFrameWith-head hs f b more are frame =
    let tail = checksum_field frame.sum_digits ++ more in
    let reads = IsFrameWith-reads hs f b more frame in
    let regrouped : before_checksum frame.head frame.length_digits b ++ tail ≡ frame.head ++ (frame.length_digits ++ (1 ∷ (b ++ tail))) = simp append_assoc in
    header_size-is hs frame.head (f ++ more) (frame.length_digits ++ (1 ∷ (b ++ tail))) are frame.known (reads.whole ∙ regrouped)

pub IsFrameWith-body_of : (hs : List (List ℕ)) (f b more : List ℕ) → AreHeaders hs → IsFrameWith hs f b → body_of_with hs (f ++ more) ≡ b
IsFrameWith-body_of hs f b more are frame =
    rw (IsFrameWith-head hs f b more are frame) (Reads-body_of (f ++ more) frame.head frame.length_digits b (checksum_field frame.sum_digits ++ more) (IsFrameWith-reads hs f b more frame))

pub IsFrameWith-body_size : (hs : List (List ℕ)) (f b more : List ℕ) → AreHeaders hs → IsFrameWith hs f b → body_size (header_size hs (f ++ more)) (f ++ more) ≡ length b
IsFrameWith-body_size hs f b more are frame =
    rw (IsFrameWith-head hs f b more are frame) (Reads-size (f ++ more) frame.head frame.length_digits b (checksum_field frame.sum_digits ++ more) (IsFrameWith-reads hs f b more frame))

pub IsFrameWith-size : (hs : List (List ℕ)) (f b more : List ℕ) → AreHeaders hs → IsFrameWith hs f b → frame_size_with hs (f ++ more) ≡ length f
IsFrameWith-size hs f b more are frame =
    let three = and_parts _ _ frame.three in
    let third = and_parts _ _ three.0 in
    let least = leb-true 3 (length frame.sum_digits) third.0 in
    let most = leb-true (length frame.sum_digits) 3 third.1 in
    let head = IsFrameWith-head hs f b more are frame in
    let place = Reads-trailer (f ++ more) frame.head frame.length_digits b (checksum_field frame.sum_digits ++ more) (IsFrameWith-reads hs f b more frame) in
    let field = length-field frame.sum_digits (omega arith) in
    let all = ap length frame.whole ∙ length-append (before_checksum frame.head frame.length_digits b) (checksum_field frame.sum_digits) in
    let size : trailer_place (length frame.head) (f ++ more) + 7 ≡ length f = omega arith in
    rw head size

-- The other direction: a text that no test fails on begins with a message.

front-step : (p : ℕ → Bool) (x : ℕ) (xs : List ℕ) (m : ℕ) (b : Bool) → p x ≡ b → list_all p (take m xs) ≡ true → list_all p (take (cond b (1 + m) 0) (x ∷ xs)) ≡ true
front-step p x xs m true e each =
    let one : 1 + m ≡ suc m = omega arith in rw one (and_from (p x) (list_all p (take m xs)) e each)
front-step p x xs m false e each = refl

list_all-front : (p : ℕ → Bool) (xs : List ℕ) → list_all p (take (prefix_len p xs) xs) ≡ true
list_all-front p [] = refl
list_all-front p (x ∷ xs) = front-step p x xs (prefix_len p xs) (p x) refl (list_all-front p xs)

pub NoFault-Reads : (hs : List (List ℕ)) (r : List ℕ) → NoFault hs r → Reads r (header_of hs r) (length_digits (header_size hs r) r) (body_of_with hs r) (drop (trailer_place (header_size hs r) r) r)
NoFault-Reads hs r tests =
    let m = header_size hs r in
    let k = count_of m r in
    let n = body_size m r in
    let found = begins-header hs r tests.begins tests.header_ends in
    let long = header-inside hs r found in
    let count = length-length_digits m r in
    let more = eqb-false (length r) (m + length (length_digits m r)) tests.length_ends in
    let most = prefix_len-le-length is_ascii_digit (drop m r) in
    let rest = length-drop m r in
    let inside : k < length (drop m r) = omega arith in
    let bad = or_parts (length (length_digits m r) == 0 || not (slice_index r (m + length (length_digits m r)) == 1)) (nat_lt 1048576 (body_size m r)) tests.bad_length in
    let ended = (or_parts (length (length_digits m r) == 0) (not (slice_index r (m + length (length_digits m r)) == 1)) bad.0).1 in
    let soh = rw count at (eqb-true (slice_index r (m + length (length_digits m r))) 1 (not-false (slice_index r (m + length (length_digits m r)) == 1) ended)) in
    let here = get_or-drop m r k 0 ∙ soh in
    let next : drop k (drop m r) ≡ 1 ∷ drop (k + 1) (drop m r) = drop_more (drop m r) k 0 inside ∙ ap (λ b. b ∷ drop (k + 1) (drop m r)) here in
    let place : m + (k + 1) ≡ body_place m r = omega arith in
    let behind : drop (k + 1) (drop m r) ≡ drop (body_place m r) r = drop-drop (k + 1) m r ∙ ap (λ (m : ℕ). drop m r) place in
    let room = ltb-false (length (drop (body_place m r) r)) (body_size m r + 7) tests.body_ends in
    let tail : drop n (drop (body_place m r) r) ≡ drop (trailer_place m r) r = drop-drop n (body_place m r) r in
    let halves : drop (body_place m r) r ≡ body_of_with hs r ++ drop (trailer_place m r) r = sym (take-append-drop n (drop (body_place m r) r)) ∙ ap (λ ys. body_of_with hs r ++ ys) tail in
    let field : drop m r ≡ length_digits m r ++ (1 ∷ (body_of_with hs r ++ drop (trailer_place m r) r)) =
    sym (take-append-drop k (drop m r)) ∙ ap (λ ys. take k (drop m r) ++ ys) (next ∙ ap (λ ys. 1 ∷ ys) (behind ∙ halves)) in
    let regrouped : before_checksum (header_of hs r) (length_digits m r) (body_of_with hs r) ++ drop (trailer_place m r) r ≡ header_of hs r ++ (length_digits m r ++ (1 ∷ (body_of_with hs r ++ drop (trailer_place m r) r))) = simp append_assoc in
    record {
      whole = found.1 ∙ (ap (λ ys. header_of hs r ++ ys) field ∙ sym regrouped);
      each = list_all-front is_ascii_digit (drop m r);
      counted = sym (length-take-le n (drop (body_place m r) r) (omega arith));
    }

-- seven bytes that are a checksum field are that of their three digits
trailer-shape : (seven : List ℕ) → length seven ≡ 7 → is_trailer seven ≡ true → seven ≡ checksum_field (slice_range seven 3 6)
trailer-shape seven long is =
    let parts = and_parts _ _ is in
    let start = (and_parts _ _ parts.0).0 in
    let split = (starts_is Decides-eqb seven (codes "10=") (starts_with nat_eq seven (codes "10=")) refl).0 start in
    let last = eqb-true (slice_index seven 6) 1 parts.1 in
    let six : drop 6 seven ≡ 1 ∷ [] = drop_more seven 6 0 (omega arith) ∙ (ap (λ b. b ∷ drop (6 + 1) seven) last ∙ ap (λ ys. 1 ∷ ys) (drop_all 7 seven (omega arith))) in
    let halves : drop 3 seven ≡ slice_range seven 3 6 ++ (1 ∷ []) = sym (take-append-drop 3 (drop 3 seven)) ∙ ap (λ ys. take 3 (drop 3 seven) ++ ys) (drop-drop 3 3 seven ∙ six) in
    split ∙ ap (λ ys. codes "10=" ++ ys) halves

trailer-digits : (seven : List ℕ) → is_trailer seven ≡ true → list_all is_ascii_digit (slice_range seven 3 6) ≡ true
trailer-digits seven is = (and_parts _ _ (and_parts _ _ is).0).1

pub NoFault-size : (hs : List (List ℕ)) (r : List ℕ) → NoFault hs r → frame_size_with hs r ≤ length r
NoFault-size hs r tests =
    let m = header_size hs r in
    let room = ltb-false (length (drop (body_place m r) r)) (body_size m r + 7) tests.body_ends in
    let rest = length-drop (body_place m r) r in omega arith

pub NoFault-IsFrame : (hs : List (List ℕ)) (r : List ℕ) → NoFault hs r → IsFrameWith hs (take (frame_size_with hs r) r) (body_of_with hs r)
unfolding header_size
NoFault-IsFrame hs r tests =
    let m = header_size hs r in
    let found = begins-header hs r tests.begins tests.header_ends in
    let reads = NoFault-Reads hs r tests in
    let tail = drop (trailer_place m r) r in
    let size = NoFault-size hs r tests in
    let rest = length-drop (trailer_place m r) r in
    let seven = length-take-le 7 (drop (trailer_place m r) r) (omega arith) in
    let shape = trailer-shape (trailer_of m r) seven (not-false (is_trailer (trailer_of m r)) tests.bad_trailer) in
    let halves = sym (take-append-drop 7 (drop (trailer_place m r) r)) in
    let before = before_checksum (header_of hs r) (length_digits m r) (body_of_with hs r) in
    let split : r ≡ (before_checksum (header_of hs r) (length_digits m r) (body_of_with hs r) ++ trailer_of m r) ++ drop 7 (drop (trailer_place m r) r) =
    reads.whole ∙ (ap (λ ys. before_checksum (header_of hs r) (length_digits m r) (body_of_with hs r) ++ ys) halves ∙ sym (append_assoc (before_checksum (header_of hs r) (length_digits m r) (body_of_with hs r)) (trailer_of m r) (drop 7 (drop (trailer_place m r) r)))) in
    let place : trailer_place m r ≡ length (before_checksum (header_of hs r) (length_digits m r) (body_of_with hs r)) =
    Reads-trailer r (header_of hs r) (length_digits m r) (body_of_with hs r) (drop (trailer_place m r) r) reads in
    let both = length-append (before_checksum (header_of hs r) (length_digits m r) (body_of_with hs r)) (trailer_of m r) in
    let taken : take (frame_size_with hs r) r ≡ before_checksum (header_of hs r) (length_digits m r) (body_of_with hs r) ++ trailer_of m r =
    ap (λ ys. take (frame_size_with hs r) ys) split ∙ take_at (before_checksum (header_of hs r) (length_digits m r) (body_of_with hs r) ++ trailer_of m r) (drop 7 (drop (trailer_place m r) r)) (frame_size_with hs r) (omega arith) in
    let count = length-length_digits m r in
    let bad = or_parts (length (length_digits m r) == 0 || not (slice_index r (m + length (length_digits m r)) == 1)) (nat_lt 1048576 (body_size m r)) tests.bad_length in
    let some = eqb-false (length (length_digits m r)) 0 (or_parts (length (length_digits m r) == 0) (not (slice_index r (m + length (length_digits m r)) == 1)) bad.0).0 in
    let few = leb-false 10 (length (length_digits m r)) tests.long in
    let great = ltb-false 1048576 (body_size m r) bad.1 in
    let cut = length-drop 3 (trailer_of m r) in
    let three = length-take-le 3 (drop 3 (trailer_of m r)) (omega arith) in
    let value = eqb-true (digits_value 10 (slice_range (trailer_of m r) 3 6)) (sum (take (trailer_place m r) r) % 256) (not-false _ tests.bad_sum) in
    let summed : take (trailer_place m r) r ≡ before_checksum (header_of hs r) (length_digits m r) (body_of_with hs r) =
    Reads-before r (header_of hs r) (length_digits m r) (body_of_with hs r) (drop (trailer_place m r) r) reads in
    record {
      head = header_of hs r;
      known = found.0;
      length_digits = length_digits m r;
      sum_digits = slice_range (trailer_of m r) 3 6;
      whole = taken ∙ ap (λ ys. before_checksum (header_of hs r) (length_digits m r) (body_of_with hs r) ++ ys) shape;
      are_digits = and_from _ _ (and_from _ _ (le-leb 1 (length (length_digits m r)) (omega arith)) (le-leb (length (length_digits m r)) 9 (omega arith))) reads.each;
      counted = reads.counted;
      bounded = omega (arith, reads.counted);
      three = and_from _ _ (and_from _ _ (le-leb 3 (length (slice_range (trailer_of m r) 3 6)) (omega arith)) (le-leb (length (slice_range (trailer_of m r) 3 6)) 3 (omega arith))) (trailer-digits (trailer_of m r) (not-false (is_trailer (trailer_of m r)) tests.bad_trailer));
      summed = value ∙ ap (λ ys. sum ys % 256) summed;
    }

-- the message at a place, by the places found after it
pub found-at : (hs : List (List ℕ)) (bytes : List ℕ) (at b t : ℕ) → at ≤ length bytes → frame_fault_with hs (drop at bytes) ≡ None → b ≡ body_place (header_size hs (drop at bytes)) (drop at bytes) → t ≡ trailer_place (header_size hs (drop at bytes)) (drop at bytes) → IsFrameAt hs bytes at (record { start = at; body = at + b; end = at + t + 7 })
found-at hs bytes at b t inside none body place =
    let m = header_size hs (drop at bytes) in
    let tests = NoFault-from_none hs (drop at bytes) none in
    let fits = NoFault-size hs (drop at bytes) tests in
    let rest = length-drop at bytes in
    let all : at + t + 7 - at ≡ frame_size_with hs (drop at bytes) = omega arith in
    let part : at + t + 7 - 7 - (at + b) ≡ body_size m (drop at bytes) = omega arith in
    let moved : drop (at + b) bytes ≡ drop (body_place m (drop at bytes)) (drop at bytes) = ap (λ (k : ℕ). drop (at + k) bytes) body ∙ sym (drop-drop (body_place m (drop at bytes)) at bytes) in
    record {
      begins = refl;
      within = omega arith;
      body_later = omega arith;
      before = omega arith;
      message = rw (all, part, moved) (NoFault-IsFrame hs (drop at bytes) tests);
    }
