-- A fault other than Truncated stays, whatever follows. A text that is Truncated is short.
use Rattle.std.proofs.Common.{◌≡◌, ◌≢◌, ℕ, suc, ◌+◌, ◌<◌, ◌≤◌, ◌%◌, Bool, true, false, cond, not, ◌||◌, ◌==◌, Some, List, [], ◌∷◌, ◌++◌, length, take, drop, sum, refl, sym, ap, ◌∙◌, append_assoc, arith}
use Rattle.std.specs.Prelude.{slice_index, nat_le, nat_lt}
use Rattle.std.specs.List.{prefix_len, slice_range}
use Rattle.std.specs.Char.{is_ascii_digit}
use Rattle.std.specs.Str.Parse.{digits_value}
use Rattle.std.proofs.lemmas.List.{length-drop, length-append, get_or_append_left, drop-append-le, take-append-le}
use Rattle.std.proofs.lemmas.List.Sums.{prefix_len-le-length}
use Rattle.std.proofs.lemmas.Bool.{or_parts, le-ltb, ltb-true, ltb-false, leb-true, leb-false, ne_eqb, eqb-true, eqb-false, le-leb}
use Rattle.fix_framing.specs.declared.frames.FrameFault.{FrameFault}
use Rattle.fix_framing.specs.declared.frames.FrameFault.TheVariants.{Truncated}
use Rattle.fix_framing.specs.Headers.{AreHeaders, header_of, header_size}
use Rattle.fix_framing.specs.Frames.{length_digits, body_size, body_place, trailer_place, trailer_of, has_bad_begin, ends_in_header, has_long_length, ends_in_length, has_bad_length, ends_in_body, is_trailer, has_bad_sum, frame_fault_with, longest_frame_with}
use Rattle.fix_framing.proofs.LengthLemmas.{count_of, length-length_digits}
use Rattle.fix_framing.proofs.TestLemmas.{FaultCase, FaultCase-from_some, some-from_FaultCase, first, second, third, fourth, fifth, sixth, seventh, eighth}
use Rattle.fix_framing.proofs.HeaderLemmas.{begins-header, begins-otherwise-more, begins-with, header-whole, header_size-is, header_size-of, header-inside, header-longest, cut-longest}

-- a text that is Truncated is shorter than the longest message
bound-by_case : (hs : List (List ℕ)) (r : List ℕ) → FaultCase hs r Truncated → length r < longest_frame_with hs
bound-by_case hs r (first h1 is) = absurd (cc)
bound-by_case hs r (second h1 h2 is) = let few = cut-longest hs r h2 in omega arith
bound-by_case hs r (third h1 h2 h3 is) = absurd (cc)
bound-by_case hs r (fourth h1 h2 h3 h4 is) =
    let n = header_size hs r in
    let most = header-longest hs r (begins-header hs r h1 h2) in
    let few = leb-false 10 (length (length_digits n r)) h3 in
    let all = eqb-true (length r) (n + length (length_digits n r)) h4 in omega arith
bound-by_case hs r (fifth h1 h2 h3 h4 h5 is) = absurd (cc)
bound-by_case hs r (sixth h1 h2 h3 h4 h5 h6 is) =
    let n = header_size hs r in
    let most = header-longest hs r (begins-header hs r h1 h2) in
    let few = leb-false 10 (length (length_digits n r)) h3 in
    let great = ltb-false 1048576 (body_size n r) (or_parts (length (length_digits n r) == 0 || not (slice_index r (n + length (length_digits n r)) == 1)) (nat_lt 1048576 (body_size n r)) h5).1 in
    let room = ltb-true (length (drop (body_place n r) r)) (body_size n r + 7) h6 in
    let rest = length-drop (body_place n r) r in omega arith
bound-by_case hs r (seventh h1 h2 h3 h4 h5 h6 h7 is) = absurd (cc)
bound-by_case hs r (eighth h1 h2 h3 h4 h5 h6 h7 h8 is) = absurd (cc)

pub Truncated-bound : (hs : List (List ℕ)) (r : List ℕ) → frame_fault_with hs r ≡ Some Truncated → length r < longest_frame_with hs
Truncated-bound hs r cut = bound-by_case hs r (FaultCase-from_some hs r Truncated cut)

-- the front that passes, in a longer text
cond-grows : (b : Bool) (m n : ℕ) → m ≤ n → cond b (1 + m) 0 ≤ cond b (1 + n) 0
cond-grows true m n h = omega arith
cond-grows false m n h = omega arith

prefix_len-grows : (p : ℕ → Bool) (xs ys : List ℕ) → prefix_len p xs ≤ prefix_len p (xs ++ ys)
prefix_len-grows p [] ys = omega arith
prefix_len-grows p (x ∷ xs) ys = cond-grows (p x) (prefix_len p xs) (prefix_len p (xs ++ ys)) (prefix_len-grows p xs ys)

cond-same : (b : Bool) (m n k : ℕ) → cond b (1 + m) 0 < suc k → (m < k → n ≡ m) → cond b (1 + n) 0 ≡ cond b (1 + m) 0
cond-same true m n k inside same = let e = same (omega arith) in omega arith
cond-same false m n k inside same = refl

prefix_len-same : (p : ℕ → Bool) (xs ys : List ℕ) → prefix_len p xs < length xs → prefix_len p (xs ++ ys) ≡ prefix_len p xs
prefix_len-same p [] ys inside = absurd (omega arith)
prefix_len-same p (x ∷ xs) ys inside = cond-same (p x) (prefix_len p xs) (prefix_len p (xs ++ ys)) (length xs) inside (prefix_len-same p xs ys)

-- what begins as a message does, however it goes on: the header is the same
header-more : (hs : List (List ℕ)) (r m : List ℕ) → has_bad_begin hs r ≡ false → ends_in_header hs r ≡ false → AreHeaders hs → (has_bad_begin hs (r ++ m) ≡ false) × (ends_in_header hs (r ++ m) ≡ false) × (header_size hs (r ++ m) ≡ header_size hs r) × (header_size hs r ≤ length r)
header-more hs r m begins uncut are =
    let found = begins-header hs r begins uncut in
    let head = header_of hs r in
    let rest = drop (header_size hs r) r ++ m in
    let whole : r ++ m ≡ head ++ rest = ap (λ xs. xs ++ m) found.1 ∙ append_assoc head (drop (header_size hs r) r) m in (
      begins-with hs head (r ++ m) rest found.0 whole,
      header-whole hs head (r ++ m) rest are found.0 whole,
      header_size-is hs head (r ++ m) rest are found.0 whole ∙ sym (header_size-of hs r),
      header-inside hs r found,
    )

-- where a byte follows the digits, they are the same in a longer text
pub digits-more : (n : ℕ) (r m : List ℕ) → n ≤ length r → ends_in_length n r ≡ false → length_digits n (r ++ m) ≡ length_digits n r
digits-more n r m long more =
    let count = length-length_digits n r in
    let apart = eqb-false (length r) (n + length (length_digits n r)) more in
    let most = prefix_len-le-length is_ascii_digit (drop n r) in
    let rest = length-drop n r in
    let inside : count_of n r < length (drop n r) = omega arith in
    let joined = drop-append-le n r m long in
    let same : count_of n (r ++ m) ≡ count_of n r = ap (prefix_len is_ascii_digit) joined ∙ prefix_len-same is_ascii_digit (drop n r) m inside in
    let shown : take (count_of n r) (drop n r ++ m) ≡ length_digits n r = take-append-le (count_of n r) (drop n r) m (omega arith) in
    rw (same, joined) shown

pub has_long_length-more : (n : ℕ) (r m : List ℕ) → n ≤ length r → has_long_length n r ≡ true → has_long_length n (r ++ m) ≡ true
has_long_length-more n r m long many =
    let count = length-length_digits n r in
    let more = length-length_digits n (r ++ m) in
    let ten = leb-true 10 (length (length_digits n r)) many in
    let grows = prefix_len-grows is_ascii_digit (drop n r) m in
    let joined = drop-append-le n r m long in
    let same : count_of n (r ++ m) ≡ prefix_len is_ascii_digit (drop n r ++ m) = ap (prefix_len is_ascii_digit) joined in
    le-leb 10 (length (length_digits n (r ++ m))) (omega arith)

-- r and a longer text, where a byte follows the digits of r
record Alike (n : ℕ) (r s : List ℕ) : Type 0 where
  digits : length_digits n s ≡ length_digits n r
  long : has_long_length n s ≡ has_long_length n r
  ends : ends_in_length n s ≡ ends_in_length n r
  bad : has_bad_length n s ≡ has_bad_length n r

alike-more : (n : ℕ) (r m : List ℕ) → n ≤ length r → ends_in_length n r ≡ false → Alike n r (r ++ m)
alike-more n r m long more =
    let same = digits-more n r m long more in
    let count = length-length_digits n r in
    let apart = eqb-false (length r) (n + length (length_digits n r)) more in
    let most = prefix_len-le-length is_ascii_digit (drop n r) in
    let rest = length-drop n r in
    let both = length-append r m in
    let lengths = ap length same in
    let here = get_or_append_left r m 0 (n + length (length_digits n r)) (omega arith) in
    record {
      digits = same;
      long = ap (λ (ds : List ℕ). nat_le 10 (length ds)) same;
      ends = ne_eqb (length (r ++ m)) (n + length (length_digits n (r ++ m))) (λ e. omega arith) ∙ sym more;
      bad = rw (same, here) refl;
    }

-- r and a longer text, where r has all of the message
parts-more : (n : ℕ) (r m : List ℕ) → Alike n r (r ++ m) → ends_in_body n r ≡ false → (ends_in_body n (r ++ m) ≡ false) × (trailer_of n (r ++ m) ≡ trailer_of n r) × (take (trailer_place n (r ++ m)) (r ++ m) ≡ take (trailer_place n r) r)
parts-more n r m alike fits =
    let room = ltb-false (length (drop (body_place n r) r)) (body_size n r + 7) fits in
    let rest = length-drop (body_place n r) r in
    let tail = length-drop (trailer_place n r) r in
    let both = length-append r m in
    let longer = length-drop (body_place n r) (r ++ m) in
    let behind = drop-append-le (trailer_place n r) r m (omega arith) in
    let seven = take-append-le 7 (drop (trailer_place n r) r) m (omega arith) in
    let front = take-append-le (trailer_place n r) r m (omega arith) in
    let place : trailer_place n (r ++ m) ≡ trailer_place n r = ap (λ (ds : List ℕ). n + length ds + 1 + digits_value 10 ds) alike.digits in
    let body : body_place n (r ++ m) ≡ body_place n r = ap (λ (ds : List ℕ). n + length ds + 1) alike.digits in
    let size : body_size n (r ++ m) ≡ body_size n r = ap (digits_value 10) alike.digits in
    let enough : body_size n r + 7 ≤ length (drop (body_place n r) (r ++ m)) = omega arith in (
      rw (body, size) (le-ltb (length (drop (body_place n r) (r ++ m))) (body_size n r + 7) enough),
      ap (λ (k : ℕ). take 7 (drop k (r ++ m))) place ∙ (ap (λ xs. take 7 xs) behind ∙ seven),
      ap (λ (k : ℕ). take k (r ++ m)) place ∙ front,
    )

stays-by_case : (hs : List (List ℕ)) (r m : List ℕ) (e : FrameFault) → AreHeaders hs → e ≢ Truncated → FaultCase hs r e → FaultCase hs (r ++ m) e
stays-by_case hs r m e are not_cut (first h1 is) = first (begins-otherwise-more hs r m h1) is
stays-by_case hs r m e are not_cut (second h1 h2 is) = absurd (not_cut is)
stays-by_case hs r m e are not_cut (third h1 h2 h3 is) =
    let n = header_size hs r in
    let head = header-more hs r m h1 h2 are in
    third head.0 head.1 (rw head.2 (has_long_length-more n r m head.3 h3)) is
stays-by_case hs r m e are not_cut (fourth h1 h2 h3 h4 is) = absurd (not_cut is)
stays-by_case hs r m e are not_cut (fifth h1 h2 h3 h4 h5 is) =
    let n = header_size hs r in
    let head = header-more hs r m h1 h2 are in
    let alike = alike-more n r m head.3 h4 in
    fifth head.0 head.1 (rw head.2 (alike.long ∙ h3)) (rw head.2 (alike.ends ∙ h4)) (rw head.2 (alike.bad ∙ h5)) is
stays-by_case hs r m e are not_cut (sixth h1 h2 h3 h4 h5 h6 is) = absurd (not_cut is)
stays-by_case hs r m e are not_cut (seventh h1 h2 h3 h4 h5 h6 h7 is) =
    let n = header_size hs r in
    let head = header-more hs r m h1 h2 are in
    let alike = alike-more n r m head.3 h4 in
    let parts = parts-more n r m alike h6 in
    seventh head.0 head.1 (rw head.2 (alike.long ∙ h3)) (rw head.2 (alike.ends ∙ h4)) (rw head.2 (alike.bad ∙ h5)) (rw head.2 parts.0) (rw head.2 (ap (λ ys. not (is_trailer ys)) parts.1 ∙ h7)) is
stays-by_case hs r m e are not_cut (eighth h1 h2 h3 h4 h5 h6 h7 h8 is) =
    let n = header_size hs r in
    let head = header-more hs r m h1 h2 are in
    let alike = alike-more n r m head.3 h4 in
    let parts = parts-more n r m alike h6 in
    let sums : has_bad_sum n (r ++ m) ≡ has_bad_sum n r =
    ap (λ ys. not (digits_value 10 (slice_range ys 3 6) == sum (take (trailer_place n (r ++ m)) (r ++ m)) % 256)) parts.1 ∙
    ap (λ xs. not (digits_value 10 (slice_range (trailer_of n r) 3 6) == sum xs % 256)) parts.2 in
    eighth head.0 head.1 (rw head.2 (alike.long ∙ h3)) (rw head.2 (alike.ends ∙ h4)) (rw head.2 (alike.bad ∙ h5)) (rw head.2 parts.0) (rw head.2 (ap (λ ys. not (is_trailer ys)) parts.1 ∙ h7)) (rw head.2 (sums ∙ h8)) is

-- a fault other than Truncated stays, whatever follows
pub fault-stays : (hs : List (List ℕ)) (r m : List ℕ) (e : FrameFault) → AreHeaders hs → frame_fault_with hs r ≡ Some e → e ≢ Truncated → frame_fault_with hs (r ++ m) ≡ Some e
fault-stays hs r m e are fault not_cut = some-from_FaultCase hs (r ++ m) e (stays-by_case hs r m e are not_cut (FaultCase-from_some hs r e fault))
