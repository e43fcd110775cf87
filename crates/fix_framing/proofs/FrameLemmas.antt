-- What a text is that has no fault, and what a message is read as.
use Rattle.std.proofs.Common.{◌≡◌, ℕ, ◌+◌, Bool, true, false, List, [], ◌∷◌, ◌++◌, length, take, drop, refl, append_assoc, arith}
use Rattle.std.specs.List.{list_all, prefix_len}
use Rattle.std.specs.Char.{is_ascii_digit}
use Rattle.std.specs.Str.Parse.{digits_value}
use Rattle.std.proofs.lemmas.List.{length-append, take_at, drop_at}
use Rattle.std.proofs.lemmas.Bool.{and_parts}
use Rattle.fix_framing.specs.Frames.{before_checksum, checksum_field, IsFrameWith, length_digits, body_size, body_place, trailer_place}

-- r begins with this header, digits, SOH and as many bytes as the digits say; the tail follows
pub record Reads (r head digits body tail : List ℕ) : Type 0 where
  pub whole : r ≡ before_checksum head digits body ++ tail
  pub each : list_all is_ascii_digit digits ≡ true
  pub counted : digits_value 10 digits ≡ length body

prefix_len-stop : (p : ℕ → Bool) (xs : List ℕ) (y : ℕ) (ys : List ℕ) → list_all p xs ≡ true → p y ≡ false → prefix_len p (xs ++ y ∷ ys) ≡ length xs
prefix_len-stop p [] y ys each stop = rw stop refl
prefix_len-stop p (x ∷ xs) y ys each stop =
    let both = and_parts (p x) (list_all p xs) each in
    let more = prefix_len-stop p xs y ys both.1 stop in rw both.0 (omega arith)

-- what follows the header
pub Reads-rest : (r h ds b tail : List ℕ) → Reads r h ds b tail → drop (length h) r ≡ ds ++ (1 ∷ (b ++ tail))
Reads-rest r h ds b tail reads =
    let regrouped : before_checksum h ds b ++ tail ≡ h ++ (ds ++ (1 ∷ (b ++ tail))) = simp append_assoc in
    rw (reads.whole, regrouped) (drop_at h (ds ++ (1 ∷ (b ++ tail))) (length h) refl)

pub Reads-digits : (r h ds b tail : List ℕ) → Reads r h ds b tail → length_digits (length h) r ≡ ds
Reads-digits r h ds b tail reads =
    let rest = Reads-rest r h ds b tail reads in
    let count : prefix_len is_ascii_digit (drop (length h) r) ≡ length ds = rw rest (prefix_len-stop is_ascii_digit ds 1 (b ++ tail) reads.each refl) in
    rw (count, rest) (take_at ds (1 ∷ (b ++ tail)) (length ds) refl)

pub Reads-size : (r h ds b tail : List ℕ) → Reads r h ds b tail → body_size (length h) r ≡ length b
Reads-size r h ds b tail reads = rw (Reads-digits r h ds b tail reads) reads.counted

pub Reads-body : (r h ds b tail : List ℕ) → Reads r h ds b tail → body_place (length h) r ≡ length h + length ds + 1
Reads-body r h ds b tail reads = rw (Reads-digits r h ds b tail reads) refl

pub length-before : (h ds b : List ℕ) → length (before_checksum h ds b) ≡ length h + length ds + 1 + length b
length-before h ds b =
    let outer = length-append (h ++ ds) (1 ∷ b) in
    let inner = length-append h ds in
    omega arith

pub Reads-trailer : (r h ds b tail : List ℕ) → Reads r h ds b tail → trailer_place (length h) r ≡ length (before_checksum h ds b)
Reads-trailer r h ds b tail reads =
    let body = Reads-body r h ds b tail reads in
    let size = Reads-size r h ds b tail reads in
    let all = length-before h ds b in omega arith

pub Reads-before : (r h ds b tail : List ℕ) → Reads r h ds b tail → take (trailer_place (length h) r) r ≡ before_checksum h ds b
Reads-before r h ds b tail reads =
    let place = Reads-trailer r h ds b tail reads in
    rw place (rw reads.whole (take_at (before_checksum h ds b) tail (length (before_checksum h ds b)) refl))

pub Reads-tail : (r h ds b tail : List ℕ) → Reads r h ds b tail → drop (trailer_place (length h) r) r ≡ tail
Reads-tail r h ds b tail reads =
    let place = Reads-trailer r h ds b tail reads in
    rw place (rw reads.whole (drop_at (before_checksum h ds b) tail (length (before_checksum h ds b)) refl))

-- after the SOH that ends the length
pub Reads-behind : (r h ds b tail : List ℕ) → Reads r h ds b tail → drop (body_place (length h) r) r ≡ b ++ tail
Reads-behind r h ds b tail reads =
    let place = Reads-body r h ds b tail reads in
    let regrouped : before_checksum h ds b ++ tail ≡ (h ++ (ds ++ (1 ∷ []))) ++ (b ++ tail) = simp append_assoc in
    let outer = length-append h (ds ++ (1 ∷ [])) in
    let inner = length-append ds (1 ∷ []) in
    rw place (rw (reads.whole, regrouped) (drop_at (h ++ (ds ++ (1 ∷ []))) (b ++ tail) (length h + length ds + 1) (omega arith)))

pub Reads-body_of : (r h ds b tail : List ℕ) → Reads r h ds b tail → take (body_size (length h) r) (drop (body_place (length h) r) r) ≡ b
Reads-body_of r h ds b tail reads =
    rw (Reads-behind r h ds b tail reads, Reads-size r h ds b tail reads) (take_at b tail (length b) refl)

-- A message followed by anything: no test fails, and its parts are found.
before-rest : (h ds b : List ℕ) → before_checksum h ds b ≡ h ++ (ds ++ (1 ∷ b))
before-rest h ds b = append_assoc h ds (1 ∷ b)

pub IsFrameWith-reads : (headers : List (List ℕ)) (f b more : List ℕ) (frame : IsFrameWith headers f b) → Reads (f ++ more) frame.head frame.length_digits b (checksum_field frame.sum_digits ++ more)
IsFrameWith-reads headers f b more frame =
    let few = and_parts _ _ frame.are_digits in
    record {
      whole = rw frame.whole (append_assoc (before_checksum frame.head frame.length_digits b) (checksum_field frame.sum_digits) more);
      each = few.1;
      counted = frame.counted;
    }
