-- What 64 digits write is written by them again.
use Rattle.std.proofs.Common.{◌≡◌, ℕ, zero, suc, ◌+◌, ◌*◌, ◌/◌, ◌%◌, ◌<◌, Bool, true, false, ◌&&◌, ◌||◌, not, eqb, ltb, cond, List, [], ◌∷◌, length, slice_index, Option, Some, None, unwrap_or, Ok, Err, refl, sym, ap, ap₂, ◌∙◌, arith, inl, inr}
use Rattle.std.specs.List.{list_all}
use Rattle.std.proofs.lemmas.Bool.{and_parts, cases_eq, eqb-true, ltb-true}
use Rattle.hex.specs.Hex.{decode_pairs, decode_sized, encode_lower, encode_with, hex_digit_value, lower_digits, pair_value}
use Rattle.hex.specs.declared.error.FromHexError.TheVariants.{OddLength, InvalidStringLength}
use Rattle.hex.proofs.Pairs.{cons_byte, decode_pairs-ok_pair}
use Rattle.log_digests.specs.DigestDigits.{is_lower_digit, are_digest_digits}

-- the value of a digit writes the digit, as a test that computes
abbrev writes_again : ℕ → Bool
writes_again c = not (is_lower_digit c) || (ltb (unwrap_or (hex_digit_value c) 99) 16 && eqb (slice_index lower_digits (unwrap_or (hex_digit_value c) 99)) c)

abbrev all_write_again : ℕ → Bool
all_write_again zero = true
all_write_again (suc n) = writes_again n && all_write_again n

at_each : (n c : ℕ) → all_write_again n ≡ true → c < n → writes_again c ≡ true
at_each zero c h lt = absurd (omega arith)
at_each (suc n) c h lt =
    let parts = and_parts (writes_again n) (all_write_again n) h in
    elim (cases_eq c n) [ inl same ↦ rw same parts.0 | inr other ↦ at_each n c parts.1 (omega arith) ]

small : (c : ℕ) → is_lower_digit c ≡ true → c < 128
small c h = grind (arith)

record IsDigit (c : ℕ) : Type 0 where
  value : ℕ
  is : hex_digit_value c ≡ Some value
  below : value < 16
  again : slice_index lower_digits value ≡ c

digit_of : (c : ℕ) → is_lower_digit c ≡ true → IsDigit c
digit_of c h = told (hex_digit_value c) refl (tested (is_lower_digit c) _ h (at_each 128 c refl (small c h)))
  where
    tested : (b rest : Bool) → b ≡ true → (not b || rest) ≡ true → rest ≡ true
    tested true rest e t = t
    tested false rest e t = absurd cc

    told : (o : Option ℕ) → hex_digit_value c ≡ o → (ltb (unwrap_or o 99) 16 && eqb (slice_index lower_digits (unwrap_or o 99)) c) ≡ true → IsDigit c
    told None e t = absurd cc
    told (Some v) e t =
        let parts = and_parts (ltb v 16) (eqb (slice_index lower_digits v) c) t in
        record { value = v; is = e; below = ltb-true v 16 parts.0; again = eqb-true (slice_index lower_digits v) c parts.1 }

record ReadsAgain (i : ℕ) (digits : List ℕ) : Type 0 where
  bytes : List ℕ
  read : decode_pairs i digits ≡ Ok bytes
  again : encode_lower bytes ≡ digits

reads_again : (i : ℕ) (digits : List ℕ) → length digits % 2 ≡ 0 → list_all is_lower_digit digits ≡ true → ReadsAgain i digits
unfolding decode_pairs encode_with
reads_again i [] even all = record { bytes = []; read = refl; again = refl }
reads_again i (a ∷ []) even all = absurd (omega arith)
reads_again i (a ∷ b ∷ rest) even all =
    let first = and_parts (is_lower_digit a) (is_lower_digit b && list_all is_lower_digit rest) all in
    let second = and_parts (is_lower_digit b) (list_all is_lower_digit rest) first.1 in
    let high = digit_of a first.0 in
    let low = digit_of b second.0 in
    let more = reads_again (i + 2) rest (omega arith) second.1 in
    let pair : pair_value a b i ≡ Ok (high.value * 16 + low.value) = rw (high.is, low.is) refl in
    let above : (high.value * 16 + low.value) / 16 ≡ high.value = omega (arith, low.below) in
    let beneath : (high.value * 16 + low.value) % 16 ≡ low.value = omega (arith, low.below) in
    record {
      bytes = (high.value * 16 + low.value) ∷ more.bytes;
      read = decode_pairs-ok_pair i a b (high.value * 16 + low.value) rest pair ∙ ap (cons_byte (high.value * 16 + low.value)) more.read;
      again = ap₂ (λ x xs. x ∷ xs) (ap (slice_index lower_digits) above ∙ high.again) (ap₂ (λ x xs. x ∷ xs) (ap (slice_index lower_digits) beneath ∙ low.again) more.again);
    }

pub record AreWritten (digits : List ℕ) : Type 0 where
  pub bytes : List ℕ
  pub read : decode_sized digits 32 ≡ Ok bytes
  pub again : digits ≡ encode_lower bytes

-- 64 digits in lower case are those of 32 bytes
pub are_written : (digits : List ℕ) → are_digest_digits digits ≡ true → AreWritten digits
are_written digits are =
    let parts = and_parts (eqb (length digits) 64) (list_all is_lower_digit digits) are in
    let size : length digits ≡ 64 = eqb-true (length digits) 64 parts.0 in
    let told = reads_again 0 digits (omega arith) parts.1 in
    record { bytes = told.bytes; read = ap (λ n. cond (eqb (n % 2) 1) (Err OddLength) (cond (eqb (n / 2) 32) (decode_pairs 0 digits) (Err InvalidStringLength))) size ∙ told.read; again = sym told.again }
