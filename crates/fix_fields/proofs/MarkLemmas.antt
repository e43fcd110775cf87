-- Marks, against the bytes that they stand for.
use Rattle.std.proofs.Common.{◌≡◌, ℕ, zero, suc, ◌+◌, ◌-◌, ◌/◌, ◌%◌, ◌^◌, ◌<◌, ◌≤◌, Bool, true, false, cond, Option, Some, None, List, ◌++◌, length, get_or, map, replicate, drop, refl, sym, subst, ap, ◌∙◌, inl, inr, arith}
use Rattle.std.specs.Int.{bit_at}
use Rattle.std.specs.Simd.Lanes.{mask_l, chunk}
use Rattle.std.proofs.lemmas.Simd.{bit_mask_l, get_or-chunk, length-chunk}
use Rattle.std.proofs.lemmas.Nat.{shr-shr}
use Rattle.std.proofs.lemmas.Nat.Bits.{bit_at-zero}
use Rattle.std.proofs.Math.ListN.{get_or-map, get_or-eq_default}
use Rattle.std.proofs.Math.Seq.{get_or-append_right}
use Rattle.std.proofs.lemmas.List.{get_or-drop, get_or_append_left, length-drop}
use Rattle.std.proofs.lemmas.Bool.{cases_lt, false≢true}
use Rattle.memchr.specs.Find.{IsFirst, NoneBefore, Nowhere, is_byte}
use Rattle.fix_fields.specs.Marks.{AreMarks, IsEnd}

-- a bit that is set where a test passes
set-of : (b : Bool) → b ≡ true → cond {A = ℕ} b 1 0 ≡ 1
set-of true is = refl
set-of false is = absurd (false≢true is)

of-set : (b : Bool) → cond {A = ℕ} b 1 0 ≡ 1 → b ≡ true
of-set true is = refl
of-set false is = absurd (omega (arith, is))

mark-of : (bytes : List ℕ) (k : ℕ) → bit_at (mask_l (map (is_byte 1) bytes)) k ≡ cond (is_byte 1 (get_or bytes k 0)) 1 0
mark-of bytes k = bit_mask_l (map (is_byte 1) bytes) k ∙ ap (λ (b : Bool). cond b 1 0) (get_or-map (is_byte 1) bytes k 0)

-- a byte that is SOH is there
pub end-inside : (bytes : List ℕ) (k : ℕ) → IsEnd bytes k → k < length bytes
end-inside bytes k passes = elim (cases_lt k (length bytes)) [
  | inl low ↦ low
  | inr high ↦ absurd (false≢true (sym (ap (is_byte 1) (get_or-eq_default bytes 0 high)) ∙ passes))
]

-- the marks of 64 bytes that are there
pub block-marks : (text : List ℕ) (at : ℕ) → at + 64 ≤ length text → AreMarks text at (mask_l (map (is_byte 1) (chunk at 64 text)))
block-marks text at room = record {
  each = λ k low passes. mark-of (chunk at 64 text) k ∙ set-of (is_byte 1 (get_or (chunk at 64 text) k 0)) (ap (is_byte 1) (get_or-chunk at 64 text k 0 low) ∙ passes);
  only = λ k set.
      let here : is_byte 1 (get_or (chunk at 64 text) k 0) ≡ true = of-set (is_byte 1 (get_or (chunk at 64 text) k 0)) (sym (mark-of (chunk at 64 text) k) ∙ set) in
      let low : k < 64 = omega (arith, end-inside (chunk at 64 text) k here, length-chunk at 64 text room) in
      (low, ap (is_byte 1) (sym (get_or-chunk at 64 text k 0 low)) ∙ here);
}

-- those of the last bytes of a text, with zeros after them
zeros : (n k : ℕ) → get_or (replicate n zero) k zero ≡ zero
zeros zero k = refl
zeros (suc n) zero = refl
zeros (suc n) (suc k) = zeros n k

same-bytes : (text : List ℕ) (at n k : ℕ) → get_or (drop at text ++ replicate n 0) (0 + k) 0 ≡ get_or text (at + k) 0
same-bytes text at n k =
    let none : 0 + k ≡ k = omega arith in
    ap (λ (m : ℕ). get_or (drop at text ++ replicate n 0) m 0) none
    ∙ elim (cases_lt k (length (drop at text))) [
      | inl low ↦ get_or_append_left (drop at text) (replicate n 0) 0 k low ∙ get_or-drop at text k 0
      | inr high ↦
          get_or-append_right (drop at text) (replicate n 0) k 0 high ∙ zeros n (k - length (drop at text))
          ∙ sym (get_or-eq_default text 0 (omega (arith, high, length-drop at text)))
    ]

pub rest-marks : (text : List ℕ) (at n marks : ℕ) → AreMarks (drop at text ++ replicate n 0) 0 marks → AreMarks text at marks
rest-marks text at n marks are = record {
  each = λ k low passes. are.each k low (ap (is_byte 1) (same-bytes text at n k) ∙ passes);
  only = λ k set. let here = are.only k set in (here.0, ap (is_byte 1) (sym (same-bytes text at n k)) ∙ here.1);
}

-- the marks from a place on
module _ (text : List ℕ) (start marks at : ℕ) (are : AreMarks text start marks) (low : start ≤ at) where
  left-bit : (k : ℕ) → bit_at (marks / 2 ^ (at - start)) k ≡ bit_at marks (at - start + k)
  left-bit k = ap (λ (n : ℕ). n % 2) (shr-shr marks (at - start) k)

  -- a place whose bit is clear is no end
  unmarked : (k : ℕ) → at ≤ k → k < start + 64 → bit_at (marks / 2 ^ (at - start)) (k - at) ≡ 0 → ¬ IsEnd text k
  unmarked k behind short clear passes =
      let there : k ≡ start + (k - start) = omega (arith, low, behind) in
      let same : at - start + (k - at) ≡ k - start = omega (arith, low, behind) in
      let set : bit_at marks (k - start) ≡ 1 = are.each (k - start) (omega (arith, short, low, behind)) (subst (IsEnd text) there passes) in
      let none : bit_at marks (k - start) ≡ 0 = ap (bit_at marks) (sym same) ∙ sym (left-bit (k - at)) ∙ clear in
      absurd (omega (arith, set, none))

  pub none-marked : marks / 2 ^ (at - start) ≡ 0 → Nowhere (IsEnd text) at (start + 64)
  none-marked none k behind short =
      unmarked k behind short (ap (λ (n : ℕ). bit_at n (k - at)) none ∙ bit_at-zero (k - at))

  pub first-marked : (b : ℕ) → bit_at (marks / 2 ^ (at - start)) b ≡ 1 → ((k : ℕ) → k < b → bit_at (marks / 2 ^ (at - start)) k ≡ 0)
      → NoneBefore (IsEnd text) at (length text) (at + b) × IsEnd text (at + b)
  first-marked b set clear =
      let here = are.only (at - start + b) (sym (left-bit b) ∙ set) in
      let place : start + (at - start + b) ≡ at + b = omega (arith, low) in
      let passes : IsEnd text (at + b) = subst (IsEnd text) place here.1 in (
        record {
          low = omega arith;
          high = end-inside text (at + b) passes;
          before = λ k behind below. unmarked k behind (omega (arith, below, here.0, low)) (clear (k - at) (omega (arith, behind, below)));
        },
        passes,
      )

-- the first one after those that are marked
pub first-after : (text : List ℕ) (at from : ℕ) (r : Option ℕ) → at ≤ from → Nowhere (IsEnd text) at from → IsFirst (IsEnd text) from (length text) r → IsFirst (IsEnd text) at (length text) r
first-after text at from None behind none first = λ k low high passes. elim (cases_lt k from) [
  | inl before ↦ none k low before passes
  | inr after ↦ first k after high passes
]
first-after text at from (Some end) behind none first = (
  record {
    low = omega (arith, behind, first.0.low);
    high = first.0.high;
    before = λ k low high passes. elim (cases_lt k from) [
      | inl before ↦ none k low before passes
      | inr after ↦ first.0.before k after high passes
    ];
  },
  first.1,
)

-- where no byte up to a later place is one, none is before a place still later
pub nowhere-on : (text : List ℕ) (at from to : ℕ) → Nowhere (IsEnd text) at from → Nowhere (IsEnd text) from to → Nowhere (IsEnd text) at to
nowhere-on text at from to none more k low high passes = elim (cases_lt k from) [
  | inl before ↦ none k low before passes
  | inr after ↦ more k after high passes
]
