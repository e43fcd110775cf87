-- Texts of messages: how many messages, and where the CR and LF between them end.
use Rattle.std.proofs.Common.{◌≡◌, ℕ, ◌+◌, ◌*◌, ◌≤◌, true, false, List, [], ◌∷◌, ◌++◌, length, refl, ap, ◌∙◌, inl, inr, arith}
use Rattle.std.specs.List.{list_all}
use Rattle.std.proofs.lemmas.Bool.{and_from, and_parts, cases_Bool, leb-true}
use Rattle.std.proofs.lemmas.List.{length-append}
use Rattle.fix_framing.specs.Breaks.{is_line_end_byte, after_breaks}
use Rattle.fix_framing.specs.Headers.{AreHeaders, any_version}
use Rattle.fix_framing.specs.Frames.{IsFrameWith, before_checksum, checksum_field}
use Rattle.fix_framing.specs.Framing.{IsFramedWith}
use Rattle.fix_framing.proofs.FrameLemmas.{length-before}
use Rattle.fix_days.specs.Framed.{begins_past_breaks}

pub any-headers : AreHeaders any_version
unfolding any_version
any-headers = record { some = omega arith; sized = refl; apart = refl }

-- the CR and LF that a text begins with, and what is after them
pub record Split (text : List ℕ) : Type 0 where
  pub gap : List ℕ
  pub breaks : list_all is_line_end_byte gap ≡ true
  pub whole : text ≡ gap ++ after_breaks text

pub split-breaks : (text : List ℕ) → Split text
split-breaks [] = record { gap = []; breaks = refl; whole = refl }
split-breaks (byte ∷ rest) = elim (cases_Bool (is_line_end_byte byte)) [
  | inl same ↦
      let more = split-breaks rest in
      record {
        gap = byte ∷ more.gap;
        breaks = and_from (is_line_end_byte byte) (list_all is_line_end_byte more.gap) same more.breaks;
        whole = rw same (ap (λ (t : List ℕ). byte ∷ t) more.whole);
      }
  | inr other ↦ record { gap = []; breaks = refl; whole = rw other refl }
]

-- what is after them begins with another byte, where there is one
pub begins-past : (text more : List ℕ) → list_all is_line_end_byte text ≡ false → begins_past_breaks (after_breaks text ++ more) ≡ true
begins-past [] more some = absurd (cc some)
begins-past (byte ∷ rest) more some = elim (cases_Bool (is_line_end_byte byte)) [
  | inl same ↦
      let left : list_all is_line_end_byte rest ≡ false = rw same at some in
      rw same (begins-past rest more left)
  | inr other ↦ rw other (rw other refl)
]

-- a message has at least nine bytes
pub frame-nine : (frame body : List ℕ) → IsFrameWith any_version frame body → 9 ≤ length frame
frame-nine frame body is =
    let few = and_parts _ _ is.are_digits in
    let some = leb-true 1 (length is.length_digits) (and_parts _ _ few.0).0 in
    let three = leb-true 3 (length is.sum_digits) (and_parts _ _ (and_parts _ _ is.three).0).0 in
    let sum_field = length-append is.sum_digits (1 ∷ []) in
    omega (arith, ap length is.whole, length-append (before_checksum is.head is.length_digits body) (checksum_field is.sum_digits), length-before is.head is.length_digits body, some, three, sum_field)

pub framed-nine : (front : List ℕ) (frames : List (List ℕ)) → IsFramedWith any_version front frames → 9 * length frames ≤ length front
framed-nine front [] framed = omega arith
framed-nine front (frame ∷ frames) framed =
    let some = frame-nine frame framed.1 framed.4 in
    let size : length front ≡ length framed.0 + (length frame + length framed.2) =
    ap length framed.5 ∙ length-append framed.0 (frame ++ framed.2) ∙ ap (λ (k : ℕ). length framed.0 + k) (length-append frame framed.2) in
    let rest = framed-nine framed.2 frames framed.6 in omega (arith, some, size, rest)
