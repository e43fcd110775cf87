-- Each day on lines has a reading.
use Rattle.std.proofs.Common.{◌≡◌, ℕ, zero, suc, ◌+◌, ◌-◌, ◌<◌, ◌≤◌, true, not, ◌==◌, Option, Some, None, List, [], ◌∷◌, ◌++◌, length, take, drop, refl, sym, subst, ap, ◌∙◌, inl, inr, append_assoc, arith}
use Rattle.std.specs.Prelude.{◌⊎◌, nat_eq}
use Rattle.std.specs.List.{list_all, starts_with}
use Rattle.std.proofs.lemmas.Bool.{and_parts, cases_Bool, cases_lt}
use Rattle.std.proofs.lemmas.List.{length-append, length-drop, length-take-le, take-append-drop}
use Rattle.std.proofs.lemmas.List.Folds.{list_all-append}
use Rattle.fix_framing.specs.Headers.{any_version}
use Rattle.fix_framing.specs.Frames.{body_of_with, frame_fault_with, frame_size_with}
use Rattle.fix_framing.specs.declared.frames.FrameFault.{FrameFault}
use Rattle.fix_framing.proofs.PrefixLemmas.{split-at}
use Rattle.fix_framing.proofs.TestLemmas.{NoFault-from_none}
use Rattle.fix_framing.proofs.MessageLemmas.{NoFault-IsFrame}
use Rattle.fix_days.specs.declared.faults.BadMessage.{BadMessage}
use Rattle.fix_days.specs.Lines.{BeginsWithFault, BeginsWithMessage, FirstBeginning, HasNoBeginningBelow, HasNoLineEnd, is_beginning, IsLeftAfter, IsLineReading, IsUnit, StandFor}
use Rattle.fix_days.proofs.TextLemmas.{frame-nine}
use Rattle.fix_days.proofs.LookLemmas.{first-line, FirstLine, stand-size, stands-some}

-- the first beginning below a place, or none
record Found (text : List ℕ) (n : ℕ) : Type 0 where
  place : ℕ
  low : place < n
  is : is_beginning text place ≡ true
  first : HasNoBeginningBelow text place

find-below : (text : List ℕ) (n : ℕ) → HasNoBeginningBelow text n ⊎ Found text n
find-below text zero = inl (λ k low. absurd (omega (arith, low)))
find-below text (suc n) = elim (find-below text n) [
  | inr found ↦ let low = found.low in inr (record { place = found.place; low = omega (arith, low); is = found.is; first = found.first })
  | inl none ↦ elim (cases_Bool (is_beginning text n)) [
    | inl is ↦ inr (record { place = n; low = omega arith; is = is; first = none })
    | inr other ↦ inl (λ k low. elim (cases_lt k n) [ inl few ↦ none k few | inr many ↦ ap (is_beginning text) (omega (arith, low, many)) ∙ other ])
  ]
]

-- the bytes of a line are cut where what they stand for is
record Cut (soh raw more xs ys : List ℕ) : Type 0 where
  front : List ℕ
  rest : List ℕ
  cut : raw ≡ front ++ rest
  stands : StandFor soh front (rest ++ more) xs

stand-cut : (soh raw more xs ys : List ℕ) → StandFor soh raw more (xs ++ ys) → Cut soh raw more xs ys
stand-cut soh raw more [] ys is = record { front = []; rest = raw; cut = refl; stands = refl }
stand-cut soh raw more (x ∷ xs) ys is =
    let cut = stand-cut soh is.0 more xs ys is.2 in by-unit cut is.1
  where
    by-unit : Cut soh is.0 more xs ys → IsUnit soh raw more x is.0 → Cut soh raw more (x ∷ xs) ys
    by-unit cut (inl unit) = record {
      front = soh ++ cut.front;
      rest = cut.rest;
      cut = unit.0 ∙ ap (λ (t : List ℕ). soh ++ t) cut.cut ∙ sym (append_assoc soh cut.front cut.rest);
      stands = (cut.front, inl (refl, unit.1), cut.stands);
    }
    by-unit cut (inr unit) =
        let whole : raw ≡ (x ∷ cut.front) ++ cut.rest = unit.0 ∙ ap (λ (t : List ℕ). x ∷ t) cut.cut in
        record {
          front = x ∷ cut.front;
          rest = cut.rest;
          cut = whole;
          stands = (cut.front, inr (refl, ap (λ (t : List ℕ). starts_with nat_eq t soh) (sym (append_assoc (x ∷ cut.front) cut.rest more) ∙ ap (λ (t : List ℕ). t ++ more) (sym whole)) ∙ unit.1), cut.stands);
        }

module _ (soh : List ℕ) (some : 0 < length soh) (line_free : HasNoLineEnd soh) where
  -- what stands at a beginning
  record Message (text : List ℕ) : Type 0 where
    body : List ℕ
    rest : List ℕ
    is : BeginsWithMessage soh text body rest
    shorter : length rest + 9 ≤ length text

  abbrev Fault : List ℕ → Type 0
  Fault text = (fault : FrameFault) × BeginsWithFault soh text fault

  read-line : (text bytes : List ℕ) (line : FirstLine text) (fault : Option FrameFault) → StandFor soh line.line line.later bytes → frame_fault_with any_version bytes ≡ fault → Message text ⊎ Fault text
  read-line text bytes line (Some fault) stands fails =
      inr (fault, record { line = line.line; later = line.later; cut = line.cut; one_line = line.one_line; ends = line.ends; bytes = bytes; stands = stands; fails = fails })
  read-line text bytes line None stands fails =
      let tests = NoFault-from_none any_version bytes fails in
      let message = NoFault-IsFrame any_version bytes tests in
      let size = frame_size_with any_version bytes in
      let frame = take (frame_size_with any_version bytes) bytes in
      let cut = stand-cut soh line.line line.later frame (drop (frame_size_with any_version bytes) bytes) (subst (StandFor soh line.line line.later) (sym (take-append-drop (frame_size_with any_version bytes) bytes)) stands) in
      let lines = and_parts (list_all (λ b. not (b == 10)) cut.front) (list_all (λ b. not (b == 10)) cut.rest) (sym (list_all-append (λ b. not (b == 10)) cut.front cut.rest) ∙ subst HasNoLineEnd cut.cut line.one_line) in
      let whole : text ≡ cut.front ++ (cut.rest ++ line.later) = line.cut ∙ ap (λ (t : List ℕ). t ++ line.later) cut.cut ∙ append_assoc cut.front cut.rest line.later in
      let nine = frame-nine frame (body_of_with any_version bytes) message in
      let long = stand-size soh cut.front (cut.rest ++ line.later) frame some cut.stands in
      let sizes = ap length whole ∙ length-append cut.front (cut.rest ++ line.later) in
      inl (record {
        body = body_of_with any_version bytes;
        rest = cut.rest ++ line.later;
        is = record { raw = cut.front; cut = whole; one_line = lines.0; frame = frame; stands = cut.stands; message = message };
        shorter = omega (arith, nine, long, sizes);
      })

  read-at : (text : List ℕ) → Message text ⊎ Fault text
  read-at text =
      let line = first-line text in
      let bytes = stands-some soh some line_free (length line.line + 1) line.line line.later (omega arith) line.ends in
      read-line text bytes.0 line (frame_fault_with any_version bytes.0) bytes.1 refl

  -- a reading of a text, whose bad message is known by what is left there
  record Stops (text : List ℕ) : Type 0 where
    bodies : List (List ℕ)
    left : List ℕ
    messages : IsLeftAfter soh text bodies left
    ends : HasNoBeginningBelow left (length left) ⊎ ((before : List ℕ) × (from : List ℕ) × (fault : FrameFault) × FirstBeginning left before from × BeginsWithFault soh from fault × (length from ≤ length text))

  first-at : (text : List ℕ) (n : ℕ) (found : Found text n) → found.place ≤ length text → FirstBeginning text (take found.place text) (drop found.place text)
  first-at text n found inside =
      let size = length-take-le found.place text inside in
      record {
        cut = sym (take-append-drop found.place text);
        is = ap (is_beginning text) size ∙ found.is;
        first = subst (HasNoBeginningBelow text) (sym size) found.first;
      }

  stops-within : (n : ℕ) (text : List ℕ) → length text < n → Stops text
  stops-within zero text few = absurd (omega (arith, few))
  stops-within (suc n) text few = elim (find-below text (length text)) [
    | inl none ↦ record { bodies = []; left = text; messages = refl; ends = inl none }
    | inr found ↦
        let low = found.low in
        let rest = length-drop found.place text in
        let first = first-at text (length text) found (omega (arith, low)) in
        elim (read-at (drop found.place text)) [
          | inr bad ↦ record { bodies = []; left = text; messages = refl; ends = inr (take found.place text, drop found.place text, bad.0, first, bad.1, omega (arith, rest)) }
          | inl message ↦
              let shorter = message.shorter in
              let more = stops-within n message.rest (omega (arith, few, rest, shorter)) in
              record {
                bodies = message.body ∷ more.bodies;
                left = more.left;
                messages = (take found.place text, drop found.place text, message.rest, first, message.is, more.messages);
                ends = longer (length message.rest) (length text) (omega (arith, shorter, rest)) more.ends;
              }
        ]
  ]
    where
      longer : {left : List ℕ} (short long : ℕ) → short ≤ long
          → HasNoBeginningBelow left (length left) ⊎ ((before : List ℕ) × (from : List ℕ) × (fault : FrameFault) × FirstBeginning left before from × BeginsWithFault soh from fault × (length from ≤ short))
          → HasNoBeginningBelow left (length left) ⊎ ((before : List ℕ) × (from : List ℕ) × (fault : FrameFault) × FirstBeginning left before from × BeginsWithFault soh from fault × (length from ≤ long))
      longer short long less (inl none) = inl none
      longer short long less (inr bad) = inr (bad.0, bad.1, bad.2, bad.3, bad.4, omega (arith, less, bad.5))

  pub some-line-reading : (day : List ℕ) → (bodies : List (List ℕ)) × (bad : Option BadMessage) × IsLineReading soh day bodies bad
  some-line-reading day = read-stops (stops-within (length day + 1) day (omega arith))
    where
      read-stops : Stops day → (bodies : List (List ℕ)) × (bad : Option BadMessage) × IsLineReading soh day bodies bad
      read-stops s = elim s.ends [
        | inl none ↦ (s.bodies, None, record { left = s.left; messages = s.messages; none = none })
        | inr bad ↦ (
          s.bodies,
          Some (record { place = length s.bodies + 1; offset = length day - length bad.1; fault = bad.2 }),
          record {
            left = s.left;
            messages = s.messages;
            before = bad.0;
            from = bad.1;
            begins = bad.3;
            fails = bad.4;
            place = refl;
            offset = omega (arith, bad.5);
          },
        )
      ]

-- with SOH as the text for SOH, bytes stand for themselves
pub soh-itself : (raw more bytes : List ℕ) → StandFor (1 ∷ []) raw more bytes → raw ≡ bytes
soh-itself raw more [] is = is
soh-itself raw more (byte ∷ bytes) is = by-unit is.1 (soh-itself is.0 more bytes is.2)
  where
    by-unit : IsUnit (1 ∷ []) raw more byte is.0 → is.0 ≡ bytes → raw ≡ byte ∷ bytes
    by-unit (inl unit) rest = unit.0 ∙ ap (λ (t : List ℕ). 1 ∷ t) rest ∙ ap (λ (b : ℕ). b ∷ bytes) (sym unit.1)
    by-unit (inr unit) rest = unit.0 ∙ ap (λ (t : List ℕ). byte ∷ t) rest

itself-soh : (bytes more : List ℕ) → StandFor (1 ∷ []) bytes more bytes
itself-soh [] more = refl
itself-soh (byte ∷ bytes) more = elim (cases_Bool (starts_with nat_eq ((byte ∷ bytes) ++ more) (1 ∷ []))) [
  | inl starts ↦
      let same : byte ≡ 1 = cc (split-at ((byte ∷ bytes) ++ more) (1 ∷ []) starts) in
      (bytes, inl (ap (λ (b : ℕ). b ∷ bytes) same, same), itself-soh bytes more)
  | inr other ↦ (bytes, inr (refl, other), itself-soh bytes more)
]

pub itself : (raw more bytes : List ℕ) → raw ≡ bytes → StandFor (1 ∷ []) raw more bytes
itself raw more bytes is = subst (λ (r : List ℕ). StandFor (1 ∷ []) r more bytes) (sym is) (itself-soh bytes more)
