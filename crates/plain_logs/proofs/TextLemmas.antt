-- The plain text of bodies, one more of them, and of a day.
use Rattle.std.proofs.Common.{◌≡◌, ℕ, ◌<◌, ◌≤◌, List, [], ◌∷◌, ◌++◌, drop, length, map, Option, None, ap, sym, subst, ◌∙◌, append_assoc, arith}
use Rattle.std.specs.Prelude.{All}
use Rattle.std.proofs.lemmas.Grind.{flat_map-append}
use Rattle.std.proofs.lemmas.List.{append-nil, drop-append-le, length-append}
use Rattle.audit_base.specs.Sizes.{longest_body}
use Rattle.fix_framing.specs.Frames.{body_of, frame_text}
use Rattle.fix_days.specs.declared.faults.BadMessage.{BadMessage}
use Rattle.fix_days.specs.Framed.{IsFramedReading}
use Rattle.fix_days.specs.Laws.{FitsMessage, FixLogsAreDays, FramedDaysAreReadOnce, WrittenDaysAreRead, written_line}
use Rattle.plain_logs.specs.Laws.{FramedBodiesFit, LineBodiesFit, PlainIsRead, PlainOfFixLogs, PlainOfPlain}
use Rattle.plain_logs.specs.PlainTexts.{IsPlainText, IsTextBehind, plain_text}
use Rattle.plain_logs.proofs.ListLemmas.{All-front, All-last}

more-some : (skipped : ℕ) (bodies : List (List ℕ)) (body : List ℕ) → skipped ≤ length bodies → skipped ≤ length (bodies ++ body ∷ [])
more-some skipped bodies body some = let size = length-append bodies (body ∷ []) in omega (arith, size, some)

-- one more body of those behind the skipped ones
pub more-text : (skipped : ℕ) (bodies : List (List ℕ)) (body old new : List ℕ) → new ≡ (old ++ frame_text body) ++ 10 ∷ [] → IsTextBehind skipped bodies old → IsTextBehind skipped (bodies ++ body ∷ []) new
more-text skipped bodies body old new made has = record {
  some = more-some skipped bodies body has.some;
  text_is = λ fit.
      let before : old ≡ plain_text (drop skipped bodies) = has.text_is (All-front FitsMessage bodies (body ∷ []) fit) in
      let one : plain_text (body ∷ []) ≡ written_line body = append-nil (written_line body) in
      let behind : drop skipped (bodies ++ body ∷ []) ≡ drop skipped bodies ++ body ∷ [] = drop-append-le skipped bodies (body ∷ []) has.some in
      made ∙ append_assoc old (frame_text body) (10 ∷ []) ∙ ap (λ (t : List ℕ). t ++ written_line body) before
      ∙ ap (λ (t : List ℕ). plain_text (drop skipped bodies) ++ t) (sym one) ∙ sym (flat_map-append written_line (drop skipped bodies) (body ∷ []))
      ∙ ap plain_text (sym behind);
}

pub too-long : (skipped : ℕ) (bodies : List (List ℕ)) (body text : List ℕ) → longest_body < length body → IsTextBehind skipped bodies text → IsTextBehind skipped (bodies ++ body ∷ []) text
too-long skipped bodies body text long has = record {
  some = more-some skipped bodies body has.some;
  text_is = λ fit. let fits = All-last FitsMessage bodies body fit in absurd (omega (arith, long, fits));
}

module _ (one : FramedDaysAreReadOnce) (written : WrittenDaysAreRead) (framed_fit : FramedBodiesFit) (lines_fit : LineBodiesFit) where
  pub plain-read : PlainIsRead
  plain-read = record {
    framed = λ day bodies bad is. written bodies (framed_fit day bodies bad is);
    on_lines = λ soh day bodies bad is. written bodies (lines_fit soh day bodies bad is);
  }

  again-same : (text again : List ℕ) (bodies : List (List ℕ)) (other : Option BadMessage) → All FitsMessage bodies → text ≡ plain_text bodies → IsPlainText (IsFramedReading text) again other
      → (again ≡ text) × (other ≡ None)
  again-same text again bodies other fit text_is plain =
      let first : IsFramedReading text bodies None = subst (λ (t : List ℕ). IsFramedReading t bodies None) (sym text_is) (written bodies fit) in
      let same = one.one text plain.bodies bodies other None plain.read first in
      (plain.text_is ∙ ap plain_text same.0 ∙ sym text_is, same.1)

  pub plain-again : PlainOfPlain
  plain-again = record {
    framed = λ day text again bad other is plain. again-same text again is.bodies other (framed_fit day is.bodies bad is.read) is.text_is plain;
    on_lines = λ soh day text again bad other is plain. again-same text again is.bodies other (lines_fit soh day is.bodies bad is.read) is.text_is plain;
  }

pub plain-fix : FramedDaysAreReadOnce → FixLogsAreDays → PlainOfFixLogs
plain-fix one days log text frames bad framed plain =
    let same = one.one log plain.bodies (map body_of frames) bad None plain.read (days log frames framed) in
    (plain.text_is ∙ ap plain_text same.0, same.1)
