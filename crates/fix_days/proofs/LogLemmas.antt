-- FIX logs, and messages that are written, as framed days.
use Rattle.std.proofs.Common.{◌≡◌, ℕ, true, List, [], ◌∷◌, ◌++◌, map, refl, sym, subst, ap, ◌∙◌, append_assoc, arith}
use Rattle.std.specs.Prelude.{All, Contains, nat_eq}
use Rattle.std.specs.List.{flat_map, list_all, starts_with}
use Rattle.std.proofs.lemmas.Bool.{and_from, and_parts}
use Rattle.std.proofs.lemmas.List.{append-nil}
use Rattle.std.proofs.lemmas.List.Elements.{All-head, All-tail}
use Rattle.std.proofs.lemmas.List.Folds.{list_all-append}
use Rattle.fix_framing.specs.Breaks.{is_line_end_byte, after_breaks}
use Rattle.fix_framing.specs.Headers.{any_version, header}
use Rattle.fix_framing.specs.Frames.{body_of, body_of_with, frame_text, IsFrame, IsFrameWith}
use Rattle.fix_framing.specs.Framing.{IsFramed, IsFramedWith}
use Rattle.fix_framing.proofs.Fix44Lemmas.{IsFrame-body_of}
use Rattle.fix_framing.proofs.HeaderLemmas.{fix44-head}
use Rattle.fix_framing.proofs.MessageLemmas.{IsFrameWith-body_of}
use Rattle.fix_framing.proofs.PrefixLemmas.{false-from, split-at}
use Rattle.fix_framing.proofs.WritingLemmas.{frame_text_is_frame}
use Rattle.fix_days.specs.Framed.{after_mark, bodies_of, HasBodies, mark, mark_of}
use Rattle.fix_days.specs.Laws.{FitsMessage, FixLogsAreDays, WrittenDaysAreRead, written_line}
use Rattle.fix_days.proofs.MarkLemmas.{three-behind, without}
use Rattle.fix_days.proofs.TextLemmas.{any-headers}
use Rattle.fix_days.proofs.UniqueLemmas.{behind-gap, breaks-over, frame-eight}

-- FIX 4.4 is one of the versions
header-known : Contains any_version header
unfolding any_version header
header-known = (4, omega arith, refl)

pub frame-any : (frame body : List ℕ) → IsFrame frame body → IsFrameWith any_version frame body
frame-any frame body is = record {
  head = is.head;
  known = subst (Contains any_version) (sym (fix44-head is.head is.known)) header-known;
  length_digits = is.length_digits;
  sum_digits = is.sum_digits;
  whole = is.whole;
  are_digits = is.are_digits;
  counted = is.counted;
  bounded = is.bounded;
  three = is.three;
  summed = is.summed;
}

any-body : (frame body : List ℕ) → IsFrameWith any_version frame body → body_of_with any_version frame ≡ body
any-body frame body is = ap (body_of_with any_version) (sym (append-nil frame)) ∙ IsFrameWith-body_of any_version frame body [] any-headers is

own-body : (frame body : List ℕ) → IsFrame frame body → body_of frame ≡ body
own-body frame body is = ap body_of (sym (append-nil frame)) ∙ IsFrame-body_of frame body [] is

framed-any : (log : List ℕ) (frames : List (List ℕ)) → IsFramed log frames → IsFramedWith any_version log frames
framed-any log [] framed = framed
framed-any log (frame ∷ frames) framed = (framed.0, framed.1, framed.2, framed.3, frame-any frame framed.1 framed.4, framed.5, framed-any framed.2 frames framed.6)

bodies-any : (log : List ℕ) (frames : List (List ℕ)) → IsFramed log frames → map body_of frames ≡ bodies_of frames
bodies-any log [] framed = refl
bodies-any log (frame ∷ frames) framed =
    let same : body_of frame ≡ body_of_with any_version frame = own-body frame framed.1 framed.4 ∙ sym (any-body frame framed.1 (frame-any frame framed.1 framed.4)) in
    ap (λ (b : List ℕ). b ∷ map body_of frames) same ∙ ap (λ (bs : List (List ℕ)). body_of_with any_version frame ∷ bs) (bodies-any framed.2 frames framed.6)

-- a log of messages has no mark
abbrev front-byte : List ℕ → ℕ
front-byte [] = 0
front-byte (byte ∷ rest) = byte

marked-front : (log : List ℕ) (frames : List (List ℕ)) → IsFramedWith any_version log frames → front-byte (after_breaks log) ≡ 239 → ⊥
marked-front log [] framed is =
    let none : after_breaks log ≡ [] = ap after_breaks (sym (append-nil log)) ∙ breaks-over log [] framed in
    omega (arith, ap front-byte none, is)
marked-front log (frame ∷ frames) framed is =
    let here : after_breaks log ≡ frame ++ (framed.2 ++ []) = ap after_breaks (sym (append-nil log)) ∙ behind-gap log [] framed.0 frame framed.1 framed.2 framed.3 framed.4 framed.5 in
    let eight = frame-eight frame framed.1 framed.4 in
    let first : front-byte (after_breaks log) ≡ 56 = ap front-byte here ∙ ap (λ (t : List ℕ). front-byte (t ++ (framed.2 ++ []))) eight.1 in
    omega (arith, first, is)

pub framed-unmarked : (log : List ℕ) (frames : List (List ℕ)) → IsFramedWith any_version log frames → mark_of log ≡ []
framed-unmarked log frames framed =
    without log (false-from (starts_with nat_eq log mark) (λ starts.
    marked-front log frames framed (ap (λ (t : List ℕ). front-byte (after_breaks t)) (split-at log mark starts))))

unmarked-bodies : (log : List ℕ) (bodies : List (List ℕ)) → HasBodies log bodies → HasBodies (after_mark log) bodies
unmarked-bodies log bodies has = subst (λ (t : List ℕ). HasBodies t bodies) (sym (three-behind log (framed-unmarked log has.frames has.framed))) has

pub fix-logs : FixLogsAreDays
fix-logs log frames framed =
    unmarked-bodies log (map body_of frames) (record { frames = frames; framed = framed-any log frames framed; are = bodies-any log frames framed })

-- CR and LF before messages
framed-before : (gap log : List ℕ) (frames : List (List ℕ)) → list_all is_line_end_byte gap ≡ true → IsFramedWith any_version log frames → IsFramedWith any_version (gap ++ log) frames
framed-before [] log frames breaks framed = framed
framed-before (byte ∷ gap) log [] breaks framed =
    let rest = framed-before gap log [] (and_parts _ _ breaks).1 framed in and_from (is_line_end_byte byte) (list_all is_line_end_byte (gap ++ log)) (and_parts _ _ breaks).0 rest
framed-before (byte ∷ gap) log (frame ∷ frames) breaks framed = (
  (byte ∷ gap) ++ framed.0,
  framed.1,
  framed.2,
  rw (list_all-append is_line_end_byte (byte ∷ gap) framed.0) (and_from _ _ breaks framed.3),
  framed.4,
  ap (λ (t : List ℕ). (byte ∷ gap) ++ t) framed.5 ∙ sym (append_assoc (byte ∷ gap) framed.0 (frame ++ framed.2)),
  framed.6,
)

written-framed : (bodies : List (List ℕ)) → All FitsMessage bodies → IsFramedWith any_version (flat_map written_line bodies) (map frame_text bodies)
written-framed [] fit = refl
written-framed (body ∷ bodies) fit = (
  [],
  body,
  10 ∷ flat_map written_line bodies,
  refl,
  frame-any (frame_text body) body (frame_text_is_frame body (All-head FitsMessage body bodies fit)),
  append_assoc (frame_text body) (10 ∷ []) (flat_map written_line bodies),
  framed-before (10 ∷ []) (flat_map written_line bodies) (map frame_text bodies) refl (written-framed bodies (All-tail FitsMessage body bodies fit)),
)

written-bodies : (bodies : List (List ℕ)) → All FitsMessage bodies → bodies ≡ bodies_of (map frame_text bodies)
written-bodies [] fit = refl
written-bodies (body ∷ bodies) fit =
    let here = any-body (frame_text body) body (frame-any (frame_text body) body (frame_text_is_frame body (All-head FitsMessage body bodies fit))) in
    ap (λ (b : List ℕ). b ∷ bodies) (sym here) ∙ ap (λ (bs : List (List ℕ)). body_of_with any_version (frame_text body) ∷ bs) (written-bodies bodies (All-tail FitsMessage body bodies fit))

pub written-days : WrittenDaysAreRead
written-days bodies fit =
    unmarked-bodies (flat_map written_line bodies) bodies (record { frames = map frame_text bodies; framed = written-framed bodies fit; are = written-bodies bodies fit })
