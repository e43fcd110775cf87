-- How a framed day begins, through the steps of its feed.
use Rattle.std.proofs.Common.{◌≡◌, ℕ, ◌<◌, ◌≤◌, Option, Some, None, List, [], ◌++◌, length, take, drop, sym, subst, ap, ◌∙◌, inl, inr, append_assoc, arith}
use Rattle.std.specs.Global.{Vec}
use Rattle.std.proofs.lemmas.Bool.{cases_lt}
use Rattle.std.proofs.lemmas.List.{length-append, length-take-le, nil_from_length, take-append-drop, take-append-le, take_all}
use Rattle.log_source.specs.Handing.{HandsOnMore}
use Rattle.fix_framing.specs.declared.framer.Framer.{Framer}
use Rattle.fix_framing.specs.declared.headers.AnyVersion.{AnyVersion}
use Rattle.fix_days.specs.declared.faults.BadMessage.{BadMessage}
use Rattle.fix_days.specs.declared.framed.FramedFeed.{FramedFeed}
use Rattle.fix_days.specs.declared.messages.Messages.{Messages}
use Rattle.fix_days.specs.Framed.{begins_past_breaks, after_mark, mark, mark_of}
use Rattle.fix_days.specs.Feeds.{IsFramedFeedOf}
use Rattle.fix_days.specs.Messages.{AreMessageFields, IsMessagesOf}
use Rattle.fix_days.specs.Starts.{BeginsDay, HasFront}
use Rattle.fix_days.proofs.MarkLemmas.{behind-more, mark-more, three-mark}

module _ {B : Type 0} (has_taken : B → List (List ℕ) → Type 0) where
  -- how many bytes have come
  front-short : (feed : FramedFeed B) (day : List ℕ) → IsFramedFeedOf has_taken feed day → length feed.front.items < 3 → length day < 3
  front-short feed day stands short = elim (cases_lt (length day) 3) [
    | inl few ↦ few
    | inr many ↦
        let front = ap length stands.front in
        let taken = length-take-le 3 day many in absurd (omega (arith, short, front, taken))
  ]

  -- where nothing was read, no message is bad, wherever the text begins
  moved : (start other : ℕ) (bodies : B) (framer : Framer AnyVersion) (count : ℕ) (bad : Option BadMessage) → AreMessageFields (has_taken bodies) start framer count bad [] → AreMessageFields (has_taken bodies) other framer count bad []
  moved start other bodies framer count None stands = stands
  moved start other bodies framer count (Some bad) stands =
      let here = stands.is_bad [] in
      let none : here.left ≡ [] = nil_from_length here.left (omega (arith, ap length here.cut, length-append here.front here.left)) in
      absurd (cc (sym here.begins ∙ ap begins_past_breaks none))

  -- three bytes that are the mark
  pub begins-mark : (old new : FramedFeed B) → HasFront has_taken old → old.front.items ≡ mark → new.front ≡ old.front → new.messages ≡ record old.messages { start = 3 } → BeginsDay has_taken old new
  begins-mark old new has is front messages =
      let three = three-mark old.front.items is in
      let was = has.nothing.messages_of in
      let stands : IsMessagesOf has_taken (record old.messages { start = 3 }) [] = moved old.messages.start 3 old.messages.bodies old.messages.framer old.messages.count old.messages.bad was in
      let placed : IsMessagesOf has_taken new.messages [] = subst (λ (m : Messages B). IsMessagesOf has_taken m []) (sym messages) stands in
      record {
        front = front;
        read = record {
          messages_of = subst (IsMessagesOf has_taken new.messages) (sym three.1) placed;
          starts = ap (λ (m : Messages B). m.start) messages ∙ sym three.0;
        };
      }

  -- three bytes have come, and then the rest of the piece
  pub first-fed : (old held begun new : FramedFeed B) (piece : List ℕ) (count : ℕ) → length old.front.items < 3 → count ≤ length piece → held.front.items ≡ old.front.items ++ take count piece → length held.front.items ≡ 3
      → BeginsDay has_taken held begun → new.front ≡ begun.front → HandsOnMore (IsMessagesOf has_taken begun.messages) (IsMessagesOf has_taken new.messages) (drop count piece) → new.messages.start ≡ begun.messages.start
      → (day : List ℕ) → IsFramedFeedOf has_taken old day → IsFramedFeedOf has_taken new (day ++ piece)
  first-fed old held begun new piece count short within fed three begins kept hands same day stands =
      let long : 3 ≤ length held.front.items = omega (arith, three) in
      let few : length day < 3 = front-short old day stands short in
      let all : old.front.items ≡ day = stands.front ∙ take_all 3 day (omega (arith, few)) in
      let first : held.front.items ≡ day ++ take count piece = fed ∙ ap (λ (t : List ℕ). t ++ take count piece) all in
      let whole : day ++ piece ≡ held.front.items ++ drop count piece =
      ap (λ (t : List ℕ). day ++ t) (sym (take-append-drop count piece)) ∙ sym (append_assoc day (take count piece) (drop count piece)) ∙ ap (λ (t : List ℕ). t ++ drop count piece) (sym first) in
      let size = ap length whole ∙ length-append held.front.items (drop count piece) in
      let behind : after_mark (day ++ piece) ≡ after_mark held.front.items ++ drop count piece = ap after_mark whole ∙ behind-more held.front.items (drop count piece) long in
      let marks : mark_of (day ++ piece) ≡ mark_of held.front.items = ap mark_of whole ∙ mark-more held.front.items (drop count piece) long in
      record {
        front = ap (λ (v : Vec ℕ). v.items) (kept ∙ begins.front) ∙ sym (ap (take 3) whole ∙ (take-append-le 3 held.front.items (drop count piece) long ∙ take_all 3 held.front.items (omega (arith, three))));
        early = λ less. absurd (omega (arith, less, size, long));
        later = λ _. record {
          messages_of = subst (IsMessagesOf has_taken new.messages) (sym behind) (hands (after_mark held.front.items) begins.read.messages_of);
          starts = same ∙ begins.read.starts ∙ ap length (sym marks);
        };
      }
