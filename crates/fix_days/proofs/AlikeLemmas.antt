-- A day of which no message is bad has the same messages where each line is read alone.
use Rattle.std.proofs.Common.{◌≡◌, ℕ, zero, suc, ◌+◌, ◌-◌, ◌<◌, ◌≤◌, Bool, true, false, not, ◌&&◌, ◌||◌, Option, Some, None, List, [], ◌∷◌, ◌++◌, length, map, drop, refl, sym, subst, ap, ◌∙◌, inl, inr, append_assoc, arith}
use Rattle.std.specs.Prelude.{codes, nat_eq}
use Rattle.std.specs.List.{starts_with}
use Rattle.std.proofs.lemmas.Bool.{cases_Bool, cases_lt, eqb-true}
use Rattle.std.proofs.lemmas.List.{append-nil, drop-append-le, length-append, map-append}
use Rattle.fix_framing.proofs.PrefixLemmas.{split-at}
use Rattle.fix_framing.specs.declared.frames.FrameFault.{FrameFault}
use Rattle.fix_days.specs.declared.faults.BadMessage.{BadMessage}
use Rattle.fix_days.specs.Lines.{begins_message, BeginsWithFault, BeginsWithMessage, ends_line, FirstBeginning, follows_digit, HasNoBeginningBelow, HasNoLineEnd, is_beginning, IsBadOnLines, IsLeftAfter, IsLineReading, IsUnit, StandFor}
use Rattle.fix_days.specs.LinesAlone.{lines_of, LinesSay}
use Rattle.fix_days.specs.LinesAlone.DayMessage.{Good}
use Rattle.fix_days.proofs.AloneLemmas.{left-size, lines-ended, lines-last}
use Rattle.fix_days.proofs.LineSomeLemmas.{some-line-reading}
use Rattle.fix_days.proofs.LineUniqueLemmas.{one-line-reading}
use Rattle.fix_days.proofs.LookLemmas.{first-line, in-line}
use Rattle.fix_days.proofs.SearchLemmas.{beginning-after, beginning-six, digit-more, starts-long, starts-same}

-- an LF behind a text changes nothing of what it begins with
starts-ended : (text rest p : List ℕ) → HasNoLineEnd p → starts_with nat_eq (text ++ 10 ∷ rest) p ≡ starts_with nat_eq text p
starts-ended text rest p none = elim (cases_lt (length text) (length p)) [
  | inr long ↦ starts-same text (10 ∷ rest) p long
  | inl short ↦ elim (cases_Bool (starts_with nat_eq (text ++ 10 ∷ rest) p)) [
    | inl starts ↦
        let tail = in-line p text (10 ∷ rest) (drop (length p) (text ++ 10 ∷ rest)) none refl (split-at (text ++ 10 ∷ rest) p starts) in
        let size = ap length tail.1 ∙ length-append p tail.0 in absurd (omega (arith, size, short))
    | inr neither ↦ elim (cases_Bool (starts_with nat_eq text p)) [
      | inl starts ↦ let long = starts-long text p starts in absurd (omega (arith, long, short))
      | inr fails ↦ neither ∙ sym fails
    ]
  ]
]

beginning-ended : (text rest : List ℕ) (k : ℕ) → k ≤ length text → is_beginning (text ++ 10 ∷ rest) k ≡ is_beginning text k
beginning-ended text rest k inside =
    let here : begins_message (drop k (text ++ 10 ∷ rest)) ≡ begins_message (drop k text) =
    ap begins_message (drop-append-le k text (10 ∷ rest) inside)
    ∙ ap (λ (b : Bool). b || starts_with nat_eq (drop k text ++ 10 ∷ rest) (codes "8=FIXT")) (starts-ended (drop k text) rest (codes "8=FIX.") refl)
    ∙ ap (λ (b : Bool). starts_with nat_eq (drop k text) (codes "8=FIX.") || b) (starts-ended (drop k text) rest (codes "8=FIXT") refl) in
    ap (λ (b : Bool). b && not (follows_digit (text ++ 10 ∷ rest) k)) here
    ∙ ap (λ (b : Bool). begins_message (drop k text) && not b) (digit-more text (10 ∷ rest) k inside)

first-ended : (text before from rest : List ℕ) → FirstBeginning text before from → FirstBeginning (text ++ 10 ∷ rest) before (from ++ 10 ∷ rest)
first-ended text before from rest is =
    let size = ap length is.cut ∙ length-append before from in
    record {
      cut = ap (λ (t : List ℕ). t ++ 10 ∷ rest) is.cut ∙ append_assoc before from (10 ∷ rest);
      is = beginning-ended text rest (length before) (omega (arith, size)) ∙ is.is;
      first = λ k low. beginning-ended text rest k (omega (arith, size, low)) ∙ is.first k low;
    }

-- behind a line without a beginning the beginnings are those of what is after it
one-behind : (rest : List ℕ) (k : ℕ) → is_beginning (10 ∷ rest) (suc k) ≡ is_beginning rest k
one-behind rest zero = refl
one-behind rest (suc k) = refl

shift : (line rest : List ℕ) (k : ℕ) → is_beginning (line ++ 10 ∷ rest) (length line + suc k) ≡ is_beginning rest k
shift line rest k = beginning-after line (10 ∷ rest) k ∙ one-behind rest k

at-end : (line : List ℕ) → is_beginning line (length line) ≡ false
at-end line = elim (cases_Bool (is_beginning line (length line))) [
  | inl is ↦ let six = beginning-six line (length line) is in absurd (omega (arith, six))
  | inr not ↦ not
]

below : (line rest : List ℕ) (n : ℕ) → HasNoBeginningBelow line (length line) → HasNoBeginningBelow rest n → HasNoBeginningBelow (line ++ 10 ∷ rest) (length line + suc n)
below line rest n none later k low = elim (cases_lt k (length line)) [
  | inl inside ↦ beginning-ended line rest k (omega (arith, inside)) ∙ none k inside
  | inr behind ↦ elim (cases_lt (length line) k) [
    | inr last ↦
        let here : k ≡ length line = omega (arith, behind, last) in
        ap (is_beginning (line ++ 10 ∷ rest)) here ∙ beginning-ended line rest (length line) (omega arith) ∙ at-end line
    | inl after ↦
        let j : ℕ = k - length line - 1 in
        let same : k ≡ length line + suc j = omega (arith, after) in
        ap (is_beginning (line ++ 10 ∷ rest)) same ∙ shift line rest j ∙ later j (omega (arith, low, after))
  ]
]

first-behind : (line rest before from : List ℕ) → HasNoBeginningBelow line (length line) → FirstBeginning rest before from → FirstBeginning (line ++ 10 ∷ rest) (line ++ 10 ∷ before) from
first-behind line rest before from none is =
    let size = length-append line (10 ∷ before) in
    let place : length (line ++ 10 ∷ before) ≡ length line + suc (length before) = omega (arith, size) in
    record {
      cut = ap (λ (t : List ℕ). line ++ 10 ∷ t) is.cut ∙ sym (append_assoc line (10 ∷ before) from);
      is = ap (is_beginning (line ++ 10 ∷ rest)) place ∙ shift line rest (length before) ∙ is.is;
      first = subst (HasNoBeginningBelow (line ++ 10 ∷ rest)) (sym place) (below line rest (length before) none is.first);
    }

module _ (soh : List ℕ) (some : 0 < length soh) (line_free : HasNoLineEnd soh) where
  stand-ended : (raw more rest bytes : List ℕ) → StandFor soh raw more bytes → StandFor soh raw (more ++ 10 ∷ rest) bytes
  stand-ended raw more rest [] is = is
  stand-ended raw more rest (byte ∷ bytes) is = (is.0, by-unit is.1, stand-ended is.0 more rest bytes is.2)
    where
      by-unit : IsUnit soh raw more byte is.0 → IsUnit soh raw (more ++ 10 ∷ rest) byte is.0
      by-unit (inl unit) = inl unit
      by-unit (inr unit) = inr (unit.0, ap (λ (t : List ℕ). starts_with nat_eq t soh) (sym (append_assoc raw more (10 ∷ rest))) ∙ starts-ended (raw ++ more) rest soh line_free ∙ unit.1)

  message-ended : (text body left rest : List ℕ) → BeginsWithMessage soh text body left → BeginsWithMessage soh (text ++ 10 ∷ rest) body (left ++ 10 ∷ rest)
  message-ended text body left rest is = record {
    raw = is.raw;
    cut = ap (λ (t : List ℕ). t ++ 10 ∷ rest) is.cut ∙ append_assoc is.raw left (10 ∷ rest);
    one_line = is.one_line;
    frame = is.frame;
    stands = stand-ended is.raw left rest is.frame is.stands;
    message = is.message;
  }

  fault-ended : (text rest : List ℕ) (fault : FrameFault) → BeginsWithFault soh text fault → BeginsWithFault soh (text ++ 10 ∷ rest) fault
  fault-ended text rest fault is = record {
    line = is.line;
    later = is.later ++ 10 ∷ rest;
    cut = ap (λ (t : List ℕ). t ++ 10 ∷ rest) is.cut ∙ append_assoc is.line is.later (10 ∷ rest);
    one_line = is.one_line;
    ends = ended is.later is.ends;
    bytes = is.bytes;
    stands = stand-ended is.line is.later rest is.bytes is.stands;
    fails = is.fails;
  }
    where
      ended : (later : List ℕ) → ends_line later ≡ true → ends_line (later ++ 10 ∷ rest) ≡ true
      ended [] e = refl
      ended (byte ∷ later) e = e

  left-ended : (day : List ℕ) (bodies : List (List ℕ)) (left rest : List ℕ) → IsLeftAfter soh day bodies left → IsLeftAfter soh (day ++ 10 ∷ rest) bodies (left ++ 10 ∷ rest)
  left-ended day [] left rest is = ap (λ (t : List ℕ). t ++ 10 ∷ rest) is
  left-ended day (body ∷ bodies) left rest is = (
    is.0,
    is.1 ++ 10 ∷ rest,
    is.2 ++ 10 ∷ rest,
    first-ended day is.0 is.1 rest is.3,
    message-ended is.1 body is.2 rest is.4,
    left-ended is.2 bodies left rest is.5,
  )

  left-join : (day : List ℕ) (bodies its : List (List ℕ)) (mid left : List ℕ) → IsLeftAfter soh day bodies mid → IsLeftAfter soh mid its left → IsLeftAfter soh day (bodies ++ its) left
  left-join day [] its mid left is it = subst (λ (t : List ℕ). IsLeftAfter soh t its left) is it
  left-join day (body ∷ bodies) its mid left is it = (is.0, is.1, is.2, is.3, is.4, left-join is.2 bodies its mid left is.5 it)

  -- some message is bad
  abbrev IsSomewhereBad : List ℕ → List (List ℕ) → Type 0
  IsSomewhereBad day bodies = (bad : BadMessage) × IsBadOnLines soh day bodies bad

  bad-somewhere : (day : List ℕ) (bodies : List (List ℕ)) (left before from : List ℕ) (fault : FrameFault) → IsLeftAfter soh day bodies left → FirstBeginning left before from → BeginsWithFault soh from fault → IsSomewhereBad day bodies
  bad-somewhere day bodies left before from fault is begins fails =
      let few = left-size soh day bodies left some is in
      let size = ap length begins.cut ∙ length-append before from in (
        record { place = length bodies + 1; offset = length day - length from; fault = fault },
        record {
          left = left;
          messages = is;
          before = before;
          from = from;
          begins = begins;
          fails = fails;
          place = refl;
          offset = omega (arith, few, size);
        },
      )

  -- what is left of a line without a beginning, and of what is after it
  record LeftBehind (line rest : List ℕ) (bodies : List (List ℕ)) (left : List ℕ) : Type 0 where
    its : List ℕ
    messages : IsLeftAfter soh (line ++ 10 ∷ rest) bodies its
    none : HasNoBeginningBelow left (length left) → HasNoBeginningBelow its (length its)
    first : (before from : List ℕ) → FirstBeginning left before from → (its_before : List ℕ) × FirstBeginning its its_before from

  left-behind : (line rest : List ℕ) (bodies : List (List ℕ)) (left : List ℕ) → HasNoBeginningBelow line (length line) → IsLeftAfter soh rest bodies left → LeftBehind line rest bodies left
  left-behind line rest [] left none is =
      let size = length-append line (10 ∷ rest) in
      let whole : length line + suc (length rest) ≡ length (line ++ 10 ∷ rest) = omega (arith, size) in
      record {
        its = line ++ 10 ∷ rest;
        messages = refl;
        none = λ later. subst (HasNoBeginningBelow (line ++ 10 ∷ rest)) whole (below line rest (length rest) none (subst (λ (t : List ℕ). HasNoBeginningBelow t (length t)) is later));
        first = λ before from begins. (line ++ 10 ∷ before, first-behind line rest before from none (subst (λ (t : List ℕ). FirstBeginning t before from) is begins));
      }
  left-behind line rest (body ∷ bodies) left none is = record {
    its = left;
    messages = (line ++ 10 ∷ is.0, is.1, is.2, first-behind line rest is.0 is.1 none is.3, is.4, is.5);
    none = λ later. later;
    first = λ before from begins. (before, begins);
  }

  good-good : (line rest : List ℕ) (bodies its : List (List ℕ)) → IsLineReading soh line bodies None → IsLineReading soh rest its None → IsLineReading soh (line ++ 10 ∷ rest) (bodies ++ its) None
  good-good line rest bodies its is it =
      let behind = left-behind is.left rest its it.left is.none it.messages in
      record {
        left = behind.its;
        messages = left-join (line ++ 10 ∷ rest) bodies its (is.left ++ 10 ∷ rest) behind.its (left-ended line bodies is.left rest is.messages) behind.messages;
        none = behind.none it.none;
      }

  good-bad : (line rest : List ℕ) (bodies its : List (List ℕ)) (bad : BadMessage) → IsLineReading soh line bodies None → IsLineReading soh rest its (Some bad) → IsSomewhereBad (line ++ 10 ∷ rest) (bodies ++ its)
  good-bad line rest bodies its bad is it =
      let behind = left-behind is.left rest its it.left is.none it.messages in
      let first = behind.first it.before it.from it.begins in
      bad-somewhere (line ++ 10 ∷ rest) (bodies ++ its) behind.its first.0 it.from bad.fault
      (left-join (line ++ 10 ∷ rest) bodies its (is.left ++ 10 ∷ rest) behind.its (left-ended line bodies is.left rest is.messages) behind.messages) first.1 it.fails

  bad-first : (line rest : List ℕ) (bodies : List (List ℕ)) (bad : BadMessage) → IsLineReading soh line bodies (Some bad) → IsSomewhereBad (line ++ 10 ∷ rest) bodies
  bad-first line rest bodies bad is =
      bad-somewhere (line ++ 10 ∷ rest) bodies (is.left ++ 10 ∷ rest) is.before (is.from ++ 10 ∷ rest) bad.fault (left-ended line bodies is.left rest is.messages) (first-ended is.left is.before is.from rest is.begins)
      (fault-ended is.from rest bad.fault is.fails)

  not-both : (day : List ℕ) (bodies others : List (List ℕ)) → IsLineReading soh day bodies None → IsSomewhereBad day others → ⊥
  not-both day bodies others is bad = absurd (cc (one-line-reading soh some day bodies others None (Some bad.0) is bad.1).1)

  -- the messages of the first line, and those of what is after it
  record Parts (line rest : List ℕ) (bodies : List (List ℕ)) : Type 0 where
    first : List (List ℕ)
    later : List (List ℕ)
    here : IsLineReading soh line first None
    there : IsLineReading soh rest later None
    whole : bodies ≡ first ++ later

  parts : (line rest : List ℕ) (bodies : List (List ℕ)) → IsLineReading soh (line ++ 10 ∷ rest) bodies None → Parts line rest bodies
  parts line rest bodies is =
      let here = some-line-reading soh some line_free line in
      let there = some-line-reading soh some line_free rest in by-bad here.0 there.0 here.1 there.1 here.2 there.2
    where
      by-bad : (first later : List (List ℕ)) (bad other : Option BadMessage) → IsLineReading soh line first bad → IsLineReading soh rest later other → Parts line rest bodies
      by-bad first later (Some bad) other here there = absurd (not-both (line ++ 10 ∷ rest) bodies first is (bad-first line rest first bad here))
      by-bad first later None (Some bad) here there = absurd (not-both (line ++ 10 ∷ rest) bodies (first ++ later) is (good-bad line rest first later bad here there))
      by-bad first later None None here there = record {
        first = first;
        later = later;
        here = here;
        there = there;
        whole = (one-line-reading soh some (line ++ 10 ∷ rest) bodies (first ++ later) None None is (good-good line rest first later here there)).0;
      }

  alike-within : (n : ℕ) (day : List ℕ) → length day < n → (count offset : ℕ) (bodies : List (List ℕ)) → IsLineReading soh day bodies None → LinesSay soh count offset (lines_of day) (map Good bodies)
  alike-within zero day few count offset bodies is = absurd (omega (arith, few))
  alike-within (suc n) day few count offset bodies is =
      let first = first-line day in by-later (λ rest less its read more after. alike-within n rest less more after its read) first.line first.later first.cut first.one_line first.ends
    where
      by-later : ((rest : List ℕ) → length rest < n → (its : List (List ℕ)) → IsLineReading soh rest its None → (more after : ℕ) → LinesSay soh more after (lines_of rest) (map Good its)) → (line later : List ℕ) → day ≡ line ++ later → HasNoLineEnd line → ends_line later ≡ true → LinesSay soh count offset (lines_of day) (map Good bodies)
      by-later within line [] cut none ends =
          let whole : day ≡ line = cut ∙ append-nil line in
          let only : lines_of day ≡ line ∷ [] = ap lines_of whole ∙ lines-last line none in
          subst (λ (ls : List (List ℕ)). LinesSay soh count offset ls (map Good bodies)) (sym only)
          (map Good bodies, [], record { bodies = bodies; bad = None; read = subst (λ (t : List ℕ). IsLineReading soh t bodies None) whole is; are = refl }, refl, sym (append-nil (map Good bodies)))
      by-later within line (byte ∷ rest) cut none ends =
          let lf : byte ≡ 10 = eqb-true byte 10 ends in
          let whole : day ≡ line ++ 10 ∷ rest = cut ∙ ap (λ (b : ℕ). line ++ b ∷ rest) lf in
          let size = ap length whole ∙ length-append line (10 ∷ rest) in
          let p = parts line rest bodies (subst (λ (t : List ℕ). IsLineReading soh t bodies None) whole is) in
          let later = within rest (omega (arith, few, size)) p.later p.there (count + length (map Good p.first)) (offset + (length line + 1)) in
          let only : lines_of day ≡ line ∷ lines_of rest = ap lines_of whole ∙ lines-ended line rest none in
          subst (λ (ls : List (List ℕ)). LinesSay soh count offset ls (map Good bodies)) (sym only)
          (map Good p.first, map Good p.later, record { bodies = p.first; bad = None; read = p.here; are = refl }, later, ap (map Good) p.whole ∙ map-append Good p.first p.later)

  pub alike : (day : List ℕ) (bodies : List (List ℕ)) → IsLineReading soh day bodies None → LinesSay soh 0 0 (lines_of day) (map Good bodies)
  alike day bodies is = alike-within (length day + 1) day (omega arith) 0 0 bodies is
