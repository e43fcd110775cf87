-- What a look at a message says.
use Rattle.std.proofs.Common.{◌≡◌, ◌≢◌, ℕ, zero, suc, ◌+◌, ◌-◌, ◌<◌, ◌≤◌, Bool, true, not, ◌==◌, Some, List, [], ◌∷◌, ◌++◌, length, take, drop, refl, sym, subst, ap, ◌∙◌, inl, inr, append_assoc, arith}
use Rattle.std.specs.Prelude.{MatchOption, nat_eq}
use Rattle.std.specs.List.{list_all, slice_range, starts_with}
use Rattle.std.proofs.lemmas.Bool.{and_from, and_parts, cases_Bool}
use Rattle.std.proofs.lemmas.List.{length-append, length-take-le, take_all}
use Rattle.std.proofs.lemmas.List.Folds.{list_all-append}
use Rattle.fix_framing.proofs.PrefixLemmas.{split-at}
use Rattle.fix_framing.specs.Headers.{any_version}
use Rattle.fix_framing.specs.Frames.{frame_fault_with, IsFrameAt, IsFrameWith, longest_frame_with}
use Rattle.fix_framing.specs.declared.frames.Frame.{Frame}
use Rattle.fix_framing.specs.declared.frames.FrameFault.{FrameFault}
use Rattle.fix_framing.specs.declared.frames.FrameFault.TheVariants as faults
use Rattle.fix_framing.proofs.StayLemmas.{fault-stays, Truncated-bound}
use Rattle.fix_days.specs.declared.undressing.UndressedTo.{UndressedTo}
use Rattle.fix_days.specs.declared.undressing.UndressedTo.TheVariants as why
use Rattle.fix_days.specs.Lines.{BeginsWithFault, ends_line, HasNoLineEnd, IsUnit, StandFor}
use Rattle.fix_days.specs.Looks.{EndsFront, IsMessageAt, LookSays, NeedsMore, refusal}
use Rattle.fix_days.specs.Undressings.{IsReached, IsUndressed, MayFollow, Undressed}
use Rattle.fix_days.proofs.TextLemmas.{any-headers, frame-nine}
use Rattle.fix_days.proofs.UndressLemmas.{stand-on}

-- each byte has a byte at least that stands for it
pub stand-size : (soh raw more bytes : List ℕ) → 0 < length soh → StandFor soh raw more bytes → length bytes ≤ length raw
stand-size soh raw more [] some stands = omega arith
stand-size soh raw more (byte ∷ bytes) some stands =
    let rest = stand-size soh stands.0 more bytes some stands.2 in by-unit stands.1 rest
  where
    by-unit : IsUnit soh raw more byte stands.0 → length bytes ≤ length stands.0 → suc (length bytes) ≤ length raw
    by-unit (inl is) rest =
        let size = ap length is.0 ∙ length-append soh stands.0 in omega (arith, size, rest, some)
    by-unit (inr is) rest =
        let size = ap length is.0 in omega (arith, size, rest)

-- the first line of a text
pub record FirstLine (text : List ℕ) : Type 0 where
  pub line : List ℕ
  pub later : List ℕ
  pub cut : text ≡ line ++ later
  pub one_line : HasNoLineEnd line
  pub ends : ends_line later ≡ true

pub first-line : (text : List ℕ) → FirstLine text
first-line [] = record { line = []; later = []; cut = refl; one_line = refl; ends = refl }
first-line (byte ∷ rest) = elim (cases_Bool (byte == 10)) [
  | inl same ↦ record { line = []; later = byte ∷ rest; cut = refl; one_line = refl; ends = same }
  | inr other ↦
      let more = first-line rest in
      record {
        line = byte ∷ more.line;
        later = more.later;
        cut = ap (λ (t : List ℕ). byte ∷ t) more.cut;
        one_line = and_from (not (byte == 10)) (list_all (λ b. not (b == 10)) more.line) (ap not other) more.one_line;
        ends = more.ends;
      }
]

-- a text without LF that a line and what is after it begin with is in the line
pub in-line : (soh line later rest : List ℕ) → HasNoLineEnd soh → ends_line later ≡ true → line ++ later ≡ soh ++ rest → (tail : List ℕ) × (line ≡ soh ++ tail)
in-line [] line later rest none ends whole = (line, refl)
in-line (byte ∷ soh) [] [] rest none ends whole = absurd (cc whole)
in-line (byte ∷ soh) [] (first ∷ later) rest none ends whole =
    let same : first ≡ byte = cc whole in
    let other = (and_parts (not (byte == 10)) (list_all (λ b. not (b == 10)) soh) none).0 in
    absurd (cc (sym other ∙ ap (λ (b : ℕ). not (b == 10)) (sym same) ∙ ap not ends))
in-line (byte ∷ soh) (first ∷ line) later rest none ends whole =
    let same : first ≡ byte = cc whole in
    let tails : line ++ later ≡ soh ++ rest = cc whole in
    let more = in-line soh line later rest (and_parts (not (byte == 10)) (list_all (λ b. not (b == 10)) soh) none).1 ends tails in
    (more.0, ap (λ (b : ℕ). b ∷ line) same ∙ ap (λ (t : List ℕ). byte ∷ t) more.1)

-- each line stands for some bytes
pub stands-some : (soh : List ℕ) → 0 < length soh → HasNoLineEnd soh → (n : ℕ) (line later : List ℕ) → length line < n → ends_line later ≡ true → (bytes : List ℕ) × StandFor soh line later bytes
stands-some soh some none zero line later few ends = absurd (omega (arith, few))
stands-some soh some none (suc n) [] later few ends = ([], refl)
stands-some soh some none (suc n) (byte ∷ line) later few ends = elim (cases_Bool (starts_with nat_eq ((byte ∷ line) ++ later) soh)) [
  | inl starts ↦
      let tail = in-line soh (byte ∷ line) later (drop (length soh) ((byte ∷ line) ++ later)) none ends (split-at ((byte ∷ line) ++ later) soh starts) in
      let size = ap length tail.1 ∙ length-append soh tail.0 in
      let more = stands-some soh some none n tail.0 later (omega (arith, few, size, some)) ends in
      (1 ∷ more.0, (tail.0, inl (tail.1, refl), more.1))
  | inr other ↦
      let more = stands-some soh some none n line later (omega (arith, few)) ends in
      (byte ∷ more.0, (line, inr (refl, other), more.1))
]

-- the message is there
pub message-at : (soh held : List ℕ) (place : ℕ) (ended : Bool) (to : ℕ) (message : List ℕ) (frame : Frame) (end : ℕ) → 0 < length soh → IsUndressed soh held place ended to message → IsFrameAt any_version message 0 frame
    → EndsFront soh held place message to frame.end end → IsMessageAt soh held place ended message frame.body (frame.end - 7) end
message-at soh held place ended to message frame end some undressed is after =
    let before = is.before in
    let within = is.within in
    let none : MayFollow ended [] = λ e. refl in
    let here = after [] (undressed [] none) in
    let size = stand-size soh here.raw (drop end held ++ []) (take frame.end message) some here.stands in
    let taken = length-take-le frame.end message is.within in
    let nine = frame-nine (slice_range message frame.start frame.end) (slice_range message frame.body (frame.end - 7)) is.message in
    let same : slice_range message frame.start frame.end ≡ take frame.end message =
    let all : frame.end - 0 ≡ frame.end = omega arith in ap (λ (k : ℕ). slice_range message k frame.end) is.begins ∙ ap (λ (k : ℕ). take k message) all in
    let nine_taken = ap length same in
    let reaches = here.reaches in
    record {
      ordered = omega (arith, before);
      inside = omega (arith, within);
      later = omega (arith, reaches, size, taken, nine, nine_taken);
      within = here.inside;
      each = λ more follows.
          let there = after more (undressed more follows) in
          record {
            raw = there.raw;
            cut = ap (λ (t : List ℕ). t ++ more) there.cut ∙ append_assoc there.raw (drop end held) more;
            one_line = there.one_line;
            frame = take frame.end message;
            stands = there.stands;
            message = subst (λ (t : List ℕ). IsFrameWith any_version t (slice_range message frame.body (frame.end - 7))) same is.message;
          };
    }

-- all bytes
pub ends-all : (soh held : List ℕ) (place : ℕ) (message : List ℕ) (to count : ℕ) → count ≡ length message → EndsFront soh held place message to count to
ends-all soh held place message to count all = λ more undressed.
    subst (Undressed soh held place more to) (sym (take_all count message (omega (arith, all)))) undressed

-- a fault that stays
pub fault-line : (soh held : List ℕ) (place : ℕ) (ended : Bool) (to : ℕ) (message : List ℕ) (fault : FrameFault) → 0 < length soh → HasNoLineEnd soh → IsUndressed soh held place ended to message → frame_fault_with any_version message ≡ Some fault → fault ≢ faults.Truncated
    → (more : List ℕ) → MayFollow ended more → BeginsWithFault soh (drop place held ++ more) fault
fault-line soh held place ended to message fault some none undressed fails other = λ more follows.
    let here = undressed more follows in
    let left = first-line (drop to held ++ more) in
    let later = stands-some soh some none (length left.line + 1) left.line left.later (omega arith) left.ends in
    record {
      line = here.raw ++ left.line;
      later = left.later;
      cut = ap (λ (t : List ℕ). t ++ more) here.cut ∙ append_assoc here.raw (drop to held) more ∙ ap (λ (t : List ℕ). here.raw ++ t) left.cut ∙ sym (append_assoc here.raw left.line left.later);
      one_line = list_all-append (λ byte. not (byte == 10)) here.raw left.line ∙ and_from _ _ here.one_line left.one_line;
      ends = left.ends;
      bytes = message ++ later.0;
      stands = stand-on soh here.raw left.line left.later message later.0 (subst (λ (t : List ℕ). StandFor soh here.raw t message) left.cut here.stands) later.1;
      fails = fault-stays any_version message later.0 fault any-headers fails other;
    }

-- a fault at the end of the line
pub fault-end : (soh held : List ℕ) (place : ℕ) (ended : Bool) (to : ℕ) (message : List ℕ) (fault : FrameFault) → IsUndressed soh held place ended to message → frame_fault_with any_version message ≡ Some fault
    → ((more : List ℕ) → MayFollow ended more → ends_line (drop to held ++ more) ≡ true) → (more : List ℕ) → MayFollow ended more → BeginsWithFault soh (drop place held ++ more) fault
fault-end soh held place ended to message fault undressed fails ends = λ more follows.
    let here = undressed more follows in
    record {
      line = here.raw;
      later = drop to held ++ more;
      cut = ap (λ (t : List ℕ). t ++ more) here.cut ∙ append_assoc here.raw (drop to held) more;
      one_line = here.one_line;
      ends = ends more follows;
      bytes = message;
      stands = here.stands;
      fails = fails;
    }

-- what a fault says
pub refused : (soh held : List ℕ) (place count : ℕ) (ended : Bool) (to : ℕ) (message : List ℕ) (fault : FrameFault) (why : UndressedTo) → 0 < length soh → HasNoLineEnd soh → IsUndressed soh held place ended to message → IsReached held count ended to message why
    → frame_fault_with any_version message ≡ Some fault → MatchOption (refusal fault why) (NeedsMore message why) (LookSays soh held place ended message)
refused soh held place count ended to message faults.Begin why some none undressed reached fails = fault-line soh held place ended to message faults.Begin some none undressed fails (λ is. cc is)
refused soh held place count ended to message faults.Length why some none undressed reached fails = fault-line soh held place ended to message faults.Length some none undressed fails (λ is. cc is)
refused soh held place count ended to message faults.Truncated why.Count some none undressed reached fails = record { cut = fails; count = refl }
refused soh held place count ended to message faults.Truncated why.LineEnd some none undressed reached fails = fault-end soh held place ended to message faults.Truncated undressed fails reached
refused soh held place count ended to message faults.Truncated why.Held some none undressed reached fails = reached
refused soh held place count ended to message faults.Trailer why some none undressed reached fails = fault-line soh held place ended to message faults.Trailer some none undressed fails (λ is. cc is)
refused soh held place count ended to message faults.Checksum why some none undressed reached fails = fault-line soh held place ended to message faults.Checksum some none undressed fails (λ is. cc is)

-- how many bytes can be asked for
pub longest-any : longest_frame_with any_version ≡ 1048606
unfolding any_version
longest-any = refl

pub needs-fewer : (held message : List ℕ) (count : ℕ) (ended : Bool) (to : ℕ) (why : UndressedTo) → NeedsMore message why → IsReached held count ended to message why → count < 1048606
needs-fewer held message count ended to why needs reached =
    let enough : count ≤ length message = subst (IsReached held count ended to message) needs.count reached in
    omega (arith, enough, Truncated-bound any_version message needs.cut, longest-any)
