-- What is read of a day of which each line is read alone.
use Rattle.std.proofs.Common.{◌≡◌, ℕ, ◌+◌, ◌<◌, ◌≤◌, Bool, true, false, not, ◌==◌, Option, Some, None, List, [], ◌∷◌, ◌++◌, length, map, refl, sym, subst, ap, ◌∙◌, arith}
use Rattle.std.specs.Prelude.{if◌then◌else◌}
use Rattle.std.specs.List.{list_all}
use Rattle.std.proofs.lemmas.Bool.{and_parts}
use Rattle.std.proofs.lemmas.List.{length-append, length-map}
use Rattle.fix_days.specs.declared.faults.BadMessage.{BadMessage}
use Rattle.fix_days.specs.Lines.{HasNoLineEnd, IsLeftAfter, IsLineReading}
use Rattle.fix_days.specs.LinesAlone.{DayMessage, lines_of, LineSays, LinesSay, messages_of_line, with_byte}
use Rattle.fix_days.specs.LinesAlone.DayMessage.{Bad, Good}
use Rattle.fix_days.proofs.LineSomeLemmas.{some-line-reading}
use Rattle.fix_days.proofs.LineUniqueLemmas.{one-line-reading}
use Rattle.fix_days.proofs.LookLemmas.{stand-size}
use Rattle.fix_days.proofs.SearchLemmas.{beginning-six}
use Rattle.fix_days.proofs.TextLemmas.{frame-nine}

no-end : (byte : ℕ) (rest : List ℕ) → HasNoLineEnd (byte ∷ rest) → ((byte == 10) ≡ false) × HasNoLineEnd rest
no-end byte rest is =
    let both = and_parts (not (byte == 10)) (list_all (λ b. not (b == 10)) rest) is in (by-bool (byte == 10) both.0, both.1)
  where
    by-bool : (b : Bool) → not b ≡ true → b ≡ false
    by-bool true e = absurd (cc e)
    by-bool false e = refl

in-line-byte : (byte : ℕ) (rest : List ℕ) → (byte == 10) ≡ false → lines_of (byte ∷ rest) ≡ with_byte byte (lines_of rest)
in-line-byte byte rest other = ap (λ (b : Bool). if b then [] ∷ lines_of rest else with_byte byte (lines_of rest)) other

-- what is after a part of a line is behind it
pub lines-ended : (line rest : List ℕ) → HasNoLineEnd line → lines_of (line ++ 10 ∷ rest) ≡ line ∷ lines_of rest
lines-ended [] rest none = refl
lines-ended (byte ∷ line) rest none =
    let both = no-end byte line none in in-line-byte byte (line ++ 10 ∷ rest) both.0 ∙ ap (with_byte byte) (lines-ended line rest both.1)

pub lines-last : (line : List ℕ) → HasNoLineEnd line → lines_of line ≡ line ∷ []
lines-last [] none = refl
lines-last (byte ∷ line) none =
    let both = no-end byte line none in in-line-byte byte line both.0 ∙ ap (with_byte byte) (lines-last line both.1)

-- the first line of a text, and the others
pub record FirstOf (part text : List ℕ) : Type 0 where
  pub line : List ℕ
  pub later : List (List ℕ)
  pub are : lines_of (part ++ text) ≡ (part ++ line) ∷ later

pub lines-some : (text : List ℕ) → FirstOf [] text
lines-some text = by-lines (lines_of text) refl
  where
    by-byte : (byte : ℕ) (b : Bool) (lines : List (List ℕ)) → [] ≡ (if b then [] ∷ lines else with_byte byte lines) → FirstOf [] text
    by-byte byte true lines e = absurd (cc e)
    by-byte byte false [] e = absurd (cc e)
    by-byte byte false (line ∷ lines) e = absurd (cc e)

    never : (some : List ℕ) → [] ≡ lines_of some → FirstOf [] text
    never [] e = absurd (cc e)
    never (byte ∷ rest) e = by-byte byte (byte == 10) (lines_of rest) e

    by-lines : (lines : List (List ℕ)) → lines ≡ lines_of text → FirstOf [] text
    by-lines [] e = never text e
    by-lines (line ∷ later) e = record { line = line; later = later; are = sym e }

pub lines-behind : (part text : List ℕ) → HasNoLineEnd part → FirstOf part text
lines-behind [] text none = lines-some text
lines-behind (byte ∷ part) text none =
    let both = no-end byte part none in
    let rest = lines-behind part text both.1 in
    record { line = rest.line; later = rest.later; are = in-line-byte byte (part ++ text) both.0 ∙ ap (with_byte byte) rest.are }

-- how many messages a line has
pub left-size : (soh day : List ℕ) (bodies : List (List ℕ)) (left : List ℕ) → 0 < length soh → IsLeftAfter soh day bodies left → length bodies + length left ≤ length day
left-size soh day [] left some is = let same = ap length is in omega (arith, same)
left-size soh day (body ∷ bodies) left some is =
    let first = is.3 in
    let message = is.4 in
    let size = stand-size soh message.raw is.2 message.frame some message.stands in
    let nine = frame-nine message.frame body message.message in
    let rest = left-size soh is.2 bodies left some is.5 in
    let whole = ap length first.cut ∙ length-append is.0 is.1 in
    let from = ap length message.cut ∙ length-append message.raw is.2 in
    omega (arith, size, nine, rest, whole, from)

pub line-size : (soh line : List ℕ) (count offset : ℕ) (bodies : List (List ℕ)) (bad : Option BadMessage) → 0 < length soh → IsLineReading soh line bodies bad → length (messages_of_line count offset bodies bad) ≤ length line
line-size soh line count offset bodies None some is =
    let few = left-size soh line bodies is.left some is.messages in
    let same = length-map bodies Good in omega (arith, few, same)
line-size soh line count offset bodies (Some bad) some is =
    let few = left-size soh line bodies is.left some is.messages in
    let same = length-map bodies Good in
    let six = beginning-six is.left (length is.before) is.begins.is in
    let both = length-append (map Good bodies) (Bad (count + bad.place) (offset + bad.offset) bad.fault ∷ []) in
    omega (arith, few, same, six, both)

module _ (soh : List ℕ) (some : 0 < length soh) where
  pub line-one : (count offset : ℕ) (line : List ℕ) (messages others : List DayMessage) → LineSays soh count offset line messages → LineSays soh count offset line others → messages ≡ others
  line-one count offset line messages others is it =
      let same = one-line-reading soh some line is.bodies it.bodies is.bad it.bad is.read it.read in
      is.are ∙ ap (λ (bs : List (List ℕ)). messages_of_line count offset bs is.bad) same.0 ∙ ap (messages_of_line count offset it.bodies) same.1 ∙ sym it.are

  pub lines-one : (count offset : ℕ) (lines : List (List ℕ)) (messages others : List DayMessage) → LinesSay soh count offset lines messages → LinesSay soh count offset lines others → messages ≡ others
  lines-one count offset [] messages others is it = is ∙ sym it
  lines-one count offset (line ∷ lines) messages others is it =
      let first = line-one count offset line is.0 it.0 is.2 it.2 in
      let there = subst (λ (t : List DayMessage). LinesSay soh (count + length t) (offset + (length line + 1)) lines it.1) (sym first) it.3 in
      let later = lines-one (count + length is.0) (offset + (length line + 1)) lines is.1 it.1 is.3 there in
      is.4 ∙ ap (λ (t : List DayMessage). t ++ is.1) first ∙ ap (λ (t : List DayMessage). it.0 ++ t) later ∙ sym it.4

  pub lines-have-some : HasNoLineEnd soh → (count offset : ℕ) (lines : List (List ℕ)) → (messages : List DayMessage) × LinesSay soh count offset lines messages
  lines-have-some none count offset [] = ([], refl)
  lines-have-some none count offset (line ∷ lines) =
      let one = some-line-reading soh some none line in
      let first = messages_of_line count offset one.0 one.1 in
      let later = lines-have-some none (count + length first) (offset + (length line + 1)) lines in
      (first ++ later.0, (first, later.0, record { bodies = one.0; bad = one.1; read = one.2; are = refl }, later.1, refl))
