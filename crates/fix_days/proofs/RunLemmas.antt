-- Runs of bytes of a line, each of which stands for one byte.
use Rattle.std.proofs.Common.{◌≡◌, ℕ, ◌+◌, ◌<◌, ◌≤◌, Bool, true, false, cond, not, ◌==◌, Option, Some, None, List, [], ◌∷◌, ◌++◌, length, take, drop, map, refl, sym, subst, ap, ◌∙◌, inl, inr, append_assoc, arith}
use Rattle.std.specs.Prelude.{MatchOption, get_or, nat_eq}
use Rattle.std.specs.List.{list_all, prefix_len, starts_with}
use Rattle.std.proofs.lemmas.Bool.{and_from, and_parts, cases_Bool, eq-eqb, eqb-true, or_parts}
use Rattle.std.proofs.lemmas.List.{drop-drop, get_or-take, length-append, length-drop, length-take-le, take_all, take_at, take-append-drop, take-take}
use Rattle.std.proofs.lemmas.List.Elements.{All-from_get_or}
use Rattle.std.proofs.lemmas.List.Folds.{list_all-append}
use Rattle.std.proofs.lemmas.List.Sums.{list_all-from_AllPass, prefix_len-le-length, prefix_len_passes}
use Rattle.memchr.specs.Find.{IsFirstByte, is_byte, is_byte2}
use Rattle.fix_framing.proofs.PrefixLemmas.{false-from, split-at}
use Rattle.fix_days.specs.Lines.{HasNoLineEnd, IsUnit, StandFor}
use Rattle.fix_days.specs.Runs.{AppendsRun, IsNearRun, IsRun, IsRunUpTo, byte_alone, stands_alone}
use Rattle.fix_days.specs.Undressings.{Undressed, Undresses}
use Rattle.fix_days.proofs.UndressLemmas.{undressed-on}

-- a byte of a run does not end the line
alone-line : (soh : List ℕ) (byte : ℕ) → stands_alone soh byte ≡ true → not (byte == 10) ≡ true
alone-line [] byte is = is
alone-line (only ∷ []) byte is = is
alone-line (first ∷ second ∷ rest) byte is = (and_parts (not (byte == 10)) (not (byte == first)) is).0

-- a run is on one line
pub run-line : (soh run : List ℕ) → IsRun soh run → HasNoLineEnd run
run-line soh [] is = refl
run-line soh (byte ∷ run) is =
    let parts = and_parts (stands_alone soh byte) (list_all (stands_alone soh) run) is in
    and_from (not (byte == 10)) (list_all (λ b. not (b == 10)) run) (alone-line soh byte parts.0) (run-line soh run parts.1)

-- a byte of a run is what stands for one byte, whatever follows
alone-unit : (soh : List ℕ) (byte : ℕ) (run more : List ℕ) → 0 < length soh → stands_alone soh byte ≡ true → IsUnit soh (byte ∷ run) more (byte_alone soh byte) run
alone-unit [] byte run more some is = absurd (omega (arith, some))
alone-unit (only ∷ []) byte run more some is = elim (cases_Bool (byte == only)) [
  | inl same ↦ inl (ap (λ (b : ℕ). b ∷ run) (eqb-true byte only same), ap (λ (t : Bool). cond t 1 byte) same)
  | inr other ↦
      let itself : cond (byte == only) 1 byte ≡ byte = ap (λ (t : Bool). cond t 1 byte) other in
      inr (
        ap (λ (b : ℕ). b ∷ run) (sym itself),
        false-from (starts_with nat_eq ((byte ∷ run) ++ more) (only ∷ [])) (λ starts.
            let whole = split-at ((byte ∷ run) ++ more) (only ∷ []) starts in
            let same : byte ≡ only = cc whole in cc (sym other ∙ eq-eqb byte only same)),
      )
]
alone-unit (first ∷ second ∷ rest) byte run more some is = inr (
  refl,
  false-from (starts_with nat_eq ((byte ∷ run) ++ more) (first ∷ second ∷ rest)) (λ starts.
      let whole = split-at ((byte ∷ run) ++ more) (first ∷ second ∷ rest) starts in
      let same : byte ≡ first = cc whole in
      cc (sym (and_parts (not (byte == 10)) (not (byte == first)) is).1 ∙ ap not (eq-eqb byte first same))),
)

-- each byte of a run stands for one
pub run-stands : (soh run more : List ℕ) → 0 < length soh → IsRun soh run → StandFor soh run more (map (byte_alone soh) run)
run-stands soh [] more some is = refl
run-stands soh (byte ∷ run) more some is =
    let parts = and_parts (stands_alone soh byte) (list_all (stands_alone soh) run) is in
    (run, alone-unit soh byte run more some parts.0, run-stands soh run more some parts.1)

-- a run is undressed
undressed-run : (soh text more : List ℕ) (at size : ℕ) → 0 < length soh → at ≤ length text → IsRunUpTo soh (drop at text) size → Undressed soh text at more (at + size) (map (byte_alone soh) (take size (drop at text)))
undressed-run soh text more at size some inside is =
    let rest = length-drop at text in
    let within = is.inside in
    let taken = length-take-le size (drop at text) is.inside in
    let same : drop size (drop at text) ≡ drop (at + size) text = drop-drop size at text in
    record {
      raw = take size (drop at text);
      cut = sym (take-append-drop size (drop at text)) ∙ ap (λ (t : List ℕ). take size (drop at text) ++ t) same;
      reaches = omega (arith, taken);
      inside = omega (arith, rest, within, inside);
      one_line = run-line soh (take size (drop at text)) is.run;
      stands = run-stands soh (take size (drop at text)) (drop (at + size) text ++ more) some is.run;
    }

-- a run more
pub undresses-run : (soh text : List ℕ) (at : ℕ) (ended : Bool) (old out new : List ℕ) (to size : ℕ) → 0 < length soh → Undresses soh text at ended old out to → AppendsRun soh (drop to text) out new size → Undresses soh text at ended old new (to + size)
undresses-run soh text at ended old out new to size some so run =
    let inside = so.inside in
    let within = run.is.inside in
    let rest = length-drop to text in
    let bytes = map (byte_alone soh) (take size (drop to text)) in
    record {
      bytes = so.bytes ++ bytes;
      appended = run.appended ∙ ap (λ (t : List ℕ). t ++ bytes) so.appended ∙ append_assoc old so.bytes bytes;
      inside = omega (arith, inside, within, rest);
      undressed = λ more follows. undressed-on soh text more at to (to + size) so.bytes bytes (so.undressed more follows) (undressed-run soh text more to size some so.inside run.is);
    }

-- bytes of which each stands alone are a run
run-of-each : (soh bytes : List ℕ) → ((k : ℕ) → k < length bytes → stands_alone soh (get_or bytes k 0) ≡ true) → IsRun soh bytes
run-of-each soh bytes each = list_all-from_AllPass (stands_alone soh) bytes (All-from_get_or (λ b. stands_alone soh b ≡ true) bytes 0 each)

-- the bytes before a place, of which each stands alone, are a run
run-before : (soh text : List ℕ) (end : ℕ) → end ≤ length text → ((k : ℕ) → k < end → stands_alone soh (get_or text k 0) ≡ true) → IsRunUpTo soh text end
run-before soh text end inside each =
    let taken = length-take-le end text inside in
    record {
      inside = inside;
      run = run-of-each soh (take end text) (λ k low. let few : k < end = omega (arith, low, taken) in subst (λ (b : ℕ). stands_alone soh b ≡ true) (sym (get_or-take end text k 0 few)) (each k few));
    }

-- where a search found nothing, or its first place
run-found : (soh text : List ℕ) (test : ℕ → Bool) (found : Option ℕ) → ((byte : ℕ) → (test byte ≡ true → ⊥) → stands_alone soh byte ≡ true) → IsFirstByte test text found → MatchOption found (IsRun soh text) (IsRunUpTo soh text)
run-found soh text test None alone first = run-of-each soh text (λ k low. alone (get_or text k 0) (first k (omega arith) low))
run-found soh text test (Some end) alone first =
    let high = first.0.high in
    run-before soh text end (omega (arith, high)) (λ k low. alone (get_or text k 0) (first.0.before k (omega arith) low))

-- the end of a run, where SOH is written as one byte
pub run-of-one : (soh text : List ℕ) (found : Option ℕ) → length soh ≡ 1 → IsFirstByte (is_byte 10) text found → MatchOption found (IsRun soh text) (IsRunUpTo soh text)
run-of-one [] text found one first = absurd (omega (arith, one))
run-of-one (only ∷ []) text found one first = run-found (only ∷ []) text (is_byte 10) found (λ byte other. ap not (false-from (byte == 10) other)) first
run-of-one (only ∷ second ∷ rest) text found one first = absurd (omega (arith, one))

-- the end of a run, where it is written as more
pub run-of-more : (soh text : List ℕ) (byte : ℕ) (found : Option ℕ) → 0 < length soh → (length soh == 1) ≡ false → get_or soh 0 0 ≡ byte → IsFirstByte (is_byte2 10 byte) text found → MatchOption found (IsRun soh text) (IsRunUpTo soh text)
run-of-more [] text byte found some more is first = absurd (omega (arith, some))
run-of-more (only ∷ []) text byte found some more is first = absurd (cc more)
run-of-more (first_byte ∷ second ∷ rest) text byte found some more is first =
    run-found (first_byte ∷ second ∷ rest) text (is_byte2 10 byte) found (λ each other.
    let parts = or_parts (each == 10) (each == byte) (false-from (is_byte2 10 byte each) other) in
    and_from (not (each == 10)) (not (each == first_byte)) (ap not parts.0) (ap (λ (b : ℕ). not (each == b)) is ∙ ap not parts.1)) first

-- what is found in the first bytes is among them
pub near-front : (p : ℕ → Bool) (text : List ℕ) → 16 ≤ length text → prefix_len p (take 16 text) ≤ 16
near-front p text room =
    let least = prefix_len-le-length p (take 16 text) in
    let taken = length-take-le 16 text room in omega (arith, least, taken)

-- the first bytes up to the end of a line and to what may begin the text for SOH
pub run-near : (soh text : List ℕ) (byte line first size : ℕ) → 16 ≤ length text → get_or soh 0 0 ≡ byte → line ≡ prefix_len (λ each. not (each == 10)) (take 16 text) → first ≡ prefix_len (λ each. not (each == byte)) (take 16 text) → size ≤ line → size ≤ first
    → IsRunUpTo soh text size
run-near soh text byte line first size room is before_line before_first low lower =
    let near = near-front (λ each. not (each == 10)) text room in
    run-before soh text size (omega (arith, near, before_line, low, room)) (λ k few.
    let short : k < 16 = omega (arith, near, before_line, low, few) in
    let same : get_or (take 16 text) k 0 ≡ get_or text k 0 = get_or-take 16 text k 0 short in
    alone soh (get_or text k 0) (subst (λ (b : ℕ). not (b == 10) ≡ true) same (prefix_len_passes (λ each. not (each == 10)) (take 16 text) k 0 (omega (arith, few, low, before_line))))
    (subst (λ (o : ℕ). not (get_or text k 0 == o) ≡ true) (sym is) (subst (λ (b : ℕ). not (b == byte) ≡ true) same (prefix_len_passes (λ each. not (each == byte)) (take 16 text) k 0 (omega (arith, few, lower, before_first))))))
  where
    alone : (soh : List ℕ) (each : ℕ) → not (each == 10) ≡ true → not (each == get_or soh 0 0) ≡ true → stands_alone soh each ≡ true
    alone [] each line other = line
    alone (only ∷ []) each line other = line
    alone (one ∷ second ∷ rest) each line other = and_from (not (each == 10)) (not (each == one)) line other

-- where a whole chunk was appended, its first bytes are kept
pub front-kept : (old text : List ℕ) (size : ℕ) → size ≤ 16 → 16 ≤ length text → take (length old + size) (old ++ take 16 text) ≡ old ++ take size text
front-kept old text size few room =
    let front = take size text in
    let rest = drop size (take 16 text) in
    let taken = length-take-le size text (omega (arith, few, room)) in
    let long = length-append old front in
    ap (λ (t : List ℕ). take (length old + size) (old ++ t)) (sym (take-append-drop size (take 16 text)) ∙ ap (λ (t : List ℕ). t ++ rest) (take-take size 16 text few))
    ∙ ap (take (length old + size)) (sym (append_assoc old front rest))
    ∙ take_at (old ++ front) rest (length old + size) (omega (arith, long, taken))

-- a text that is a run whole
pub run-whole : (soh text : List ℕ) → IsRun soh text → IsRunUpTo soh text (length text)
run-whole soh text is = record { inside = omega arith; run = subst (IsRun soh) (sym (take_all (length text) text (omega arith))) is }

-- a shorter run
pub run-least : (soh text : List ℕ) (size least : ℕ) → least ≤ size → IsRunUpTo soh text size → IsRunUpTo soh text least
run-least soh text size least low is =
    let inside = is.inside in
    let parts = and_parts (list_all (stands_alone soh) (take least text)) (list_all (stands_alone soh) (drop least (take size text)))
    (sym (list_all-append (stands_alone soh) (take least text) (drop least (take size text))) ∙ subst (IsRun soh) (sym (front-of text size least low)) is.run) in
    record { inside = omega (arith, inside, low); run = parts.0 }
  where
    front-of : (text : List ℕ) (size least : ℕ) → least ≤ size → take least text ++ drop least (take size text) ≡ take size text
    front-of text size least low = ap (λ (t : List ℕ). t ++ drop least (take size text)) (sym (take-take least size text low)) ∙ take-append-drop least (take size text)

-- where SOH is written as more than one byte, a run stands for itself
pub run-itself : (soh run : List ℕ) → 0 < length soh → (length soh == 1) ≡ false → map (byte_alone soh) run ≡ run
run-itself [] run some more = absurd (omega (arith, some))
run-itself (only ∷ []) run some more = absurd (cc more)
run-itself (first ∷ second ∷ rest) [] some more = refl
run-itself (first ∷ second ∷ rest) (byte ∷ run) some more = ap (λ (t : List ℕ). byte ∷ t) (run-itself (first ∷ second ∷ rest) run some more)

-- a run that ends within the first bytes is appended as it is
pub near-appended : (soh text old new : List ℕ) (size : ℕ) → 0 < length soh → IsNearRun soh text size → new ≡ old ++ take size text → AppendsRun soh text old new size
near-appended soh text old new size some near is = record { is = near.is; appended = is ∙ ap (λ (t : List ℕ). old ++ t) (sym (run-itself soh (take size text) some near.longer)) }

-- where it is written as one, SOH takes its place
pub run-replaced : (soh run : List ℕ) (byte : ℕ) → length soh ≡ 1 → get_or soh 0 0 ≡ byte → map (λ b. cond (b == byte) 1 b) run ≡ map (byte_alone soh) run
run-replaced [] run byte one is = absurd (omega (arith, one))
run-replaced (only ∷ []) run byte one is = ap (λ (o : ℕ). map (λ b. cond (b == o) 1 b) run) (sym is)
run-replaced (only ∷ second ∷ rest) run byte one is = absurd (omega (arith, one))
