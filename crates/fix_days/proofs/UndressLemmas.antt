-- What lines stand for.
use Rattle.std.proofs.Common.{◌≡◌, ℕ, ◌+◌, ◌-◌, ◌<◌, ◌≤◌, Bool, true, false, cond, not, ◌==◌, List, [], ◌∷◌, ◌++◌, length, take, drop, refl, sym, subst, ap, ◌∙◌, inl, inr, append_assoc, arith}
use Rattle.std.specs.Prelude.{get_or, nat_eq, slice_index}
use Rattle.std.specs.List.{list_all, starts_with}
use Rattle.std.proofs.lemmas.Bool.{and_from, and_parts, cases_lt, false≢true}
use Rattle.std.proofs.lemmas.List.{append-nil, drop_at, drop-drop, drop_more, length-append, length-drop, take_all, take_at, take-append-drop, take_more}
use Rattle.std.proofs.lemmas.List.Folds.{list_all-append}
use Rattle.fix_framing.proofs.PrefixLemmas.{false-from, shorter-prefix, split-at, starts-so}
use Rattle.fix_days.specs.Lines.{HasNoLineEnd, IsUnit, StandFor}
use Rattle.fix_days.specs.Undressings.{HasUndressed, IsNextUnit, IsUndressed, MayFollow, Undressed, Undresses}

-- one unit more
pub stand-more : (soh raw part more bytes : List ℕ) (byte : ℕ) → StandFor soh raw (part ++ more) bytes → IsUnit soh part more byte [] → StandFor soh (raw ++ part) more (bytes ++ byte ∷ [])
stand-more soh raw part more [] byte stands unit = ([], subst (λ (r : List ℕ). IsUnit soh (r ++ part) more byte []) (sym stands) unit, refl)
stand-more soh raw part more (first ∷ bytes) byte stands unit =
    (stands.0 ++ part, unit-more soh raw stands.0 part more first stands.1, stand-more soh stands.0 part more bytes byte stands.2 unit)
  where
    unit-more : (soh raw rest part more : List ℕ) (first : ℕ) → IsUnit soh raw (part ++ more) first rest → IsUnit soh (raw ++ part) more first (rest ++ part)
    unit-more soh raw rest part more first (inl is) = inl (ap (λ (t : List ℕ). t ++ part) is.0 ∙ append_assoc soh rest part, is.1)
    unit-more soh raw rest part more first (inr is) =
        inr (ap (λ (t : List ℕ). t ++ part) is.0, ap (λ (t : List ℕ). starts_with nat_eq t soh) (append_assoc raw part more) ∙ is.1)

-- what a line stands for goes on with what the rest of it stands for
pub stand-on : (soh raw rest more bytes later : List ℕ) → StandFor soh raw (rest ++ more) bytes → StandFor soh rest more later → StandFor soh (raw ++ rest) more (bytes ++ later)
stand-on soh raw rest more [] later stands next = subst (λ (r : List ℕ). StandFor soh (r ++ rest) more later) (sym stands) next
stand-on soh raw rest more (first ∷ bytes) later stands next =
    (stands.0 ++ rest, unit-on soh raw stands.0 rest more first stands.1, stand-on soh stands.0 rest more bytes later stands.2 next)
  where
    unit-on : (soh raw tail rest more : List ℕ) (first : ℕ) → IsUnit soh raw (rest ++ more) first tail → IsUnit soh (raw ++ rest) more first (tail ++ rest)
    unit-on soh raw tail rest more first (inl is) = inl (ap (λ (t : List ℕ). t ++ rest) is.0 ∙ append_assoc soh tail rest, is.1)
    unit-on soh raw tail rest more first (inr is) =
        inr (ap (λ (t : List ℕ). t ++ rest) is.0, ap (λ (t : List ℕ). starts_with nat_eq t soh) (append_assoc raw rest more) ∙ is.1)

-- a text that begins so begins so however it goes on
pub starts-longer : (text soh more : List ℕ) → starts_with nat_eq text soh ≡ true → starts_with nat_eq (text ++ more) soh ≡ true
starts-longer text soh more starts =
    starts-so (text ++ more) soh (drop (length soh) text ++ more) (ap (λ (t : List ℕ). t ++ more) (split-at text soh starts) ∙ append_assoc soh (drop (length soh) text) more)

-- where the text for SOH stands neither here nor may yet, it does not stand there
pub no-unit : (soh text more : List ℕ) (ended : Bool) → starts_with nat_eq text soh ≡ false → (ended ≡ false → starts_with nat_eq soh text ≡ false) → MayFollow ended more → starts_with nat_eq (text ++ more) soh ≡ false
no-unit soh text more ended none cut follows =
    false-from (starts_with nat_eq (text ++ more) soh) (λ starts.
    let whole = split-at (text ++ more) soh starts in
    elim (cases_lt (length text) (length soh)) [
      | inl few ↦ by-end ended refl (shorter-prefix text soh more (drop (length soh) (text ++ more)) whole (omega (arith, few))) few whole
      | inr many ↦ false≢true (sym none ∙ shorter-prefix soh text (drop (length soh) (text ++ more)) more (sym whole) many)
    ])
  where
    by-end : (b : Bool) → ended ≡ b → starts_with nat_eq soh text ≡ true → length text < length soh → text ++ more ≡ soh ++ drop (length soh) (text ++ more) → ⊥
    by-end true is starts few whole =
        let size = ap length whole ∙ length-append soh (drop (length soh) (text ++ more)) in
        let left = length-append text more in
        let none_left = ap length (follows is) in omega (arith, size, left, none_left, few)
    by-end false is starts few whole = false≢true (sym (cut is) ∙ starts)

-- the next unit, as the code finds it
pub soh-next : (soh text : List ℕ) (ended : Bool) → 0 < length soh → HasNoLineEnd soh → starts_with nat_eq text soh ≡ true → IsNextUnit soh text ended 1 (length soh)
soh-next soh text ended some line starts =
    let whole = split-at text soh starts in
    let size = ap length whole ∙ length-append soh (drop (length soh) text) in
    let front : take (length soh) text ≡ soh = ap (take (length soh)) whole ∙ take_at soh (drop (length soh) text) (length soh) refl in
    record {
      some = some;
      inside = omega (arith, size);
      one_line = subst HasNoLineEnd (sym front) line;
      is = λ more follows. inl (front ∙ sym (append-nil soh), refl);
    }

pub one-next : (soh rest : List ℕ) (byte : ℕ) (ended : Bool) → (byte == 10) ≡ false → starts_with nat_eq (byte ∷ rest) soh ≡ false → (ended ≡ false → starts_with nat_eq soh (byte ∷ rest) ≡ false) → IsNextUnit soh (byte ∷ rest) ended byte 1
one-next soh rest byte ended other none cut = record {
  some = omega arith;
  inside = omega arith;
  one_line = rw other refl;
  is = λ more follows. inr (refl, no-unit soh (byte ∷ rest) more ended none cut follows);
}

-- nothing is undressed
pub undressed-none : (soh text more : List ℕ) (at : ℕ) → at ≤ length text → Undressed soh text at more at []
undressed-none soh text more at inside = record { raw = []; cut = refl; reaches = omega arith; inside = inside; one_line = refl; stands = refl }

-- two parts after one another
pub undressed-on : (soh text more : List ℕ) (at mid to : ℕ) (bytes later : List ℕ) → Undressed soh text at more mid bytes → Undressed soh text mid more to later → Undressed soh text at more to (bytes ++ later)
undressed-on soh text more at mid to bytes later first next =
    let joined : drop mid text ++ more ≡ next.raw ++ (drop to text ++ more) = ap (λ (t : List ℕ). t ++ more) next.cut ∙ append_assoc next.raw (drop to text) more in
    record {
      raw = first.raw ++ next.raw;
      cut = first.cut ∙ ap (λ (t : List ℕ). first.raw ++ t) next.cut ∙ sym (append_assoc first.raw next.raw (drop to text));
      reaches = omega (arith, first.reaches, next.reaches, length-append first.raw next.raw);
      inside = next.inside;
      one_line = list_all-append (λ byte. not (byte == 10)) first.raw next.raw ∙ and_from _ _ first.one_line next.one_line;
      stands = stand-on soh first.raw next.raw (drop to text ++ more) bytes later (subst (λ (t : List ℕ). StandFor soh first.raw t bytes) joined first.stands) next.stands;
    }

-- one unit
pub undressed-unit : (soh text : List ℕ) (at : ℕ) (ended : Bool) (byte size : ℕ) → at ≤ length text → IsNextUnit soh (drop at text) ended byte size → IsUndressed soh text at ended (at + size) (byte ∷ [])
undressed-unit soh text at ended byte size inside next = λ more follows.
    let rest = length-drop at text in
    let within = next.inside in
    let cut : drop at text ≡ take size (drop at text) ++ drop size (drop at text) = sym (take-append-drop size (drop at text)) in
    let same : drop size (drop at text) ≡ drop (at + size) text = drop-drop size at text in
    let taken : length (drop at text) ≡ length (take size (drop at text)) + length (drop size (drop at text)) = ap length cut ∙ length-append (take size (drop at text)) (drop size (drop at text)) in
    let left = length-drop size (drop at text) in
    record {
      raw = take size (drop at text);
      cut = cut ∙ ap (λ (t : List ℕ). take size (drop at text) ++ t) same;
      reaches = omega (arith, taken, left, within);
      inside = omega (arith, rest, within, inside);
      one_line = next.one_line;
      stands = ([], subst (λ (t : List ℕ). IsUnit soh (take size (drop at text)) (t ++ more) byte []) same (next.is more follows), refl);
    }

-- one unit more
pub undresses-more : (soh text : List ℕ) (at : ℕ) (ended : Bool) (old out new : List ℕ) (to byte size : ℕ) → Undresses soh text at ended old out to → IsNextUnit soh (drop to text) ended byte size → new ≡ out ++ byte ∷ [] → Undresses soh text at ended old new (to + size)
undresses-more soh text at ended old out new to byte size so next is =
    let inside = so.inside in
    let within = next.inside in
    let rest = length-drop to text in
    record {
      bytes = so.bytes ++ byte ∷ [];
      appended = is ∙ ap (λ (t : List ℕ). t ++ byte ∷ []) so.appended ∙ append_assoc old so.bytes (byte ∷ []);
      inside = omega (arith, inside, within, rest);
      undressed = λ more follows. undressed-on soh text more at to (to + size) so.bytes (byte ∷ []) (so.undressed more follows) (undressed-unit soh text to ended byte size so.inside next more follows);
    }

-- the unit that is passed over, and what is after it
pub record Passes (soh text : List ℕ) (at : ℕ) (more : List ℕ) (to : ℕ) (byte : ℕ) (bytes : List ℕ) (mid : ℕ) : Type 0 where
  pub unit : Undressed soh text at more mid (byte ∷ [])
  pub rest : Undressed soh text mid more to bytes

pub pass-unit : (soh text : List ℕ) (at : ℕ) (more : List ℕ) (to byte : ℕ) (bytes : List ℕ) → Undressed soh text at more to (byte ∷ bytes)
    → Passes soh text at more to byte bytes (at + cond (starts_with nat_eq (drop at text) soh) (length soh) 1)
pass-unit soh text at more to byte bytes is = by-unit is.stands.1
  where
    later : List ℕ
    later = drop to text ++ more

    built : (part rest : List ℕ) (b : Bool) → is.raw ≡ part ++ rest → starts_with nat_eq (drop at text) soh ≡ b → length part ≡ cond b (length soh) 1 → IsUnit soh part (rest ++ later) byte [] → StandFor soh rest later bytes
        → Passes soh text at more to byte bytes (at + cond (starts_with nat_eq (drop at text) soh) (length soh) 1)
    built part rest b cut test size unit stands =
        let mid : at + cond (starts_with nat_eq (drop at text) soh) (length soh) 1 ≡ at + length part = ap (λ (c : Bool). at + cond c (length soh) 1) test ∙ ap (λ (k : ℕ). at + k) (sym size) in
        let whole : drop at text ≡ part ++ (rest ++ drop to text) = is.cut ∙ ap (λ (t : List ℕ). t ++ drop to text) cut ∙ append_assoc part rest (drop to text) in
        let tail : drop (at + length part) text ≡ rest ++ drop to text = sym (drop-drop (length part) at text) ∙ ap (drop (length part)) whole ∙ drop_at part (rest ++ drop to text) (length part) refl in
        let all = ap length cut ∙ length-append part rest in
        let lines = and_parts (list_all (λ b. not (b == 10)) part) (list_all (λ b. not (b == 10)) rest) (sym (list_all-append (λ b. not (b == 10)) part rest) ∙ subst HasNoLineEnd cut is.one_line) in
        let inside = is.inside in
        let reaches = is.reaches in
        subst (λ (m : ℕ). Passes soh text at more to byte bytes m) (sym mid) (record {
          unit = record {
            raw = part;
            cut = whole ∙ ap (λ (t : List ℕ). part ++ t) (sym tail);
            reaches = refl;
            inside = omega (arith, inside, reaches, all);
            one_line = lines.0;
            stands = ([], subst (λ (t : List ℕ). IsUnit soh part t byte []) (sym (append_assoc rest (drop to text) more) ∙ ap (λ (t : List ℕ). t ++ more) (sym tail)) unit, refl);
          };
          rest = record {
            raw = rest;
            cut = tail;
            reaches = omega (arith, reaches, all);
            inside = is.inside;
            one_line = lines.1;
            stands = stands;
          };
        })

    by-unit : IsUnit soh is.raw later byte is.stands.0 → Passes soh text at more to byte bytes (at + cond (starts_with nat_eq (drop at text) soh) (length soh) 1)
    by-unit (inl unit) =
        let whole : drop at text ≡ soh ++ (is.stands.0 ++ drop to text) = is.cut ∙ ap (λ (t : List ℕ). t ++ drop to text) unit.0 ∙ append_assoc soh is.stands.0 (drop to text) in
        built soh is.stands.0 true unit.0 (starts-so (drop at text) soh (is.stands.0 ++ drop to text) whole) refl (inl (sym (append-nil soh), unit.1)) is.stands.2
    by-unit (inr unit) =
        let joined : drop at text ++ more ≡ is.raw ++ later = ap (λ (t : List ℕ). t ++ more) is.cut ∙ append_assoc is.raw (drop to text) more in
        let none : starts_with nat_eq (drop at text) soh ≡ false = false-from (starts_with nat_eq (drop at text) soh) (λ starts.
        false≢true (sym unit.1 ∙ ap (λ (t : List ℕ). starts_with nat_eq t soh) (sym joined) ∙ starts-longer (drop at text) soh more starts)) in
        built (byte ∷ []) is.stands.0 false unit.0 none refl (inr (refl, ap (λ (t : List ℕ). starts_with nat_eq (t ++ later) soh) (sym unit.0) ∙ unit.1)) is.stands.2

-- what is passed over: the first so many bytes
pub record PassesTo (soh text : List ℕ) (at : ℕ) (more : List ℕ) (to : ℕ) (bytes : List ℕ) (count mid : ℕ) : Type 0 where
  pub before : Undressed soh text at more mid (take count bytes)
  pub rest : Undressed soh text mid more to (drop count bytes)

pub passes-none : (soh text : List ℕ) (at : ℕ) (more : List ℕ) (to : ℕ) (bytes : List ℕ) → Undressed soh text at more to bytes → PassesTo soh text at more to bytes 0 at
passes-none soh text at more to bytes is =
    let reaches = is.reaches in
    let inside = is.inside in
    record { before = undressed-none soh text more at (omega (arith, reaches, inside)); rest = is }

pub passes-more : (soh text : List ℕ) (at : ℕ) (more : List ℕ) (to : ℕ) (bytes : List ℕ) (count mid : ℕ) → count < length bytes → PassesTo soh text at more to bytes count mid
    → PassesTo soh text at more to bytes (count + 1) (mid + cond (starts_with nat_eq (drop mid text) soh) (length soh) 1)
passes-more soh text at more to bytes count mid few is =
    let byte = get_or bytes count 0 in
    let next = mid + cond (starts_with nat_eq (drop mid text) soh) (length soh) 1 in
    let passes = pass-unit soh text mid more to byte (drop (count + 1) bytes) (subst (Undressed soh text mid more to) (drop_more bytes count 0 few) is.rest) in
    record {
      before = subst (Undressed soh text at more next) (sym (take_more bytes count 0 few)) (undressed-on soh text more at mid next (take count bytes) (byte ∷ []) is.before passes.unit);
      rest = passes.rest;
    }

-- a slice up to the end
pub rest-all : (text : List ℕ) (at : ℕ) → take (length text - at) (drop at text) ≡ drop at text
rest-all text at = take_all (length text - at) (drop at text) (omega (arith, length-drop at text))

-- a byte that stands for itself, as the code reads it
pub one-at : (soh text : List ℕ) (ended : Bool) → (length text == 0) ≡ false → (slice_index text 0 == 10) ≡ false → starts_with nat_eq text soh ≡ false → (ended ≡ false → starts_with nat_eq soh text ≡ false) → IsNextUnit soh text ended (slice_index text 0) 1
one-at soh [] ended some other none cut = absurd (cc some)
one-at soh (byte ∷ rest) ended some other none cut = one-next soh rest byte ended other none cut

-- what was undressed goes on
pub undresses-on : (soh text : List ℕ) (place at : ℕ) (ended : Bool) (old new : List ℕ) (to : ℕ) → IsUndressed soh text place ended at old → Undresses soh text at ended old new to → IsUndressed soh text place ended to new
undresses-on soh text place at ended old new to before so = λ more follows.
    subst (Undressed soh text place more to) (sym so.appended) (undressed-on soh text more place at to old so.bytes (before more follows) (so.undressed more follows))

pub has-undressed : (soh text : List ℕ) (at : ℕ) (ended : Bool) (to : ℕ) (bytes : List ℕ) → IsUndressed soh text at ended to bytes → HasUndressed soh text at (length bytes)
has-undressed soh text at ended to bytes is = record { more = []; to = to; bytes = bytes; is = is [] (λ e. refl); enough = omega arith }
