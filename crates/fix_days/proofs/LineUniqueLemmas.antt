-- A day on lines has one reading.
use Rattle.std.proofs.Common.{◌≡◌, ℕ, ◌+◌, ◌<◌, Bool, true, not, ◌==◌, Option, Some, None, List, [], ◌∷◌, ◌++◌, length, drop, refl, sym, subst, ap, ◌∙◌, inl, inr, append_assoc, arith}
use Rattle.std.specs.List.{list_all}
use Rattle.std.proofs.lemmas.Bool.{and_parts, cases_lt, false≢true}
use Rattle.std.proofs.lemmas.List.{append-nil, drop_at, length-append, nil_from_length}
use Rattle.std.proofs.lemmas.List.Folds.{list_all-append}
use Rattle.fix_framing.specs.Headers.{any_version}
use Rattle.fix_framing.specs.Frames.{frame_fault_with}
use Rattle.fix_framing.specs.declared.frames.FrameFault.{FrameFault}
use Rattle.fix_framing.proofs.PrefixLemmas.{starts-so}
use Rattle.fix_framing.proofs.MessageLemmas.{IsFrameWith-no_fault}
use Rattle.fix_framing.proofs.UniqueLemmas.{frames-unique}
use Rattle.fix_days.specs.declared.faults.BadMessage.{BadMessage}
use Rattle.fix_days.specs.Lines.{BeginsWithFault, BeginsWithMessage, ends_line, FirstBeginning, HasBodiesOnLines, HasNoBeginningBelow, HasNoLineEnd, IsBadOnLines, IsLeftAfter, IsLineReading, IsUnit, StandFor}
use Rattle.fix_days.proofs.TextLemmas.{any-headers}
use Rattle.fix_days.proofs.SearchLemmas.{beginning-six}

abbrev no-line : List ℕ → Bool
no-line text = list_all (λ byte. not (byte == 10)) text

-- the first units of one text are the same
pub record SameUnit (x y : ℕ) (left its : List ℕ) : Type 0 where
  pub byte : x ≡ y
  pub rest : left ≡ its

pub same-unit : (soh raw more other its : List ℕ) (x y : ℕ) (rest left : List ℕ) → raw ++ more ≡ other ++ its → IsUnit soh raw more x rest → IsUnit soh other its y left → SameUnit x y (rest ++ more) (left ++ its)
same-unit soh raw more other its x y rest left whole (inl is) (inl it) =
    let here : raw ++ more ≡ soh ++ (rest ++ more) = ap (λ (t : List ℕ). t ++ more) is.0 ∙ append_assoc soh rest more in
    let there : other ++ its ≡ soh ++ (left ++ its) = ap (λ (t : List ℕ). t ++ its) it.0 ∙ append_assoc soh left its in
    record {
      byte = is.1 ∙ sym it.1;
      rest = sym (drop_at soh (rest ++ more) (length soh) refl) ∙ ap (drop (length soh)) (sym here ∙ whole ∙ there) ∙ drop_at soh (left ++ its) (length soh) refl;
    }
same-unit soh raw more other its x y rest left whole (inl is) (inr it) =
    absurd (false≢true (sym it.1 ∙ starts-so (other ++ its) soh (rest ++ more) (sym whole ∙ ap (λ (t : List ℕ). t ++ more) is.0 ∙ append_assoc soh rest more)))
same-unit soh raw more other its x y rest left whole (inr is) (inl it) =
    absurd (false≢true (sym is.1 ∙ starts-so (raw ++ more) soh (left ++ its) (whole ∙ ap (λ (t : List ℕ). t ++ its) it.0 ∙ append_assoc soh left its)))
same-unit soh raw more other its x y rest left whole (inr is) (inr it) =
    let both : x ∷ (rest ++ more) ≡ y ∷ (left ++ its) = sym (ap (λ (t : List ℕ). t ++ more) is.0) ∙ whole ∙ ap (λ (t : List ℕ). t ++ its) it.0 in
    record { byte = cc both; rest = cc both }

-- of what two fronts of a text stand for, one goes on as the other
pub record JoinedBodies (xs ys : List ℕ) : Type 0 where
  pub after : List ℕ
  pub later : List ℕ
  pub same : xs ++ after ≡ ys ++ later

pub stands-joined : (soh xs ys raw more other its : List ℕ) → raw ++ more ≡ other ++ its → StandFor soh raw more xs → StandFor soh other its ys → JoinedBodies xs ys
stands-joined soh [] ys raw more other its whole is it = record { after = ys; later = []; same = sym (append-nil ys) }
stands-joined soh (x ∷ xs) [] raw more other its whole is it = record { after = []; later = x ∷ xs; same = append-nil (x ∷ xs) }
stands-joined soh (x ∷ xs) (y ∷ ys) raw more other its whole is it =
    let unit = same-unit soh raw more other its x y is.0 it.0 whole is.1 it.1 in
    let rest = stands-joined soh xs ys is.0 more it.0 its unit.rest is.2 it.2 in
    record { after = rest.after; later = rest.later; same = ap (λ (b : ℕ). b ∷ (xs ++ rest.after)) unit.byte ∙ ap (λ (t : List ℕ). y ∷ t) rest.same }

-- what is after the same bytes is the same
pub stands-rest : (soh xs raw more other its : List ℕ) → raw ++ more ≡ other ++ its → StandFor soh raw more xs → StandFor soh other its xs → more ≡ its
stands-rest soh [] raw more other its whole is it = sym (ap (λ (t : List ℕ). t ++ more) is) ∙ whole ∙ ap (λ (t : List ℕ). t ++ its) it
stands-rest soh (x ∷ xs) raw more other its whole is it =
    let unit = same-unit soh raw more other its x x is.0 it.0 whole is.1 it.1 in stands-rest soh xs is.0 more it.0 its unit.rest is.2 it.2

-- what is left of a text without LF has none
unit-line : (soh raw more : List ℕ) (byte : ℕ) (rest : List ℕ) → HasNoLineEnd raw → IsUnit soh raw more byte rest → HasNoLineEnd rest
unit-line soh raw more byte rest one (inl is) = (and_parts (no-line soh) (no-line rest) (sym (list_all-append (λ b. not (b == 10)) soh rest) ∙ subst HasNoLineEnd is.0 one)).1
unit-line soh raw more byte rest one (inr is) = (and_parts (not (byte == 10)) (no-line rest) (subst HasNoLineEnd is.0 one)).1

-- what begins with a byte that is no LF does not end a line
not-ended : (later raw rest : List ℕ) → ends_line later ≡ true → later ≡ raw ++ rest → HasNoLineEnd raw → 0 < length raw → ⊥
not-ended later [] rest ends whole one some = omega (arith, some)
not-ended [] (byte ∷ raw) rest ends whole one some = cc whole
not-ended (first ∷ later) (byte ∷ raw) rest ends whole one some =
    let same : first ≡ byte = cc whole in
    let other = (and_parts (not (byte == 10)) (no-line raw) one).0 in
    false≢true (sym (ap not ends) ∙ ap (λ (b : ℕ). not (b == 10)) same ∙ other)

unit-some : (soh raw more : List ℕ) (byte : ℕ) (rest : List ℕ) → 0 < length soh → IsUnit soh raw more byte rest → 0 < length raw
unit-some soh raw more byte rest some (inl is) = let size = ap length is.0 ∙ length-append soh rest in omega (arith, size, some)
unit-some soh raw more byte rest some (inr is) = let size = ap length is.0 in omega (arith, size)

-- what is on the first line is a front of what the line stands for
pub line-front : (soh bytes frame line later raw rest : List ℕ) → 0 < length soh → line ++ later ≡ raw ++ rest → ends_line later ≡ true → HasNoLineEnd raw → StandFor soh line later bytes → StandFor soh raw rest frame → (more : List ℕ) × (bytes ≡ frame ++ more)
line-front soh bytes [] line later raw rest some whole ends one is it = (bytes, refl)
line-front soh [] (y ∷ ys) line later raw rest some whole ends one is it =
    absurd (not-ended later raw rest ends (sym (ap (λ (t : List ℕ). t ++ later) is) ∙ whole) one (unit-some soh raw rest y it.0 some it.1))
line-front soh (x ∷ xs) (y ∷ ys) line later raw rest some whole ends one is it =
    let unit = same-unit soh line later raw rest x y is.0 it.0 whole is.1 it.1 in
    let more = line-front soh xs ys is.0 later it.0 rest some unit.rest ends (unit-line soh raw rest y it.0 one it.1) is.2 it.2 in
    (more.0, ap (λ (b : ℕ). b ∷ xs) unit.byte ∙ ap (λ (t : List ℕ). y ∷ t) more.1)

module _ (soh : List ℕ) (some : 0 < length soh) where
  -- one message begins a text
  pub record SameMessage (body other rest left : List ℕ) : Type 0 where
    pub bodies : body ≡ other
    pub rests : rest ≡ left

  pub same-message : (text body other rest left : List ℕ) → BeginsWithMessage soh text body rest → BeginsWithMessage soh text other left → SameMessage body other rest left
  same-message text body other rest left is it =
      let whole = sym is.cut ∙ it.cut in
      let joined = stands-joined soh is.frame it.frame is.raw rest it.raw left whole is.stands it.stands in
      let same = frames-unique any_version is.frame it.frame body other joined.after joined.later any-headers is.message it.message joined.same in
      record { bodies = same.1; rests = stands-rest soh is.frame is.raw rest it.raw left whole is.stands (subst (StandFor soh it.raw left) (sym same.0) it.stands) }

  -- a message is no fault
  pub no-fault : (text body rest : List ℕ) (fault : FrameFault) → BeginsWithMessage soh text body rest → BeginsWithFault soh text fault → ⊥
  no-fault text body rest fault is it =
      let front = line-front soh it.bytes is.frame it.line it.later is.raw rest some (sym it.cut ∙ is.cut) it.ends is.one_line it.stands is.stands in
      cc (sym (IsFrameWith-no_fault any_version is.frame body front.0 any-headers is.message) ∙ ap (frame_fault_with any_version) (sym front.1) ∙ it.fails)

  -- one fault begins a text
  pub same-fault : (text : List ℕ) (fault other : FrameFault) → BeginsWithFault soh text fault → BeginsWithFault soh text other → fault ≡ other
  same-fault text fault other is it =
      let front = line-front soh it.bytes is.bytes it.line it.later is.line is.later some (sym it.cut ∙ is.cut) it.ends is.one_line it.stands is.stands in
      let back = line-front soh is.bytes it.bytes is.line is.later it.line it.later some (sym is.cut ∙ it.cut) is.ends it.one_line is.stands it.stands in
      let none : front.0 ≡ [] = nil_from_length front.0 (omega (arith, ap length front.1, length-append is.bytes front.0, ap length back.1, length-append it.bytes back.0)) in
      let bytes : it.bytes ≡ is.bytes = front.1 ∙ ap (λ (t : List ℕ). is.bytes ++ t) none ∙ append-nil is.bytes in
      let fails : Some fault ≡ Some other = sym is.fails ∙ ap (frame_fault_with any_version) (sym bytes) ∙ it.fails in
      cc fails

  -- a text has one first beginning
  pub same-first : (text before from other its : List ℕ) → FirstBeginning text before from → FirstBeginning text other its → from ≡ its
  same-first text before from other its is it = elim (cases_lt (length before) (length other)) [
    | inl few ↦ absurd (false≢true (sym (it.first (length before) few) ∙ is.is))
    | inr many ↦ elim (cases_lt (length other) (length before)) [
      | inl less ↦ absurd (false≢true (sym (is.first (length other) less) ∙ it.is))
      | inr more ↦
          let size : length before ≡ length other = omega (arith, many, more) in
          sym (drop_at before from (length before) refl) ∙ ap (drop (length before)) (sym is.cut ∙ it.cut) ∙ ap (λ (k : ℕ). drop k (other ++ its)) size ∙ drop_at other its (length other) refl
    ]
  ]

  -- no message is at the first beginning of what is left
  abbrev pub IsStuck : List ℕ → Type 0
  IsStuck left = (before from body rest : List ℕ) → FirstBeginning left before from → BeginsWithMessage soh from body rest → ⊥

  pub none-stuck : (left : List ℕ) → HasNoBeginningBelow left (length left) → IsStuck left
  none-stuck left none before from body rest first message =
      let six = beginning-six left (length before) first.is in false≢true (sym (none (length before) (omega (arith, six))) ∙ first.is)

  pub fault-stuck : (left before from : List ℕ) (fault : FrameFault) → FirstBeginning left before from → BeginsWithFault soh from fault → IsStuck left
  fault-stuck left before from fault first fails other its body rest it message =
      no-fault from body rest fault (subst (λ (t : List ℕ). BeginsWithMessage soh t body rest) (sym (same-first left before from other its first it)) message) fails

  record SameLeft (bodies others : List (List ℕ)) (left its : List ℕ) : Type 0 where
    same_bodies : bodies ≡ others
    same_left : left ≡ its

  same-left : (day : List ℕ) (bodies others : List (List ℕ)) (left its : List ℕ) → IsLeftAfter soh day bodies left → IsLeftAfter soh day others its → IsStuck left → IsStuck its → SameLeft bodies others left its
  same-left day [] [] left its is it stuck stays = record { same_bodies = refl; same_left = is ∙ sym it }
  same-left day [] (other ∷ others) left its is it stuck stays =
      absurd (stuck it.0 it.1 other it.2 (subst (λ (t : List ℕ). FirstBeginning t it.0 it.1) (sym is) it.3) it.4)
  same-left day (body ∷ bodies) [] left its is it stuck stays =
      absurd (stays is.0 is.1 body is.2 (subst (λ (t : List ℕ). FirstBeginning t is.0 is.1) (sym it) is.3) is.4)
  same-left day (body ∷ bodies) (other ∷ others) left its is it stuck stays =
      let from = same-first day is.0 is.1 it.0 it.1 is.3 it.3 in
      let message = same-message is.1 body other is.2 it.2 is.4 (subst (λ (t : List ℕ). BeginsWithMessage soh t other it.2) (sym from) it.4) in
      let rest = same-left is.2 bodies others left its is.5 (subst (λ (t : List ℕ). IsLeftAfter soh t others its) (sym message.rests) it.5) stuck stays in
      record { same_bodies = ap (λ (b : List ℕ). b ∷ bodies) message.bodies ∙ ap (λ (bs : List (List ℕ)). other ∷ bs) rest.same_bodies; same_left = rest.same_left }

  module _ (day : List ℕ) where
    good-good : (bodies others : List (List ℕ)) → HasBodiesOnLines soh day bodies → HasBodiesOnLines soh day others → bodies ≡ others
    good-good bodies others is it =
        (same-left day bodies others is.left it.left is.messages it.messages (none-stuck is.left is.none) (none-stuck it.left it.none)).same_bodies

    bad-stuck : (bodies : List (List ℕ)) (bad : BadMessage) (is : IsBadOnLines soh day bodies bad) → IsStuck is.left
    bad-stuck bodies bad is = fault-stuck is.left is.before is.from bad.fault is.begins is.fails

    good-bad : (bodies others : List (List ℕ)) (bad : BadMessage) → HasBodiesOnLines soh day bodies → IsBadOnLines soh day others bad → ⊥
    good-bad bodies others bad is it =
        let same = same-left day bodies others is.left it.left is.messages it.messages (none-stuck is.left is.none) (bad-stuck others bad it) in
        let none = subst (λ (t : List ℕ). HasNoBeginningBelow t (length t)) same.same_left is.none in
        let six = beginning-six it.left (length it.before) it.begins.is in
        false≢true (sym (none (length it.before) (omega (arith, six))) ∙ it.begins.is)

    bad-bad : (bodies others : List (List ℕ)) (bad other : BadMessage) → IsBadOnLines soh day bodies bad → IsBadOnLines soh day others other → (bodies ≡ others) × (bad ≡ other)
    bad-bad bodies others bad other is it =
        let same = same-left day bodies others is.left it.left is.messages it.messages (bad-stuck bodies bad is) (bad-stuck others other it) in
        let from : is.from ≡ it.from = same-first it.left is.before is.from it.before it.from (subst (λ (t : List ℕ). FirstBeginning t is.before is.from) same.same_left is.begins) it.begins in
        let fault = same-fault it.from bad.fault other.fault (subst (λ (t : List ℕ). BeginsWithFault soh t bad.fault) from is.fails) it.fails in
        let place : bad.place ≡ other.place = is.place ∙ ap (λ (b : List (List ℕ)). length b + 1) same.same_bodies ∙ sym it.place in
        let offset : bad.offset ≡ other.offset = omega (arith, is.offset, it.offset, ap length from) in
        (same.same_bodies, same-fields bad other place offset fault)
      where
        same-fields : (bad other : BadMessage) → bad.place ≡ other.place → bad.offset ≡ other.offset → bad.fault ≡ other.fault → bad ≡ other
        same-fields bad other place offset fault =
            ap (λ (p : ℕ). record { place = p; offset = bad.offset; fault = bad.fault }) place ∙ ap (λ (o : ℕ). record { place = other.place; offset = o; fault = bad.fault }) offset
            ∙ ap (λ (f : FrameFault). record { place = other.place; offset = other.offset; fault = f }) fault

    pub one-line-reading : (bodies others : List (List ℕ)) (bad other : Option BadMessage) → IsLineReading soh day bodies bad → IsLineReading soh day others other → (bodies ≡ others) × (bad ≡ other)
    one-line-reading bodies others None None is it = (good-good bodies others is it, refl)
    one-line-reading bodies others None (Some bad) is it = absurd (good-bad bodies others bad is it)
    one-line-reading bodies others (Some bad) None is it = absurd (good-bad others bodies bad it is)
    one-line-reading bodies others (Some bad) (Some other) is it =
        let same = bad-bad bodies others bad other is it in (same.0, ap Some same.1)
