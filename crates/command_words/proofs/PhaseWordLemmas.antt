-- The parts of a word that gives phases, one after another, and the phases that they give.
use Rattle.std.proofs.Common.{◌≡◌, ◌∙◌, ap, subst, refl, ℕ, zero, suc, ◌+◌, ◌<◌, Bool, true, false, List, [], ◌∷◌, length, Option, None, Some, arith}
use Rattle.std.specs.Prelude.{nat_lt, nat_le, if◌then◌else◌, option_and_then, option_map, All, AllPairs, MatchOption}
use Rattle.std.specs.List.{onto_first, position_or_len}
use Rattle.std.proofs.lemmas.Bool.Decides.{nat_tests}
use Rattle.std.proofs.lemmas.List.Elements.{All-cons}
use Rattle.std.proofs.lemmas.List.Kept.{AllPairs-cons}
use Rattle.std.proofs.lemmas.List.Splits.{length-slice_split, slice_split-cons_no, slice_split_first}
use Rattle.audit_base.specs.Least.{only_if}
use Rattle.session_audit.specs.declared.phases.Phase.{Phase}
use Rattle.session_audit.specs.Phases.{ArePhases}
use Rattle.command_words.specs.PhaseWords.{cut_at, first_follows, is_comma, parts_of, phase_after, phase_named, phases_after, phases_named, phases_within}

none≢some : {A : Type 0} (a : A) → None ≡ Some a → ⊥
none≢some a e = cc

less-behind : (n m : ℕ) → nat_lt (1 + n) (suc m) ≡ false → nat_lt n m ≡ false
less-behind n m e = grind (arith, nat_tests, e)

none-inside : (m : ℕ) → nat_lt 0 (suc m) ≡ false → ⊥
none-inside m e = grind (arith, nat_tests, e)

-- a word without a comma is its only part
only_part : (word : List ℕ) → nat_lt (position_or_len is_comma word) (length word) ≡ false → parts_of word ≡ word ∷ []
only_part [] e = refl
only_part (b ∷ rest) e = by_test (is_comma b) refl (λ f. only_part rest f)
  where
    by_test : (t : Bool) → is_comma b ≡ t → (nat_lt (position_or_len is_comma rest) (length rest) ≡ false → parts_of rest ≡ rest ∷ []) → parts_of (b ∷ rest) ≡ (b ∷ rest) ∷ []
    by_test true is behind = absurd (none-inside (length rest) (rw is at e))
    by_test false is behind = slice_split-cons_no is_comma b rest is ∙ ap (onto_first b) (behind (less-behind _ _ (rw is at e)))

-- a word is cut after its first part, at its first comma
pub cut_parts : (word : List ℕ) (cut : Option (List ℕ × List ℕ)) → cut ≡ cut_at is_comma word → MatchOption cut (parts_of word ≡ word ∷ []) (λ c. parts_of word ≡ c.0 ∷ parts_of c.1)
cut_parts word cut e = by_test (nat_lt (position_or_len is_comma word) (length word)) refl
  where
    by_test : (t : Bool) → nat_lt (position_or_len is_comma word) (length word) ≡ t → MatchOption cut (parts_of word ≡ word ∷ []) (λ c. parts_of word ≡ c.0 ∷ parts_of c.1)
    by_test true is = rw (e, is) (slice_split_first is_comma word 0 (grind (arith, is)))
    by_test false is = rw (e, is) (only_part word is)

-- Phases whose places rise, from above one on.
pub record Rise (before : ℕ) (phases : List Phase) : Type 0 where
  pub above : All (λ p. before < p.first) phases
  pub rising : AllPairs (λ p q. p.first < q.first) phases

-- what follows a place is above it
follows-above : (before first : ℕ) → first_follows before first ≡ true → before < first
follows-above zero first e = grind (arith, e)
follows-above (suc n) first e = grind (arith, e)

no-phases : (before : ℕ) → Rise before []
no-phases before = record { above = λ k d inside. absurd (omega arith); rising = λ i j d less inside. absurd (omega arith) }

some-same : {A : Type 0} (a b : A) → Some a ≡ Some b → a ≡ b
some-same a b e = cc

-- a phase that is kept follows
kept-follows : (before : ℕ) (named : Option Phase) (phase : Phase) → option_and_then (λ p. only_if (first_follows before p.first) p) named ≡ Some phase → first_follows before phase.first ≡ true
kept-follows before None phase e = absurd (none≢some phase e)
kept-follows before (Some p) phase e = by_test (first_follows before p.first) refl e
  where
    by_test : (t : Bool) → first_follows before p.first ≡ t → only_if t p ≡ Some phase → first_follows before phase.first ≡ true
    by_test true is e = subst (λ (q : Phase). first_follows before q.first ≡ true) (some-same p phase e) is
    by_test false is e = absurd (none≢some phase e)

-- Phases that parts give: the first part gives the first phase, and the others the rest.
pub record Leads (before : ℕ) (part : List ℕ) (parts : List (List ℕ)) (phases : List Phase) : Type 0 where
  pub phase : Phase
  pub rest : List Phase
  pub are : phase ∷ rest ≡ phases
  pub follows_is : first_follows before phase.first ≡ true
  pub rest_is : phases_after phase.first parts ≡ Some rest

leads : (before : ℕ) (part : List ℕ) (parts : List (List ℕ)) (phases : List Phase) → phases_after before (part ∷ parts) ≡ Some phases → Leads before part parts phases
leads before part parts phases e = by_phase (phase_after before part) refl e
  where
    by_rest : (phase : Phase) → phase_after before part ≡ Some phase → (o : Option (List Phase)) → phases_after phase.first parts ≡ o → option_map (λ rest. phase ∷ rest) o ≡ Some phases
        → Leads before part parts phases
    by_rest phase f None g e = absurd (none≢some phases e)
    by_rest phase f (Some rest) g e = record {
      phase = phase;
      rest = rest;
      are = some-same (phase ∷ rest) phases e;
      follows_is = kept-follows before (phase_named part) phase f;
      rest_is = g;
    }

    by_phase : (o : Option Phase) → phase_after before part ≡ o → option_and_then (λ phase. option_map (λ rest. phase ∷ rest) (phases_after phase.first parts)) o ≡ Some phases
        → Leads before part parts phases
    by_phase None f e = absurd (none≢some phases e)
    by_phase (Some phase) f e = by_rest phase f (phases_after phase.first parts) refl e

-- the phases of parts rise
rises : (parts : List (List ℕ)) (before : ℕ) (phases : List Phase) → phases_after before parts ≡ Some phases → Rise before phases
rises [] before phases e = subst (Rise before) (some-same [] phases e) (no-phases before)
rises (part ∷ parts) before phases e =
    let l = leads before part parts phases e in
    let behind : Rise l.phase.first l.rest = rises parts l.phase.first l.rest l.rest_is in
    let first : before < l.phase.first = follows-above before l.phase.first l.follows_is in
    subst (Rise before) l.are
    (record {
      above = All-cons (λ p. before < p.first) l.phase l.rest first (λ k d inside. let next = behind.above k d inside in omega arith);
      rising = AllPairs-cons (λ p q. p.first < q.first) l.phase l.rest behind.above behind.rising;
    })

-- a word has a part
some_parts : (word : List ℕ) → 0 < length (parts_of word)
some_parts word = rw (length-slice_split is_comma word) (omega arith)

-- the phases of parts, of which there are some, are those of a day
are_day : (parts : List (List ℕ)) (phases : List Phase) → 0 < length parts → phases_after 0 parts ≡ Some phases → ArePhases phases
are_day [] phases some e = absurd (omega arith)
are_day (part ∷ parts) phases some e =
    let l = leads 0 part parts phases e in
    let one : l.phase.first ≡ 1 = grind (arith, l.follows_is) in
    let rise = rises (part ∷ parts) 0 phases e in
    record {
      some = rw (← l.are) (omega arith);
      from_one = rw (← l.are) one;
      rising = rise.rising;
    }

-- the phases that a word gives are those of a day
pub day_phases : (word : List ℕ) (phases : List Phase) → phases_named word ≡ Some phases → ArePhases phases
day_phases word phases e = by_test (nat_le (length (parts_of word)) 64) e
  where
    by_test : (t : Bool) → (if t then phases_after 0 (parts_of word) else None) ≡ Some phases → ArePhases phases
    by_test true e = are_day (parts_of word) phases (some_parts word) e
    by_test false e = absurd (none≢some phases e)

-- where no phase is allowed there are none, since a word has a part
pub no-room : (most before : ℕ) (word : List ℕ) → most ≡ 0 → None ≡ phases_within most before (parts_of word)
no-room most before word none = by_test (nat_le (length (parts_of word)) most) refl
  where
    by_test : (t : Bool) → nat_le (length (parts_of word)) most ≡ t → None ≡ phases_within most before (parts_of word)
    by_test true is = let some = some_parts word in absurd (grind (arith, nat_tests, is, none, some))
    by_test false is = rw is refl
