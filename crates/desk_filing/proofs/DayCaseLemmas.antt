-- The cases of a day, with one symbol more.
use Rattle.std.proofs.Common.{◌≡◌, ◌∙◌, sym, ap, subst, refl, ℕ, ◌≤◌, Bool, true, false, cond, List, [], ◌∷◌, ◌++◌, length, length-append, Option, None, Some, arith}
use Rattle.std.specs.Prelude.{◌&&◌, IsTrue, is_some, nat_le, nat_lt}
use Rattle.std.specs.List.{list_all}
use Rattle.std.specs.Option.{option_or}
use Rattle.std.proofs.lemmas.Bool.Decides.{nat_tests}
use Rattle.std.proofs.lemmas.List.Folds.{find-append, list_all-append}
use Rattle.std.proofs.lemmas.Option.{same_Some}
use Rattle.audit_base.specs.Names.{is_name, is_name_byte, name_form}
use Rattle.audit_base.specs.declared.terms.Rule.{Rule}
use Rattle.audit_report.specs.declared.verdicts.Verdict.{Verdict}
use Rattle.day_symbols.specs.Shares.{symbols_in, whole_day}
use Rattle.day_symbols.specs.Symbols.{symbols_of_day}
use Rattle.day_records.specs.declared.day_trades.DayRecords.{DayRecords}
use Rattle.day_verdicts.specs.VerdictLists.{HasTakenShare, TakesVerdict}
use Rattle.log_digests.specs.declared.digests.LogDigests.{LogDigests}
use Rattle.digest_keeper.specs.declared.digested.DigestedCase.{DigestedCase}
use Rattle.desk_filing.specs.Days.{HasDayTaken, IsDayOf, IsJudgedAs, JudgesDay, KeepsCase, StaysOfDay, label_if_short}
use Rattle.desk_filing.specs.Turns.{cases_of_day, digested_case, first_long, label_of_symbol}
use Rattle.desk_filing.specs.declared.answers.FilingOutcome.{FilingOutcome}
use Rattle.desk_filing.specs.declared.days.DayCases.{DayCases}

-- each byte of a name is one that a name may hold
name_held : (a b c : Bool) → (a && b && c) ≡ true → c ≡ true
name_held true true c e = e
name_held true false c e = absurd (cc)
name_held false b c e = absurd (cc)

-- where all bytes are those of a name, only the size is tested
by_tests : (n : ℕ) (text : List ℕ) → 1 ≤ n → cond (nat_le 1 n && nat_le n 64 && true) (Some text) None ≡ cond (nat_lt 64 n) None (Some text)
by_tests n text some = grind (arith, nat_tests)

by_size : (n : ℕ) (text : List ℕ) (all : Bool) → 1 ≤ n → all ≡ true → cond (nat_le 1 n && nat_le n 64 && all) (Some text) None ≡ cond (nat_lt 64 n) None (Some text)
by_size n text all some is = ap (λ (b : Bool). cond (nat_le 1 n && nat_le n 64 && b) (Some text) None) is ∙ by_tests n text some

-- a label that is not too long is a name
pub short_label : (label symbol text : List ℕ) → IsTrue (is_name label) → IsTrue (is_name symbol) → text ≡ label_of_symbol label symbol → name_form text ≡ label_if_short label symbol
short_label label symbol text named signed is =
    ap name_form is
    ∙ by_size (length (label_of_symbol label symbol)) (label_of_symbol label symbol) (list_all is_name_byte (label_of_symbol label symbol))
    (omega (arith, length-append label (47 ∷ symbol)))
    (list_all-append is_name_byte label (47 ∷ symbol)
    ∙ ap (λ (b : Bool). b && list_all is_name_byte (47 ∷ symbol)) (name_held (nat_le 1 (length label)) (nat_le (length label) 64) (list_all is_name_byte label) named)
    ∙ name_held (nat_le 1 (length symbol)) (nat_le (length symbol) 64) (list_all is_name_byte symbol) signed)

-- one symbol more comes last
cases_more : (label : List ℕ) (the_rule : Rule) (digests : LogDigests) (symbols : List (List ℕ)) (verdicts : List Verdict) (symbol : List ℕ) (v : Verdict) → length verdicts ≡ length symbols
    → cases_of_day label the_rule digests (symbols ++ symbol ∷ []) (verdicts ++ v ∷ []) ≡ cases_of_day label the_rule digests symbols verdicts ++ digested_case (label_of_symbol label symbol) the_rule digests symbol v ∷ []
cases_more label the_rule digests [] [] symbol v same = refl
cases_more label the_rule digests [] (w ∷ ws) symbol v same = absurd (omega (arith, same))
cases_more label the_rule digests (s ∷ ss) [] symbol v same = absurd (omega (arith, same))
cases_more label the_rule digests (s ∷ ss) (w ∷ ws) symbol v same =
    let rest : length ws ≡ length ss = omega (arith, same) in
    ap (λ (cases : List DigestedCase). digested_case (label_of_symbol label s) the_rule digests s w ∷ cases) (cases_more label the_rule digests ss ws symbol v rest)

short_not : (b : Bool) (text made : List ℕ) → Some made ≡ cond b None (Some text) → b ≡ false
short_not true text made e = absurd (cc)
short_not false text made e = refl

short_is : (b : Bool) (text made : List ℕ) → Some made ≡ cond b None (Some text) → made ≡ text
short_is true text made e = absurd (cc)
short_is false text made e = same_Some made text e

long_is_so : (b : Bool) (text : List ℕ) → None ≡ cond b None (Some text) → b ≡ true
long_is_so true text e = refl
long_is_so false text e = absurd (cc)

no_symbol : (long : Option (List ℕ)) (symbol : List ℕ) → long ≡ Some symbol → long ≡ None → ⊥
no_symbol long symbol some none = cc

module _ (label : List ℕ) (the_rule : Rule) (digests : LogDigests) (old : DayCases) (symbols : List (List ℕ)) (verdicts : List Verdict) (symbol : List ℕ) (v : Verdict) (so : IsDayOf label the_rule digests old symbols verdicts) where
  abbrev is_long : List ℕ → Bool
  is_long s = nat_lt 64 (length (label_of_symbol label s))

  same_lengths : length (verdicts ++ v ∷ []) ≡ length (symbols ++ symbol ∷ [])
  same_lengths = omega (arith, length-append verdicts (v ∷ []), length-append symbols (symbol ∷ []), so.same_length)

  -- the first long label with one symbol more
  long_now : (before : Option (List ℕ)) → old.long ≡ before → first_long label (symbols ++ symbol ∷ []) ≡ option_or before (cond (is_long symbol) (Some symbol) None)
  long_now before is =
      find-append is_long symbols (symbol ∷ []) ∙ ap (λ (o : Option (List ℕ)). option_or o (cond (is_long symbol) (Some symbol) None)) (sym so.long_is ∙ is)

  -- a label was too long already
  pub stays_long : (long : List ℕ) → old.long ≡ Some long → IsDayOf label the_rule digests old (symbols ++ symbol ∷ []) (verdicts ++ v ∷ [])
  stays_long long is = record {
    label_is = so.label_is;
    rule_is = so.rule_is;
    digests_are = so.digests_are;
    same_length = same_lengths;
    long_is = is ∙ sym (long_now (Some long) is);
    cases_are = λ none. absurd (no_symbol old.long long is none);
  }

  module _ (new : DayCases) (stays : StaysOfDay old new) (none : old.long ≡ None) where
    -- this one is
    pub gets_long : new.long ≡ Some symbol → None ≡ label_if_short label symbol → IsDayOf label the_rule digests new (symbols ++ symbol ∷ []) (verdicts ++ v ∷ [])
    gets_long is long = record {
      label_is = stays.label_stays ∙ so.label_is;
      rule_is = stays.rule_stays ∙ so.rule_is;
      digests_are = stays.digests_stay ∙ so.digests_are;
      same_length = same_lengths;
      long_is = is ∙ sym (long_now None none ∙ ap (λ (b : Bool). cond b (Some symbol) None) (long_is_so (is_long symbol) (label_of_symbol label symbol) long));
      cases_are = λ gone. absurd (no_symbol new.long symbol is gone);
    }

    -- none is
    pub gets_case : (made : List ℕ) → Some made ≡ label_if_short label symbol → new.long ≡ None → new.cases.items ≡ old.cases.items ++ digested_case made the_rule digests symbol v ∷ [] → IsDayOf label the_rule digests new (symbols ++ symbol ∷ []) (verdicts ++ v ∷ [])
    gets_case made short still more = record {
      label_is = stays.label_stays ∙ so.label_is;
      rule_is = stays.rule_stays ∙ so.rule_is;
      digests_are = stays.digests_stay ∙ so.digests_are;
      same_length = same_lengths;
      long_is = still ∙ sym (long_now None none ∙ ap (λ (b : Bool). cond b (Some symbol) None) (short_not (is_long symbol) (label_of_symbol label symbol) made short));
      cases_are = λ gone.
          more
          ∙ ap (λ (cases : List DigestedCase). cases ++ digested_case made the_rule digests symbol v ∷ []) (so.cases_are none)
          ∙ ap (λ (l : List ℕ). cases_of_day label the_rule digests symbols verdicts ++ digested_case l the_rule digests symbol v ∷ []) (short_is (is_long symbol) (label_of_symbol label symbol) made short)
          ∙ sym (cases_more label the_rule digests symbols verdicts symbol v so.same_length);
    }

-- the case of a symbol was kept, or that its label is too long
kept_so : (first old new : DayCases) (made : Option (List ℕ)) (symbol : List ℕ) (v : Verdict) → old.long ≡ None → made ≡ label_if_short old.label symbol → KeepsCase old new made symbol v
    → (symbols : List (List ℕ)) (verdicts : List Verdict) → IsDayOf first.label first.rule first.digests old symbols verdicts → IsDayOf first.label first.rule first.digests new (symbols ++ symbol ∷ []) (verdicts ++ v ∷ [])
kept_so first old new (Some made) symbol v none short keeps symbols verdicts so =
    gets_case first.label first.rule first.digests old symbols verdicts symbol v so new keeps.0 none made (subst (λ (l : List ℕ). Some made ≡ label_if_short l symbol) so.label_is short) keeps.1
    (keeps.2
    ∙ ap (λ (d : LogDigests). old.cases.items ++ digested_case made old.rule d symbol v ∷ []) so.digests_are
    ∙ ap (λ (r : Rule). old.cases.items ++ digested_case made r first.digests symbol v ∷ []) so.rule_is)
kept_so first old new None symbol v none long keeps symbols verdicts so =
    gets_long first.label first.rule first.digests old symbols verdicts symbol v so new keeps.0 none keeps.1 (subst (λ (l : List ℕ). None ≡ label_if_short l symbol) so.label_is long)

none_there : (long : Option (List ℕ)) → is_some long ≡ false → long ≡ None
none_there None is = refl
none_there (Some symbol) is = absurd (cc)

pub day_takes : (old new : DayCases) (made : Option (List ℕ)) (symbol : List ℕ) (v : Verdict) → is_some old.long ≡ false → made ≡ label_if_short old.label symbol → KeepsCase old new made symbol v
    → (first : DayCases) → TakesVerdict (HasDayTaken first old) (HasDayTaken first new) symbol v
day_takes old new made symbol v none is keeps first = λ symbols verdicts so. kept_so first old new made symbol v (none_there old.long none) is keeps symbols verdicts so

-- a label was too long already, and nothing is kept
passed_so : (long : Option (List ℕ)) (old : DayCases) → old.long ≡ long → is_some long ≡ true → (symbol : List ℕ) (v : Verdict) (first : DayCases) → TakesVerdict (HasDayTaken first old) (HasDayTaken first old) symbol v
passed_so None old is some symbol v first = absurd (cc)
passed_so (Some long) old is some symbol v first = λ symbols verdicts so. stays_long first.label first.rule first.digests old symbols verdicts symbol v so long is

pub day_passes : (old : DayCases) → is_some old.long ≡ true → (symbol : List ℕ) (v : Verdict) (first : DayCases) → TakesVerdict (HasDayTaken first old) (HasDayTaken first old) symbol v
day_passes old some symbol v first = passed_so old.long old refl some symbol v first

-- a day of no symbols was handed nothing
pub day_begins : (label : List ℕ) (the_rule : Rule) (digests : LogDigests) (day : DayCases) → IsDayOf label the_rule digests day [] [] → HasDayTaken day day [] []
day_begins label the_rule digests day is = record {
  label_is = refl;
  rule_is = refl;
  digests_are = refl;
  same_length = refl;
  long_is = is.long_is;
  cases_are = is.cases_are;
}

-- what the cases of all symbols come to is what the day comes to
pub day_judges : (label : List ℕ) (the_rule : Rule) (digests : LogDigests) (ended : DayRecords) (first day : DayCases) → IsDayOf label the_rule digests first [] [] → HasTakenShare (HasDayTaken first) the_rule whole_day ended day
    → (made : FilingOutcome) → IsJudgedAs day made → JudgesDay label the_rule digests ended made
day_judges label the_rule digests ended first day begun taken made is = λ entries trades has.
    let after = taken entries trades has in
    record {
      verdicts = after.verdicts;
      are = after.verdicts_are;
      is = is label the_rule digests (symbols_in whole_day (symbols_of_day entries trades)) after.verdicts
          (subst (λ (l : List ℕ). IsDayOf l the_rule digests day (symbols_in whole_day (symbols_of_day entries trades)) after.verdicts) begun.label_is
          (subst (λ (r : Rule). IsDayOf first.label r digests day (symbols_in whole_day (symbols_of_day entries trades)) after.verdicts) begun.rule_is
          (subst (λ (d : LogDigests). IsDayOf first.label first.rule d day (symbols_in whole_day (symbols_of_day entries trades)) after.verdicts) begun.digests_are after.has)));
    }
