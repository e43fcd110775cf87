-- The verdicts on the symbols of a day, with one more.
use Rattle.std.proofs.Common.{◌≡◌, ◌<◌, inl, inr, ℕ, Bool, false, Some, List, [], ◌∷◌, ◌++◌, Ok, length, length-append, sym, ap, subst, ◌∙◌, arith}
use Rattle.std.specs.Prelude.{slice_get}
use Rattle.std.proofs.lemmas.Bool.{cases_lt}
use Rattle.std.proofs.lemmas.Option.{same_Some, slice_get_within}
use Rattle.audit_base.specs.Moments.{Moment}
use Rattle.audit_base.specs.declared.records.OrderRecord.{OrderRecord}
use Rattle.audit_base.specs.declared.records.TradeRecord.{TradeRecord}
use Rattle.audit_base.specs.declared.terms.Rule.{Rule}
use Rattle.audit_report.specs.declared.verdicts.Verdict.{Verdict}
use Rattle.day_symbols.specs.Kept.{AreForEach}
use Rattle.day_symbols.proofs.PlaceLemmas.{got-left, got-last}
use Rattle.day_records.specs.SymbolDuringTrades.{scope_by}
use Rattle.day_verdicts.specs.declared.judging.JudgedSymbols.{JudgedSymbols}
use Rattle.day_verdicts.specs.declared.symbol_reports.SymbolReport.{SymbolReport}
use Rattle.day_verdicts.specs.DayVerdicts.{IsJudgedDay, TellsVerdict, told_by_verdict, told_of_symbol}
use Rattle.day_verdicts.specs.SymbolAnswers.{AddsTold, told_by}
use Rattle.day_verdicts.specs.VerdictLists.{HasTakenVerdicts, TakesVerdict}
use Rattle.day_verdicts.proofs.CheckLemmas.{told-after, verdict-rejects}
use Rattle.day_verdicts.proofs.GivenRecords.{IsGivenOf}
use Rattle.day_verdicts.proofs.TellLemmas.{tells-more}
use Rattle.further_checks.specs.declared.findings.FurtherChecks.{FurtherChecks}
use Rattle.further_checks.specs.FurtherRules.{asks_further}
use Rattle.further_checks.specs.Laws.{NothingIsFoundUnasked}
use Rattle.record_verdict.specs.declared.before_rule.BeforeRule.{BeforeRule}
use Rattle.record_verdict.specs.declared.verdicts.RecordVerdict.{RecordVerdict}
use Rattle.record_verdict.specs.BeforeRule.{IsBeforeRule}
use Rattle.record_verdict.specs.RecordVerdict.{as_verdict}
use Rattle.record_verdict.specs.RecordVerdicts.{question}
use Rattle.record_verdict.specs.Scopes.{admission_of}
use Rattle.record_verdict.specs.Stages.{IsVerdictAfterStages}

-- one more for a symbol more
pub for-each-more : {X : Type 0} (P : List ℕ → X → Type 0) (symbols : List (List ℕ)) (kept : List X) (symbol : List ℕ) (one : X) → AreForEach P symbols kept → P symbol one → AreForEach P (symbols ++ symbol ∷ []) (kept ++ one ∷ [])
for-each-more {X} P symbols kept symbol one are is = record {
  same_length = omega (arith, length-append symbols (symbol ∷ []), length-append kept (one ∷ []), are.same_length);
  each = each;
}
  where
    each : (i : ℕ) (s : List ℕ) (x : X) → slice_get (symbols ++ symbol ∷ []) i ≡ Some s → slice_get (kept ++ one ∷ []) i ≡ Some x → P s x
    each i s x got-s got-x = elim (cases_lt i (length symbols)) as (λ _. P s x) [
      | inl less ↦
          let less-x : i < length kept = omega (arith, less, are.same_length) in
          are.each i s x (sym (got-left symbols (symbol ∷ []) i less) ∙ got-s) (sym (got-left kept (one ∷ []) i less-x) ∙ got-x)
      | inr le ↦
          let within : i < length (symbols ++ symbol ∷ []) = slice_get_within (symbols ++ symbol ∷ []) i s got-s in
          let last : length symbols ≡ i = omega (arith, le, within, length-append symbols (symbol ∷ [])) in
          let last-x : length kept ≡ i = are.same_length ∙ last in
          let s-is : symbol ≡ s = same_Some symbol s (sym (got-last symbols symbol) ∙ ap (slice_get (symbols ++ symbol ∷ [])) last ∙ got-s) in
          let x-is : one ≡ x = same_Some one x (sym (got-last kept one) ∙ ap (slice_get (kept ++ one ∷ [])) last-x ∙ got-x) in
          subst (λ (z : List ℕ). P z x) s-is (subst (λ (z : X). P symbol z) x-is is)
    ]

module _ (rule : Rule) (entries : List OrderRecord) (trades : List TradeRecord) (symbols : List (List ℕ)) (symbol : List ℕ) (given : BeforeRule) where
  -- the counts and lines of one symbol more
  pub judged-more : NothingIsFoundUnasked → (times : List Moment) (table : Bool) (checks : FurtherChecks) (report : SymbolReport) (old new : JudgedSymbols) → IsGivenOf (admission_of rule) (asks_further checks) symbol given times entries trades
      → TellsVerdict (question rule symbol table) checks given times report → AddsTold old new symbol (told_by report) → IsJudgedDay rule table checks entries trades symbols old → IsJudgedDay rule table checks entries trades (symbols ++ symbol ∷ []) new
  judged-more none times table checks report old new is tells adds before =
      let told = told-after none checks (scope_by (admission_of rule) symbol) entries trades given times (told_by_verdict (as_verdict tells.one)) is.before is.times_are (verdict-rejects (question rule symbol table) given tells.one tells.is) in
      record {
        verdicts = before.verdicts ++ as_verdict tells.one ∷ [];
        verdicts_are = for-each-more _ symbols before.verdicts symbol (as_verdict tells.one) before.verdicts_are (tells.is.of_records entries (Ok trades) is.before);
        tells = tells-more (told_of_symbol checks entries trades) symbols before.verdicts symbol (as_verdict tells.one) (told_by report) old new before.verdicts_are.same_length (tells.told_is ∙ told) adds before.tells;
      }

  -- a list with one verdict more
  pub handed-more : {L : Type 0} (has_taken : L → List (List ℕ) → List Verdict → Type 0) (one : RecordVerdict) (old new : L) → IsBeforeRule (scope_by (admission_of rule) symbol) entries (Ok trades) given → IsVerdictAfterStages (question rule symbol false) given one
      → TakesVerdict (has_taken old) (has_taken new) symbol (as_verdict one) → HasTakenVerdicts has_taken rule entries trades symbols old → HasTakenVerdicts has_taken rule entries trades (symbols ++ symbol ∷ []) new
  handed-more has_taken one old new is stages takes before = record {
    verdicts = before.verdicts ++ as_verdict one ∷ [];
    verdicts_are = for-each-more _ symbols before.verdicts symbol (as_verdict one) before.verdicts_are (stages.of_records entries (Ok trades) is);
    has = takes symbols before.verdicts before.has;
  }
