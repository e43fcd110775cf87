-- A day that is judged by phases has one answer.
use Rattle.std.proofs.Common.{◌≡◌, ◌∙◌, refl, sym, ap, ℕ, zero, suc, List, [], ◌∷◌, Bool, Result, Ok, subst, arith}
use Rattle.std.specs.Prelude.{IfOk}
use Rattle.audit_base.specs.declared.records.OrderRecord.{OrderRecord}
use Rattle.audit_base.specs.declared.records.TradeRecord.{TradeRecord}
use Rattle.audit_base.specs.Trades.{TradesInRange}
use Rattle.audit_base.specs.Verdicts.{paired_trades}
use Rattle.day_logs.proofs.LawLemmas.{written-alike}
use Rattle.day_sessions.specs.JudgedSessions.{AreJudgedSessions, AreSessionsOfDay, told_by_sessions}
use Rattle.day_sessions.specs.Laws.{OneSessionAnswer, SharesOfPhasesAreTheDay}
use Rattle.day_sessions.specs.SymbolSessions.{IsSymbolSession, session_told, told_by_session}
use Rattle.day_symbols.specs.Kept.{AreForEach}
use Rattle.day_symbols.specs.Laws.{SharesAreTheDay}
use Rattle.day_symbols.specs.Symbols.{symbols_of_day}
use Rattle.day_verdicts.specs.declared.judging.JudgedSymbols.{JudgedSymbols}
use Rattle.day_verdicts.specs.CheckedSymbols.{after_checks}
use Rattle.day_verdicts.specs.Laws.{SayTheSame as SayTheSameDay}
use Rattle.day_verdicts.proofs.ShareTellingLemmas.{shares-tell}
use Rattle.day_verdicts.specs.SymbolAnswers.{counts_of, day_lines_of, SymbolAnswer}
use Rattle.further_checks.specs.declared.findings.FurtherChecks.{FurtherChecks}
use Rattle.log_verdict.specs.LogVerdicts.{trades_of_trade_log}
use Rattle.log_verdict.specs.Ranges.{TradeLogsAreInRange}
use Rattle.session_audit.specs.declared.phases.Phase.{Phase}
use Rattle.session_audit.specs.declared.verdicts.Session.{Session}
use Rattle.session_audit.specs.VerdictLaws.{SayTheSame, SessionIsOne}

-- what is known of a log's trades, where they are these
known : {A B : Type 0} (given : Result A B) (P : A → Type 0) (have : A) → IfOk given P → given ≡ Ok have → P have
known {A} {B} given P have holds is = subst (λ (r : Result A B). IfOk r P) is holds

-- sessions that say the same tell the same
tell-alike : (x y : Session) → SayTheSame x.conforms x.text.items y.conforms y.text.items → told_by_session x ≡ told_by_session y
tell-alike x y alike = λ i. record { accepted = alike.conforms_same i; text = alike.text_same i }

module _ (phases : List Phase) (table : Bool) (checks : FurtherChecks) (entries : List OrderRecord) (trades : List TradeRecord) (ranges : TradesInRange trades) (one : SessionIsOne) where
  abbrev Each : List ℕ → Session → Type 0
  Each = IsSymbolSession phases table entries trades

  rest : (s : List ℕ) (symbols : List (List ℕ)) (x : Session) (xs : List Session) → AreForEach Each (s ∷ symbols) (x ∷ xs) → AreForEach Each symbols xs
  rest s symbols x xs are = record {
    same_length = omega (arith, are.same_length);
    each = λ i symbol it. are.each (suc i) symbol it;
  }

  -- of each symbol the same is told
  same-told : (symbols : List (List ℕ)) (xs ys : List Session) → AreForEach Each symbols xs → AreForEach Each symbols ys → told_by_sessions checks entries trades symbols xs ≡ told_by_sessions checks entries trades symbols ys
  same-told [] xs ys are-x are-y = refl
  same-told (s ∷ symbols) [] ys are-x are-y = absurd (omega (arith, are-x.same_length))
  same-told (s ∷ symbols) (x ∷ xs) [] are-x are-y = absurd (omega (arith, are-y.same_length))
  same-told (s ∷ symbols) (x ∷ xs) (y ∷ ys) are-x are-y =
      let alike = one s phases table entries (Ok trades) x.conforms y.conforms x.text.items y.text.items ranges (are-x.each zero s x refl refl) (are-y.each zero s y refl refl) in
      let first : session_told checks entries trades s x ≡ session_told checks entries trades s y = ap (after_checks checks entries trades s) (tell-alike x y alike) in
      let others = same-told symbols xs ys (rest s symbols x xs are-x) (rest s symbols y ys are-y) in
      λ i. first i ∷ others i

-- the sessions of these symbols over the same records are counted and written alike
same-judged : (phases : List Phase) (table : Bool) (checks : FurtherChecks) (entries : List OrderRecord) (trades : List TradeRecord) (symbols : List (List ℕ)) (a b : JudgedSymbols)
    → TradesInRange trades → SessionIsOne → AreJudgedSessions phases table checks entries trades symbols a → AreJudgedSessions phases table checks entries trades symbols b
    → SayTheSameDay a b
same-judged phases table checks entries trades symbols a b ranges one is-a is-b =
    let same = same-told phases table checks entries trades ranges one symbols is-a.sessions is-b.sessions is-a.sessions_are is-b.sessions_are in
    record {
      counts_same = is-a.tells.counts_are ∙ ap counts_of same ∙ sym is-b.tells.counts_are;
      lines_same = is-a.tells.lines_are ∙ ap (λ (told : List SymbolAnswer). day_lines_of symbols told) same ∙ sym is-b.tells.lines_are;
    }

pub one-session-answer : SessionIsOne → TradeLogsAreInRange → OneSessionAnswer
one-session-answer one ranges phases table checks share orders trades question_text a b is-a is-b =
    written-alike (AreSessionsOfDay phases table checks share) question_text orders trades
    (λ entries records x y are is-x is-y. same-judged phases table checks entries records _ x y
    (known (trades_of_trade_log trades.form trades.bytes) (λ p. TradesInRange (paired_trades p)) (Ok records) (ranges trades.form trades.bytes) are) one is-x is-y) a b is-a is-b

-- the shares tell the day
pub phases-shares-tell : SessionIsOne → TradeLogsAreInRange → SharesAreTheDay → SharesOfPhasesAreTheDay
phases-shares-tell one ranges shares phases table checks log entries trades whole are is =
    let within : TradesInRange trades = known (trades_of_trade_log log.form log.bytes) (λ p. TradesInRange (paired_trades p)) (Ok trades) (ranges log.form log.bytes) are in
    shares-tell (IsSymbolSession phases table entries trades) (session_told checks entries trades)
    (λ symbol x y is-x is-y.
    let alike = one symbol phases table entries (Ok trades) x.conforms y.conforms x.text.items y.text.items within is-x is-y in
    ap (after_checks checks entries trades symbol) (tell-alike x y alike))
    shares (λ share judged. AreSessionsOfDay phases table checks share entries judged trades) (symbols_of_day entries trades) whole is.sessions is.sessions_are is.tells
    (λ share judged judged-is. (judged-is.sessions, judged-is.sessions_are, judged-is.tells))
