-- The turns of a run where the logs and the cases are known: they are Play's, and the shelf has the logs that
-- the commands after them need.
use Rattle.std.proofs.Common.{◌≡◌, ◌∙◌, sym, ap, subst, refl, inr, ℕ, List, [], ◌∷◌, ◌++◌, Option, Some, Result, Ok, Err, append_assoc}
use Rattle.std.specs.List.{flat_map}
use Rattle.std.specs.Prelude.{MatchResult, false}
use Rattle.audit_base.specs.declared.faults.BadPlace.{BadPlace}
use Rattle.audit_base.specs.declared.findings.Finding.{Finding}
use Rattle.audit_base.specs.declared.records.OrderRecord.{OrderRecord}
use Rattle.audit_base.specs.declared.records.TradeRecord.{TradeRecord}
use Rattle.audit_base.specs.declared.terms.Which.{Which}
use Rattle.audit_base.specs.declared.terms.Which.TheVariants.{Orders, Trades}
use Rattle.audit_report.specs.declared.verdicts.Verdict.{Verdict}
use Rattle.audit_report.specs.declared.verdicts.Verdict.TheVariants as verdict
use Rattle.record_verdict.specs.RecordVerdicts.{question, IsRecordVerdict}
use Rattle.log_verdict.specs.LogVerdicts.{records_of_order_log, trades_of_trade_log}
use Rattle.case_keeper.specs.declared.case.Case.{Case}
use Rattle.case_run.specs.Play.{AreTurns, IsTurn, IsVerdictOfFiling, PlayTurn, cases_after, last_status, verdict_turn}
use Rattle.case_run.specs.Runs.{HasFilingLogs, HasLogWithin, HasPlayLogs, WhereGood}
use Rattle.case_run.specs.Statuses.{ends_run}
use Rattle.case_run.specs.Traces.{AreDone, KnownLogs, RunState, RunTurn, KnowsLogsAndCases, state_after, status_after, turn_commands, turn_texts}
use Rattle.case_run.specs.declared.commands.CaseCommand.{CaseCommand}
use Rattle.case_run.specs.declared.commands.CaseCommand.TheVariants as command
use Rattle.case_run.specs.declared.commands.Filing.{Filing}
use Rattle.case_run.specs.declared.statuses.CaseStatus.{CaseStatus}
use Rattle.case_run.specs.declared.statuses.CaseStatus.TheVariants as status

-- a status after which a run goes on is not that of a malformed log
pub not_malformed : (s : CaseStatus) → ends_run s ≡ false → s ≡ status.Malformed → ⊥
not_malformed s goes is = no_bool (sym goes ∙ ap ends_run is)
  where
    no_bool : false ≡ ends_run status.Malformed → ⊥
    no_bool e = cc

-- The turns of commands leave this.
pub record PlaysTo (logs : Which → List ℕ → Option (List ℕ)) (before : CaseStatus) (cases : List Case) (commands : List CaseCommand) (text : List ℕ) (answer : CaseStatus) (kept : Option (List Case)) : Type 0 where
  pub turns : List PlayTurn
  pub are : AreTurns logs cases commands turns
  pub text_is : flat_map (λ (t : PlayTurn). t.text) turns ≡ text
  pub status_is : last_status before turns ≡ answer
  pub cases_are : kept ≡ Some (cases_after cases turns)

module _ (known : KnownLogs) where
  -- the turns of a run are Play's, and Play goes on after them
  pub plays_on : (from : RunState) (turns : List RunTurn) (before : CaseStatus) (cases : List Case) → AreDone known from turns → KnowsLogsAndCases known from cases
      → (rest : List CaseCommand) (text : List ℕ) (answer : CaseStatus) (kept : Option (List Case))
      → ((there : List Case) → KnowsLogsAndCases known (state_after from turns) there → PlaysTo known.log_of (status_after before turns) there rest text answer kept)
      → PlaysTo known.log_of before cases (turn_commands turns ++ rest) (turn_texts turns ++ text) answer kept
  plays_on from [] before cases done knows rest text answer kept next = next cases knows
  plays_on from (turn ∷ turns) before cases done knows rest text answer kept next =
      let this = done.0.answered.played cases knows in
      let more = plays_on turn.left turns turn.status this.filed done.1 (record { logs = knows.logs; cases_are = this.cases_are }) rest text answer kept next in
      record {
        turns = record { cases = this.filed; text = turn.text; status = turn.status } ∷ more.turns;
        are = (this.is, inr (not_malformed turn.status done.0.goes_on, more.are));
        text_is = ap (λ (t : List ℕ). turn.text ++ t) more.text_is ∙ sym (append_assoc turn.text (turn_texts turns) text);
        status_is = more.status_is;
        cases_are = more.cases_are;
      }

-- the logs of a filing whose verdict is no bad place are there, and so is what comes after them
module _ (logs : Which → List ℕ → Option (List ℕ)) where
  held_next : (wanted : Filing) (next : Type 0) (v : Verdict) → IsVerdictOfFiling logs wanted v → ((log : Which) (bad : BadPlace) → v ≡ verdict.Malformed log bad → ⊥) → HasFilingLogs logs wanted next → next
  held_next wanted next v on sound held = by_orders (records_of_order_log wanted.form on.orders) refl on.is first.1
    where
      after_trades : List ℕ → Type 0
      after_trades trades = WhereGood (trades_of_trade_log wanted.form trades) next

      after_orders : List ℕ → Type 0
      after_orders orders = WhereGood (records_of_order_log wanted.form orders) (HasLogWithin (logs Trades wanted.trades) after_trades)

      first : HasLogWithin (Some on.orders) after_orders
      first = subst (λ (o : Option (List ℕ)). HasLogWithin o after_orders) on.has_orders held

      of_trades : List OrderRecord → Result (Result (List TradeRecord) Finding) BadPlace → Type 0
      of_trades entries said = MatchResult said (λ paired. IsRecordVerdict (question wanted.rule wanted.symbol false) entries paired v) (λ bad. v ≡ verdict.Malformed Trades bad)

      by_trades : (entries : List OrderRecord) (said : Result (Result (List TradeRecord) Finding) BadPlace) → of_trades entries said → WhereGood said next → next
      by_trades entries (Ok paired) is there = there
      by_trades entries (Err bad) is there = absurd (sound Trades bad is)

      by_orders : (said : Result (List OrderRecord) BadPlace) → records_of_order_log wanted.form on.orders ≡ said → MatchResult said (λ entries. of_trades entries (trades_of_trade_log wanted.form on.trades)) (λ bad. v ≡ verdict.Malformed Orders bad)
          → WhereGood said (HasLogWithin (logs Trades wanted.trades) after_trades) → next
      by_orders (Ok entries) says is there =
          let second : HasLogWithin (Some on.trades) after_trades = subst (λ (o : Option (List ℕ)). HasLogWithin o after_trades) (on.has_trades (rw says refl)) there in
          by_trades entries (trades_of_trade_log wanted.form on.trades) is second.1
      by_orders (Err bad) says is there = absurd (sound Orders bad is)

  sound_verdict : (cases : List Case) (wanted : Filing) (v : Verdict) → ((verdict_turn cases wanted v).status ≡ status.Malformed → ⊥) → (log : Which) (bad : BadPlace) → v ≡ verdict.Malformed log bad → ⊥
  sound_verdict cases wanted v unended log bad is = unended (ap (λ (x : Verdict). (verdict_turn cases wanted x).status) is)

  held_after_turn : (cases : List Case) (c : CaseCommand) (turn : PlayTurn) (rest : List CaseCommand) → IsTurn logs cases c turn → (turn.status ≡ status.Malformed → ⊥) → HasPlayLogs logs (c ∷ rest) → HasPlayLogs logs rest
  held_after_turn cases (command.File wanted) turn rest is unended held =
      held_next wanted (HasPlayLogs logs rest) is.0 is.1 (sound_verdict cases wanted is.0 (λ e. unended (ap (λ (t : PlayTurn). t.status) is.2 ∙ e))) held
  held_after_turn cases (command.List filter) turn rest is unended held = held
  held_after_turn cases (command.Show label) turn rest is unended held = held

-- the shelf has the logs that the commands after some turns need
pub held_after : (known : KnownLogs) (from : RunState) (turns : List RunTurn) (cases : List Case) (rest : List CaseCommand) → AreDone known from turns → KnowsLogsAndCases known from cases
    → HasPlayLogs known.log_of (turn_commands turns ++ rest) → HasPlayLogs known.log_of rest
held_after known from [] cases rest done knows held = held
held_after known from (turn ∷ turns) cases rest done knows held =
    let this = done.0.answered.played cases knows in
    held_after known turn.left turns this.filed rest done.1 (record { logs = knows.logs; cases_are = this.cases_are })
    (held_after_turn known.log_of cases turn.command _ (turn_commands turns ++ rest) this.is (not_malformed turn.status done.0.goes_on) held)
