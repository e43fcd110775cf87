-- The commands that read two logs: which steps lead to an answer, and where they stop.
use Rattle.std.proofs.Common.{◌≡◌, ◌∙◌, refl, ℕ, true, false, List, [], ◌∷◌, None, Some, Result, Ok, Err, IsOk}
use Rattle.std.specs.Prelude.{MatchResult}
use Rattle.audit_base.specs.declared.findings.Finding.{Finding}
use Rattle.audit_base.specs.declared.records.TradeRecord.{TradeRecord}
use Rattle.audit_base.specs.declared.faults.BadPlace.{BadPlace}
use Rattle.audit_base.specs.declared.records.OrderRecord.{OrderRecord}
use Rattle.audit_base.specs.declared.terms.Which.{Which}
use Rattle.audit_base.specs.declared.terms.Which.TheVariants.{Orders, Trades}
use Rattle.audit_report.specs.declared.statuses.Status.{Status}
use Rattle.log_verdict.specs.declared.sources.Source.{Source}
use Rattle.log_verdict.specs.declared.stops.Stop.{Stop}
use Rattle.log_verdict.specs.declared.stops.Stop.TheVariants as stop
use Rattle.log_verdict.specs.BothLogs.{source_of, IsStopOfTwoLogs, IsLogInTurn, ReadsAfterOrders, ReadsLogs}
use Rattle.command_run.specs.Commands.{Command, StartsBoth}
use Rattle.command_run.specs.Deciding.{ReadingStops}
use Rattle.command_run.specs.Laws.{AnswersBoth}
use Rattle.command_run.specs.Runs.{IsAnswerToReadLogs, ReadingDecides, ReadsThenStarts}
use Rattle.log_verdict.specs.LogVerdicts.{log_in, records_of_order_log, trades_of_trade_log, OfLogs}
use Rattle.log_verdict.specs.Steps.{Reading, LogStep, IsRead, StepsLead, FaultsNeverFall, with_slot, step_of}
use Rattle.command_run.proofs.EarlyLemmas.{line-alone}
use Rattle.command_run.proofs.OneLogLemmas.{text-of}
use Rattle.command_run.proofs.StepLemmas.{two-lead}

module _ (r : Reading) (later : FaultsNeverFall r) (orders trades : Source) (command : Command) (starts : StartsBoth command orders trades) where
  abbrev first_step : LogStep
  first_step = step_of r Orders orders.name.now

  abbrev second_step : LogStep
  second_step = step_of r Trades trades.name.now

  -- the order log alone was started
  one_leads : r.after Trades ≡ r.before Trades → StepsLead r.before (first_step ∷ []) r.after
  one_leads same = (record { at = refl; later = later Orders }, ends)
    where
      ends : (log : Which) → r.after log ≡ with_slot r.before Orders (r.after Orders) log
      ends Orders = refl
      ends Trades = same

  -- both logs were started
  both_lead : StepsLead r.before (first_step ∷ second_step ∷ []) r.after
  both_lead = two-lead r orders.name.now trades.name.now later

  one_next : (bytes : List ℕ) (bad : BadPlace) → records_of_order_log orders.form bytes ≡ Err bad → command.next (bytes ∷ []) ≡ None
  one_next bytes bad e = starts.second bytes ∙ (rw e refl)

  both_next : (bytes : List ℕ) (said : Result (List OrderRecord) BadPlace) → records_of_order_log orders.form bytes ≡ said → IsOk said → command.next (bytes ∷ []) ≡ Some (Trades, trades.name.now)
  both_next bytes (Ok entries) e good = starts.second bytes ∙ (rw e refl)
  both_next bytes (Err bad) e good = absurd (not_good good)
    where
      not_good : false ≡ true → ⊥
      not_good e = cc

  -- an answer on what was read of both logs, where the command needs no third log then
  module _ (of_records : List OrderRecord → Result (List TradeRecord) Finding → Type 0) (of_bad : Which → BadPlace → Type 0) (the_status : Status) (text : List ℕ)
      (answers : AnswersBoth command orders trades of_records of_bad the_status text) where
    both_answers : (bytes : List ℕ) → IsRead r first_step bytes → (said : Result (List OrderRecord) BadPlace) → records_of_order_log orders.form bytes ≡ said
        → ReadsAfterOrders r trades of_records of_bad said → IsAnswerToReadLogs r command the_status text
    both_answers bytes read (Err bad) e (is, untouched) = record {
      steps = first_step ∷ [];
      logs = bytes ∷ [];
      lead = one_leads untouched;
      read = (bytes, record { next = starts.first; read = read }, refl);
      all = one_next bytes bad e;
      answer = answers.answer (bytes ∷ []) refl (rw e is);
    }
    both_answers bytes read (Ok entries) e is = record {
      steps = first_step ∷ second_step ∷ [];
      logs = bytes ∷ is.bytes ∷ [];
      lead = both_lead;
      read = (bytes, record { next = starts.first; read = read }, (is.bytes, record { next = both_next bytes (Ok entries) e refl; read = is.read }, refl));
      all = answers.ends bytes is.bytes entries e is.holds;
      answer = answers.answer (bytes ∷ is.bytes ∷ []) refl (rw e is.holds);
    }

    pub both_text : ReadsLogs r orders trades of_records of_bad → ReadingDecides r command the_status text
    both_text is =
        let whole = both_answers is.bytes is.read (records_of_order_log orders.form is.bytes) refl is.holds in
        text-of r command the_status text (answers.status_of_logs whole.logs whole.answer) whole

  -- the last log that was started is one of the two
  reaches : (log : Which) → IsLogInTurn r orders log → ReadsThenStarts r command (step_of r log (source_of orders trades log).name.now)
  reaches Orders untouched = record {
    steps = [];
    logs = [];
    lead = one_leads untouched;
    read = refl;
    next = starts.first;
  }
  reaches Trades good = record {
    steps = first_step ∷ [];
    logs = good.bytes ∷ [];
    lead = both_lead;
    read = (good.bytes, record { next = starts.first; read = good.read }, refl);
    next = both_next good.bytes (records_of_order_log orders.form good.bytes) refl good.holds;
  }

  -- where reading stopped at one of them, the line says at which
  pub both_stop : (the_stop : Stop) → IsStopOfTwoLogs r orders trades the_stop → ReadingStops r command the_stop
  both_stop (stop.ReadFault log) is = record {
    last = step_of r log (source_of orders trades log).name.now;
    reads = reaches log is.in_turn;
    cause = is.fault;
    text_is = line-alone r command command.writes_early _ _ _;
  }
  both_stop (stop.TooLong log) is = record {
    last = step_of r log (source_of orders trades log).name.now;
    reads = reaches log is.in_turn;
    cause = is.long;
    text_is = line-alone r command command.writes_early _ _ _;
  }
  both_stop stop.Memory is = tt
