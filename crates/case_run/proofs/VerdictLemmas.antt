-- The verdict on the two logs of a filing, from what was read of both.
use Rattle.std.proofs.Common.{◌≡◌, sym, ap, subst, refl, inl, inr, ⊎_elim, ℕ, false, List, [], Option, None, Some, Result, Ok, Err, IsOk}
use Rattle.std.specs.Prelude.{MatchResult, is_ok}
use Rattle.audit_base.specs.declared.faults.BadPlace.{BadPlace}
use Rattle.audit_base.specs.declared.findings.Finding.{Finding}
use Rattle.audit_base.specs.declared.orders.Deal.{Deal}
use Rattle.audit_base.specs.declared.orders.Order.{Order}
use Rattle.audit_base.specs.declared.records.OrderRecord.{OrderRecord}
use Rattle.audit_base.specs.declared.records.TradeRecord.{TradeRecord}
use Rattle.audit_base.specs.declared.terms.Form.{Form}
use Rattle.audit_base.specs.declared.terms.Which.{Which}
use Rattle.audit_base.specs.declared.terms.Which.TheVariants.{Orders, Trades}
use Rattle.audit_base.specs.Histories.{order_list}
use Rattle.audit_base.specs.Trades.{deals_of_symbol}
use Rattle.audit_base.specs.Verdicts.{paired_trades}
use Rattle.audit_report.specs.declared.verdicts.Verdict.{Verdict}
use Rattle.audit_report.specs.declared.verdicts.Verdict.TheVariants as verdict
use Rattle.log_verdict.specs.declared.sources.Source.{Source}
use Rattle.log_verdict.specs.declared.stops.Stop.{Stop}
use Rattle.log_verdict.specs.declared.stops.Stop.TheVariants as stop
use Rattle.log_verdict.specs.BothLogs.{IsAfterGoodOrders, IsStopOfTwoLogs, ReadsAfterOrders, ReadsVerdict}
use Rattle.log_verdict.specs.BothLogs as both
use Rattle.log_verdict.specs.LogVerdicts.{log_in, records_of_order_log, trades_of_trade_log, IsLogVerdict}
use Rattle.log_verdict.specs.Steps.{Reading, LogStep, IsRead, step_of, IsUntouched}
use Rattle.record_verdict.specs.declared.questions.Question.{Question}
use Rattle.record_verdict.specs.RecordVerdicts.{question, IsRecordVerdict, IsOutcomeByFinding}
use Rattle.case_run.specs.Causes.{IsFilingLogInTurn, OfFilingLog, ReadsGoodLogs, filing_log_name}
use Rattle.case_run.specs.Turns.{halt_of_stop, IsLogHalt, ReadsFilingVerdict, ReadsForVerdict, EndsWithinOrHalts}
use Rattle.case_run.specs.declared.commands.CaseCommand.TheVariants as command
use Rattle.case_run.specs.declared.commands.Filing.{Filing}

-- a verdict on records is no bad place
judged_sound : (q : Question) (entries : List OrderRecord) (paired : Result (List TradeRecord) Finding) (log : Which) (bad : BadPlace) → IsRecordVerdict q entries paired (verdict.Malformed log bad) → ⊥
judged_sound q entries paired log bad is =
    by_found (order_list q.symbol entries) (deals_of_symbol (order_list q.symbol entries) q.symbol (paired_trades paired)) is.found is.outcome
  where
    by_found : (orders : List Order) (deals : List Deal) (found : Option Finding) → IsOutcomeByFinding q orders deals found (verdict.Malformed log bad) → ⊥
    by_found orders deals None is = absurd is
    by_found orders deals (Some finding) is = cc

-- The log of a slot has the name and the form that the filing names.
pub record Names (wanted : Filing) (log : Which) (source : Source) : Type 0 where
  pub name : source.name.now ≡ filing_log_name wanted log
  pub form : source.form ≡ wanted.form

module _ (r : Reading) (wanted : Filing) (orders trades : Source) (first : Names wanted Orders orders) (second : Names wanted Trades trades) where
  abbrev asked : Question
  asked = question wanted.rule wanted.symbol false

  abbrev after : Verdict → Result (List OrderRecord) BadPlace → Type 0
  after v said = ReadsAfterOrders r trades (λ entries paired. IsRecordVerdict asked entries paired v) (λ log bad. v ≡ verdict.Malformed log bad) said

  read_orders : (bytes : List ℕ) → IsRead r (step_of r Orders orders.name.now) bytes → IsRead r (step_of r Orders wanted.orders) bytes
  read_orders bytes read = subst (λ (n : List ℕ). IsRead r (step_of r Orders n) bytes) first.name read

  read_trades : (bytes : List ℕ) → IsRead r (step_of r Trades trades.name.now) bytes → IsRead r (step_of r Trades wanted.trades) bytes
  read_trades bytes read = subst (λ (n : List ℕ). IsRead r (step_of r Trades n) bytes) second.name read

  orders_say : (bytes : List ℕ) (said : Result (List OrderRecord) BadPlace) → records_of_order_log orders.form bytes ≡ said → records_of_order_log wanted.form bytes ≡ said
  orders_say bytes said says = subst (λ (f : Form). records_of_order_log f bytes ≡ said) first.form says

  trades_say : (bytes : List ℕ) (said : Result (Result (List TradeRecord) Finding) BadPlace) → trades_of_trade_log trades.form bytes ≡ said → trades_of_trade_log wanted.form bytes ≡ said
  trades_say bytes said says = subst (λ (f : Form). trades_of_trade_log f bytes ≡ said) second.form says

  no_good : (said : Result (List OrderRecord) BadPlace) (bad : BadPlace) → said ≡ Err bad → IsOk said → ⊥
  no_good (Ok entries) bad e good = cc
  no_good (Err other) bad e good = cc

  -- what is said of both logs where the order log is out of its grammar
  of_bad_orders : (v : Verdict) (bytes : List ℕ) (bad : BadPlace) → IsRead r (step_of r Orders orders.name.now) bytes → records_of_order_log orders.form bytes ≡ Err bad → v ≡ verdict.Malformed Orders bad → IsUntouched r Trades → ReadsFilingVerdict r wanted v
  of_bad_orders v bytes bad read says is alone = record {
    on = λ tells. record {
      orders = bytes;
      trades = [];
      has_orders = (read_orders bytes read).known tells;
      has_trades = λ good. absurd (no_good (records_of_order_log wanted.form bytes) bad (orders_say bytes (Err bad) says) good);
      is = rw (orders_say bytes (Err bad) says) is;
    };
    read = subst (ReadsForVerdict r wanted) (sym is) (record { in_turn = alone; bad = record { bytes = bytes; read = read_orders bytes read; holds = ap is_ok (orders_say bytes (Err bad) says) } });
  }

  -- and where it is in its grammar
  module _ (v : Verdict) (one two : List ℕ) (entries : List OrderRecord) (read_one : IsRead r (step_of r Orders orders.name.now) one) (read_two : IsRead r (step_of r Trades trades.name.now) two)
      (says : records_of_order_log orders.form one ≡ Ok entries) where
    judges : ReadsForVerdict r wanted v → IsLogVerdict asked (log_in wanted.form one) (log_in wanted.form two) v → ReadsFilingVerdict r wanted v
    judges read is = record {
      on = λ tells. record {
        orders = one;
        trades = two;
        has_orders = (read_orders one read_one).known tells;
        has_trades = λ good. (read_trades two read_two).known tells;
        is = is;
      };
      read = read;
    }

    good : (paired : Result (List TradeRecord) Finding) → trades_of_trade_log trades.form two ≡ Ok paired → ReadsGoodLogs r (command.File wanted)
    good paired said = (
      record { bytes = one; read = read_orders one read_one; holds = rw (orders_say one (Ok entries) says) refl },
      record { bytes = two; read = read_trades two read_two; holds = rw (trades_say two (Ok paired) said) refl },
    )

    not_bad : (v : Verdict) (paired : Result (List TradeRecord) Finding) → trades_of_trade_log trades.form two ≡ Ok paired → IsRecordVerdict asked entries paired v → ReadsForVerdict r wanted v
    not_bad (verdict.Accepted accepted) paired said is = good paired said
    not_bad (verdict.Rejected finding) paired said is = good paired said
    not_bad (verdict.Malformed log bad) paired said is = absurd (judged_sound asked entries paired log bad is)

    of_trades : (said : Result (Result (List TradeRecord) Finding) BadPlace) → trades_of_trade_log trades.form two ≡ said
        → MatchResult said (λ paired. IsRecordVerdict asked entries paired v) (λ bad. v ≡ verdict.Malformed Trades bad) → ReadsFilingVerdict r wanted v
    of_trades (Ok paired) said is = judges (not_bad v paired said is) (rw (orders_say one (Ok entries) says, trades_say two (Ok paired) said) is)
    of_trades (Err bad) said is =
        judges (subst (ReadsForVerdict r wanted) (sym is) (record {
          in_turn = record { bytes = one; read = read_orders one read_one; holds = rw (orders_say one (Ok entries) says) refl };
          bad = record { bytes = two; read = read_trades two read_two; holds = ap is_ok (trades_say two (Err bad) said) };
        }))
        (rw (orders_say one (Ok entries) says, trades_say two (Err bad) said) is)

  -- the verdict on both logs is that on the logs of the filing
  pub judges_logs : (v : Verdict) → ReadsVerdict r asked orders trades v → ReadsFilingVerdict r wanted v
  judges_logs v is = of_orders (records_of_order_log orders.form is.bytes) refl is.holds
    where
      of_orders : (said : Result (List OrderRecord) BadPlace) → records_of_order_log orders.form is.bytes ≡ said → after v said → ReadsFilingVerdict r wanted v
      of_orders (Ok entries) says holds =
          of_trades v is.bytes holds.bytes entries is.read holds.read says (trades_of_trade_log trades.form holds.bytes) refl holds.holds
      of_orders (Err bad) says holds = of_bad_orders v is.bytes bad is.read says holds.0 holds.1

  started : (log : Which) → both.IsLogInTurn r orders log → IsFilingLogInTurn r wanted log
  started Orders is = is
  started Trades is = record { bytes = is.bytes; read = read_orders is.bytes is.read; holds = subst (λ (f : Form). IsOk (records_of_order_log f is.bytes)) first.form is.holds }

  of_slot : (holds : Reading → LogStep → Type 0) (log : Which) → both.IsLogInTurn r orders log → holds r (step_of r log (both.source_of orders trades log).name.now) → OfFilingLog holds r wanted log
  of_slot holds Orders is cause = record { in_turn = started Orders is; holds = subst (λ (n : List ℕ). holds r (step_of r Orders n)) first.name cause }
  of_slot holds Trades is cause = record { in_turn = started Trades is; holds = subst (λ (n : List ℕ). holds r (step_of r Trades n)) second.name cause }

  -- why nothing is known of both logs is why the command halts
  pub halts_logs : (why : Stop) → IsStopOfTwoLogs r orders trades why → IsLogHalt r wanted (halt_of_stop why)
  halts_logs (stop.ReadFault log) is = of_slot _ log is.in_turn is.fault
  halts_logs (stop.TooLong log) is = of_slot _ log is.in_turn is.long
  halts_logs stop.Memory is = tt

-- the length is what halts the command where it is why nothing is known
pub within_logs : (r : Reading) (why : Stop) → both.StaysWithin {T = Verdict} r (Err why) → EndsWithinOrHalts {T = Verdict} r (Err (halt_of_stop why))
within_logs r (stop.ReadFault log) within begins = ⊎_elim (λ none. absurd none) (λ ends. inr ends) (within begins)
within_logs r (stop.TooLong log) within begins = inl tt
within_logs r stop.Memory within begins = ⊎_elim (λ none. absurd none) (λ ends. inr ends) (within begins)

pub within_verdict : (r : Reading) (v : Verdict) → both.StaysWithin {T = Verdict} r (Ok v) → EndsWithinOrHalts {T = Verdict} r (Ok v)
within_verdict r v within begins = ⊎_elim (λ none. absurd none) (λ ends. inr ends) (within begins)
