-- The command `verify`: the certificate is read after both logs.
use Rattle.std.proofs.Common.{◌<◌, length, Option, None, ◌≡◌, ◌⊎◌, ◌∙◌, sym, subst, refl, inl, inr, ⊎_elim, ℕ, ◌≤◌, true, List, [], ◌∷◌, Some, Result, Ok, Err, arith}
use Rattle.std.specs.Prelude.{IsSomeAnd, MatchResult}
use Rattle.audit_base.specs.declared.faults.BadPlace.{BadPlace}
use Rattle.audit_base.specs.declared.findings.Finding.{Finding}
use Rattle.audit_base.specs.declared.records.OrderRecord.{OrderRecord}
use Rattle.audit_base.specs.declared.records.TradeRecord.{TradeRecord}
use Rattle.audit_base.specs.declared.terms.Which.{Which}
use Rattle.audit_base.specs.declared.terms.Which.TheVariants.{Orders, Trades}
use Rattle.log_source.specs.Sources.{Slot, RoseOrIsFull}
use Rattle.record_verdict.specs.declared.before_rule.BeforeRule.{BeforeRule}
use Rattle.record_verdict.specs.declared.scopes.Scope.{Scope}
use Rattle.record_verdict.specs.Scopes.{call_scope}
use Rattle.log_verdict.specs.declared.sources.Source.{Source}
use Rattle.command_run.specs.declared.answers.Answer.{Answer}
use Rattle.log_verdict.specs.declared.stops.Stop.{Stop}
use Rattle.log_verdict.specs.declared.stops.Stop.TheVariants as stop
use Rattle.log_verdict.specs.BothLogs.{IsLogStop, ReadsAfterOrders, ReadsLogs, ReadsTrades, StaysWithin, StaysWithinAt}
use Rattle.audit_run.specs.Certificates.{IsVerifyAnswer}
use Rattle.command_run.specs.Commands.{Command}
use Rattle.command_run.specs.Deciding.{DecidesAnswer, DecidesBytes, IsAnswerOfKind, ReadingStops}
use Rattle.command_run.specs.Laws.{ReadLogsDecide}
use Rattle.audit_run.specs.Deciding.{request_to_verify}
use Rattle.audit_run.specs.JudgedAnswers.{IsVerifyAnswerOn}
use Rattle.audit_run.specs.Requests.{auditor_command_of}
use Rattle.command_run.specs.Runs.{ReadingDecides, ReadsOneByOne, ReadsThenStarts}
use Rattle.log_verdict.specs.Collecting.{TouchesOnly}
use Rattle.log_verdict.specs.LogVerdicts.{log_in, records_of_order_log, trades_of_trade_log}
use Rattle.log_verdict.specs.Steps.{Reading, LogStep, IsRead, IsReadFault, IsTooLong, StepsLead, FaultsNeverFall, with_slot, step_of, IsReadAs}
use Rattle.record_verdict.specs.BeforeRule.{IsBeforeRule}
use Rattle.audit_run.proofs.AnswerLemmas.{verify-status}

-- a reading of the whole, from the reading of a part before and one after
abbrev joined : Reading → Reading → Reading
joined first second = record { limit = first.limit; tells = first.tells; log_of = first.log_of; before = first.before; after = second.after }

-- Both logs were read, are in their grammars, and this is known of them before the rule.
pub record BothRead (r : Reading) (scope : Scope) (orders trades : Source) (reached : BeforeRule) : Type 0 where
  pub one : List ℕ
  pub two : List ℕ
  pub entries : List OrderRecord
  pub paired : Result (List TradeRecord) Finding
  pub read_one : IsRead r (step_of r Orders orders.name.now) one
  pub read_two : IsRead r (step_of r Trades trades.name.now) two
  pub orders_are : records_of_order_log orders.form one ≡ Ok entries
  pub trades_are : trades_of_trade_log trades.form two ≡ Ok paired
  pub come : IsBeforeRule scope entries paired reached

pub both_read : (r : Reading) (scope : Scope) (orders trades : Source) (reached : BeforeRule) → ReadsLogs r orders trades (λ entries paired. IsBeforeRule scope entries paired reached) (λ log bad. ⊥)
    → BothRead r scope orders trades reached
both_read r scope orders trades reached is = of_orders (records_of_order_log orders.form is.bytes) refl is.holds
  where
    of_trades : (entries : List OrderRecord) → records_of_order_log orders.form is.bytes ≡ Ok entries → (after : ReadsTrades r trades (λ paired. IsBeforeRule scope entries paired reached) (λ bad. ⊥))
        → (said : Result (Result (List TradeRecord) Finding) BadPlace) → trades_of_trade_log trades.form after.bytes ≡ said → MatchResult said (λ paired. IsBeforeRule scope entries paired reached) (λ bad. ⊥)
        → BothRead r scope orders trades reached
    of_trades entries e after (Ok paired) f come = record {
      one = is.bytes;
      two = after.bytes;
      entries = entries;
      paired = paired;
      read_one = is.read;
      read_two = after.read;
      orders_are = e;
      trades_are = f;
      come = come;
    }
    of_trades entries e after (Err bad) f come = absurd come

    of_orders : (said : Result (List OrderRecord) BadPlace) → records_of_order_log orders.form is.bytes ≡ said → ReadsAfterOrders r trades (λ es paired. IsBeforeRule scope es paired reached) (λ log bad. ⊥) said
        → BothRead r scope orders trades reached
    of_orders (Ok entries) e after = of_trades entries e after (trades_of_trade_log trades.form after.bytes) refl after.holds
    of_orders (Err bad) e (never, untouched) = absurd never

-- The second reading goes on where the first ended, on the same shelf.
pub record Continues (first second : Reading) : Type 0 where
  pub limit : second.limit ≡ first.limit
  pub tells : second.tells ≡ first.tells
  pub logs : (log : Which) (name : List ℕ) → second.log_of log name ≡ first.log_of log name
  pub slots : (log : Which) → second.before log ≡ first.after log

module _ (first second : Reading) (after : Continues first second) (later : FaultsNeverFall first) (only : TouchesOnly second Trades) (symbol : List ℕ) (orders trades : Source) (certificate : List ℕ) where
  abbrev whole : Reading
  whole = joined first second

  abbrev asked : Scope
  asked = call_scope symbol

  abbrev command : Command
  command = auditor_command_of (request_to_verify symbol orders trades certificate)

  abbrev first_step : LogStep
  first_step = step_of first Orders orders.name.now

  abbrev second_step : LogStep
  second_step = step_of first Trades trades.name.now

  abbrev third_step : LogStep
  third_step = step_of second Trades certificate

  three_lead : StepsLead whole.before (first_step ∷ second_step ∷ third_step ∷ []) whole.after
  three_lead = (record { at = refl; later = later Orders }, (record { at = refl; later = later Trades }, (record { at = after.slots Trades; later = only.later }, ends)))
    where
      ends : (log : Which) → whole.after log ≡ with_slot (with_slot (with_slot whole.before Orders (first.after Orders)) Trades (first.after Trades)) Trades (second.after Trades) log
      ends Orders = only.other ∙ after.slots Orders
      ends Trades = refl

  read_first : (step : LogStep) (bytes : List ℕ) → IsRead first step bytes → IsRead whole step bytes
  read_first step bytes is = record { once = is.once; started = is.started; at_end = is.at_end; within = is.within; taken = is.taken; given = is.given; known = is.known }

  read_third : (bytes : List ℕ) → IsRead second third_step bytes → IsRead whole third_step bytes
  read_third bytes is = record {
    once = is.once;
    started = is.started;
    at_end = is.at_end;
    within = subst (λ (n : ℕ). length bytes ≤ n) after.limit is.within;
    taken = is.taken;
    given = is.given;
    known = λ t. sym (after.logs Trades certificate) ∙ is.known (after.tells ∙ t);
  }

  module _ (reached : BeforeRule) (both : BothRead first asked orders trades reached) where
    second_next : command.next (both.one ∷ []) ≡ Some (Trades, trades.name.now)
    second_next = rw both.orders_are refl

    third_next : command.next (both.one ∷ both.two ∷ []) ≡ Some (Trades, certificate)
    third_next = rw both.trades_are refl

    two_read : ReadsOneByOne whole command [] (first_step ∷ second_step ∷ []) (both.one ∷ both.two ∷ [])
    two_read = (both.one, record { next = refl; read = read_first first_step both.one both.read_one }, (both.two, record { next = second_next; read = read_first second_step both.two both.read_two }, refl))

    three_read : (bytes : List ℕ) → IsRead second third_step bytes → ReadsOneByOne whole command [] (first_step ∷ second_step ∷ third_step ∷ []) (both.one ∷ both.two ∷ bytes ∷ [])
    three_read bytes read = (
      both.one,
      record { next = refl; read = read_first first_step both.one both.read_one },
      (
        both.two,
        record { next = second_next; read = read_first second_step both.two both.read_two },
        (bytes, record { next = third_next; read = read_third bytes read }, refl),
      ),
    )

    certificate_text : ReadLogsDecide command → (answer : Answer) → IsReadAs second Trades certificate (λ bytes. IsAnswerOfKind (IsVerifyAnswerOn symbol reached bytes) answer) → ReadingDecides whole command answer.status answer.text.items
    certificate_text decide answer is =
        let verified : IsVerifyAnswer symbol (log_in orders.form both.one) (log_in trades.form both.two) is.bytes answer.status answer.text.items =
        is.holds (log_in orders.form both.one) (log_in trades.form both.two) (rw (both.orders_are, both.trades_are) both.come) in
        decide whole answer.status answer.text.items (verify-status symbol (log_in orders.form both.one) (log_in trades.form both.two) is.bytes answer.status answer.text.items verified)
        (record {
          steps = first_step ∷ second_step ∷ third_step ∷ [];
          logs = both.one ∷ both.two ∷ is.bytes ∷ [];
          lead = three_lead;
          read = three_read is.bytes is.read;
          all = refl;
          answer = verified;
        })

    reaches_third : ReadsThenStarts whole command third_step
    reaches_third = record {
      steps = first_step ∷ second_step ∷ [];
      logs = both.one ∷ both.two ∷ [];
      lead = three_lead;
      read = two_read;
      next = third_next;
    }

    third_fault : IsReadFault second third_step → IsReadFault whole third_step
    third_fault is = record { once = is.once; cause = by_cause is.cause }
      where
        by_cause : RoseOrIsFull third_step.before.faults third_step.after.faults ⊎ ((second.tells ≡ true) × (second.log_of Trades certificate ≡ None))
            → RoseOrIsFull third_step.before.faults third_step.after.faults ⊎ ((whole.tells ≡ true) × (whole.log_of Trades certificate ≡ None))
        by_cause (inl rose) = inl rose
        by_cause (inr (t, none)) = inr (sym after.tells ∙ t, sym (after.logs Trades certificate) ∙ none)

    third_long : IsTooLong second third_step → IsTooLong whole third_step
    third_long is = record {
      once = is.once;
      taken = subst (λ (n : ℕ). n < (second.after Trades).taken) after.limit is.taken;
      longer = λ t. subst (λ (n : ℕ). IsSomeAnd (first.log_of Trades certificate) (λ bytes. n < length bytes)) after.limit
          (subst (λ (o : Option (List ℕ)). IsSomeAnd o (λ bytes. second.limit < length bytes)) (after.logs Trades certificate) (is.longer (after.tells ∙ t)));
    }

    certificate_stop : (the_stop : Stop) → IsLogStop second Trades certificate the_stop → ReadingStops whole command the_stop
    certificate_stop (stop.ReadFault log) (is, fault) = rw is (record { last = third_step; reads = reaches_third; cause = third_fault fault; text_is = refl })
    certificate_stop (stop.TooLong log) (is, long) = rw is (record { last = third_step; reads = reaches_third; cause = third_long long; text_is = refl })
    certificate_stop stop.Memory is = tt

    -- what is decided of the certificate is decided of the whole call
    pub decides_certificate : ReadLogsDecide command → (result : Result Answer Stop) → DecidesBytes second Trades certificate (IsVerifyAnswerOn symbol reached) result → DecidesAnswer whole command result
    decides_certificate decide (Ok answer) is = certificate_text decide answer is
    decides_certificate decide (Err the_stop) is = certificate_stop the_stop is

  at_most : (a b c : ℕ) → a ≤ b → b ≤ c → a ≤ c
  at_most a b c x y = omega arith

  pub later_certificate : FaultsNeverFall whole
  later_certificate Orders = subst (λ (s : Slot). (first.before Orders).faults ≤ s.faults) (sym (only.other ∙ after.slots Orders)) (later Orders)
  later_certificate Trades =
      at_most (first.before Trades).faults (first.after Trades).faults (second.after Trades).faults (later Trades)
      (subst (λ (s : Slot). s.faults ≤ (second.after Trades).faults) (after.slots Trades) only.later)

  pub within_certificate : (reached : BeforeRule) (result : Result Answer Stop) → StaysWithin {T = BeforeRule} first (Ok reached) → StaysWithinAt second Trades result → StaysWithin whole result
  within_certificate reached result before stays begins = ⊎_elim (λ stop. inl stop) (λ taken. ⊎_elim (λ none. absurd none) (λ ends. inr (all_within (subst (λ (n : ℕ). (second.after Trades).taken ≤ n) after.limit taken) ends)) (before begins)) stays
    where
      all_within : (second.after Trades).taken ≤ first.limit → ((log : Which) → (first.after log).taken ≤ first.limit) → (log : Which) → (whole.after log).taken ≤ first.limit
      all_within taken ends Orders = subst (λ (s : Slot). s.taken ≤ first.limit) (sym (only.other ∙ after.slots Orders)) (ends Orders)
      all_within taken ends Trades = taken
