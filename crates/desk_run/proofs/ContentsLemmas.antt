-- What is in two logs that are read in turn, the trade log where the order log is good: from what is decided of each to the whole call.
use Rattle.std.proofs.Common.{◌≡◌, ◌≤◌, ◌<◌, ◌⊎◌, ◌∙◌, sym, subst, refl, inl, inr, true, false, ℕ, List, [], ◌∷◌, length, Option, None, Some, Result, Ok, Err, IsOk, arith}
use Rattle.std.specs.Prelude.{IsSomeAnd}
use Rattle.audit_base.specs.declared.faults.BadPlace.{BadPlace}
use Rattle.audit_base.specs.declared.records.OrderRecord.{OrderRecord}
use Rattle.audit_base.specs.declared.terms.Form.{Form}
use Rattle.audit_base.specs.declared.terms.Form.TheVariants.{Csv, Fix}
use Rattle.audit_base.specs.declared.terms.Which.{Which}
use Rattle.audit_base.specs.declared.terms.Which.TheVariants.{Orders, Trades}
use Rattle.audit_base.specs.Histories.{symbol_of, time_of}
use Rattle.audit_report.specs.declared.statuses.Status.{Status}
use Rattle.audit_report.specs.declared.verdicts.Verdict.TheVariants.{Malformed}
use Rattle.command_run.specs.declared.answers.Answer.{Answer}
use Rattle.command_run.specs.Commands.{Command, StartsBoth}
use Rattle.command_run.specs.Deciding.{DecidesAnswer, DecidesBytes, DecidesUnread, IsStatusOfLogs}
use Rattle.command_run.specs.InTurn.{ReadsInTurn, reading_of_both}
use Rattle.command_run.specs.Laws.{BothLogsStop, ReadLogsDecide}
use Rattle.command_run.specs.VerdictAnswers.{IsVerdictAnswer}
use Rattle.fix_messages.specs.OrderTables.{order_of_message}
use Rattle.log_contents.specs.Kinds.{kind_of_order, kinds_of_messages}
use Rattle.log_contents.specs.Summaries.{LogItems}
use Rattle.log_source.specs.Calls.{count_after}
use Rattle.log_source.specs.Sources.{Slot, RoseOrIsFull}
use Rattle.log_verdict.specs.declared.reading.ReadingFault.{ReadingFault}
use Rattle.log_verdict.specs.declared.reading.ReadingFault.TheVariants as unread
use Rattle.log_verdict.specs.declared.sources.Source.{Source}
use Rattle.log_verdict.specs.declared.stops.Stop.{Stop}
use Rattle.log_verdict.specs.declared.stops.Stop.TheVariants as stop
use Rattle.log_verdict.specs.BothLogs.{StaysWithin, StaysWithinAt}
use Rattle.log_verdict.specs.Collecting.{IsUnread, TouchesOnly}
use Rattle.log_verdict.specs.LogVerdicts.{records_of_order_log}
use Rattle.log_verdict.specs.Steps.{Reading, EndsWithin, FaultsNeverFall, IsRead, IsReadFault, IsTooLong, StepsLead, with_slot, step_of}
use Rattle.log_contents.specs.DayItems.{csv_items, fix_items, order_log_items}
use Rattle.desk_run.specs.Contents.{IsAnswerToItems}

-- The answers are those to logs that were read.

malformed_of_logs : (log : Which) (bad : BadPlace) (s : Status) (text : List ℕ) → IsVerdictAnswer (Malformed log bad) s text → IsStatusOfLogs s
malformed_of_logs log bad s text is = subst IsStatusOfLogs (sym is.status_is) tt

pub status_of_items : (orders trades : Result LogItems BadPlace) (s : Status) (text : List ℕ) → IsAnswerToItems orders trades s text → IsStatusOfLogs s
status_of_items (Ok orders) (Ok trades) s text is = subst IsStatusOfLogs (sym is.done) tt
status_of_items (Ok orders) (Err bad) s text is = malformed_of_logs Trades bad s text is
status_of_items (Err bad) trades s text is = malformed_of_logs Orders bad s text is

-- The order log is good, or bad at a place, as for an audit.

csv_good : (said : Result (List OrderRecord) BadPlace) (items : LogItems) → csv_items symbol_of time_of kind_of_order said ≡ Ok items → IsOk said
csv_good (Ok entries) items e = refl
csv_good (Err bad) items e = absurd (cc e)

fix_good : (said : Result (List OrderRecord) BadPlace) (kinds : Result (List (List ℕ)) BadPlace) (items : LogItems) → fix_items symbol_of time_of said kinds ≡ Ok items → IsOk said
fix_good (Ok entries) kinds items e = refl
fix_good (Err bad) kinds items e = absurd (cc e)

pub good_orders : (form : Form) (bytes : List ℕ) (items : LogItems) → order_log_items form bytes ≡ Ok items → IsOk (records_of_order_log form bytes)
good_orders Csv bytes items e = csv_good (records_of_order_log Csv bytes) items e
good_orders Fix bytes items e = fix_good (records_of_order_log Fix bytes) (kinds_of_messages order_of_message bytes) items e

pub bad_orders : (form : Form) (bytes : List ℕ) (bad : BadPlace) → records_of_order_log form bytes ≡ Err bad → order_log_items form bytes ≡ Err bad
bad_orders Csv bytes bad e = rw e refl
bad_orders Fix bytes bad e = rw e refl

-- What was answered where a log was not read.

pub unread_decides : {R : Type 0} (r : Reading) (log : Which) (name : List ℕ) (said : List ℕ → Result R BadPlace) (is_answer : List ℕ → Status → List ℕ → Type 0) (why : ReadingFault) (result : Result Answer Stop)
    → ((bytes : List ℕ) (bad : BadPlace) (s : Status) (text : List ℕ) → said bytes ≡ Err bad → IsVerdictAnswer (Malformed log bad) s text → is_answer bytes s text)
    → IsUnread said r log name why → DecidesUnread log why result → DecidesBytes r log name is_answer result
unread_decides r log name said is_answer (unread.Bad bad) (Ok answer) answers is decides = record { bytes = is.bytes; read = is.read; holds = answers is.bytes bad answer.status answer.text.items is.holds decides }
unread_decides r log name said is_answer (unread.Bad bad) (Err why) answers is decides = rw decides tt
unread_decides r log name said is_answer unread.ReadFault result answers is decides = rw decides (refl, is)
unread_decides r log name said is_answer unread.TooLong result answers is decides = rw decides (refl, is)
unread_decides r log name said is_answer unread.Memory result answers is decides = rw decides tt

pub unread_within : (r : Reading) (log : Which) (why : ReadingFault) (result : Result Answer Stop) → ((why ≡ unread.TooLong → ⊥) → (r.after log).taken ≤ r.limit) → DecidesUnread log why result → StaysWithinAt r log result
unread_within r log (unread.Bad bad) result within decides = inr (within (λ e. cc))
unread_within r log unread.ReadFault result within decides = inr (within (λ e. cc))
unread_within r log unread.TooLong result within decides = rw decides (inl tt)
unread_within r log unread.Memory result within decides = inr (within (λ e. cc))

ends : (r : Reading) → (r.after Orders).taken ≤ r.limit → (r.after Trades).taken ≤ r.limit → EndsWithin r
ends r orders trades Orders = orders
ends r orders trades Trades = trades

pub first_within : (r : Reading) (result : Result Answer Stop) → TouchesOnly r Orders → StaysWithinAt r Orders result → StaysWithin r result
first_within r result only (inl long) begins = inl long
first_within r result only (inr short) begins = inr (ends r short (subst (λ (s : Slot). s.taken ≤ r.limit) (sym only.other) (begins Trades)))

pub first_later : (r : Reading) → TouchesOnly r Orders → FaultsNeverFall r
first_later r only Orders = only.later
first_later r only Trades = rw only.other (omega arith)

-- Where the order log was not read, or is bad, no other was started.

first_leads : (r : Reading) (name : List ℕ) → TouchesOnly r Orders → StepsLead r.before (step_of r Orders name ∷ []) r.after
first_leads r name only = (record { at = refl; later = only.later }, ends-at)
  where
    ends-at : (log : Which) → r.after log ≡ with_slot r.before Orders (r.after Orders) log
    ends-at Orders = refl
    ends-at Trades = only.other

module _ (command : Command) (orders trades : Source) (starts : StartsBoth command orders trades) (stops : BothLogsStop command) (read_all : ReadLogsDecide command) where
  pub orders_decide : (r : Reading) (why : ReadingFault) (result : Result Answer Stop) → TouchesOnly r Orders
      → ((bytes : List ℕ) (bad : BadPlace) (s : Status) (text : List ℕ) → records_of_order_log orders.form bytes ≡ Err bad → IsVerdictAnswer (Malformed Orders bad) s text → command.is_answer (bytes ∷ []) s text)
      → IsUnread (records_of_order_log orders.form) r Orders orders.name.now why → DecidesUnread Orders why result → DecidesAnswer r command result
  orders_decide r (unread.Bad bad) (Ok answer) only answers is decides =
      read_all r answer.status answer.text.items (malformed_of_logs Orders bad answer.status answer.text.items decides)
      (record {
        steps = step_of r Orders orders.name.now ∷ [];
        logs = is.bytes ∷ [];
        lead = first_leads r orders.name.now only;
        read = (is.bytes, record { next = starts.first; read = is.read }, refl);
        all = starts.second is.bytes ∙ (rw is.holds refl);
        answer = answers is.bytes bad answer.status answer.text.items is.holds decides;
      })
  orders_decide r (unread.Bad bad) (Err why) only answers is decides = rw decides tt
  orders_decide r unread.ReadFault result only answers is decides =
      rw decides (stops r orders trades (stop.ReadFault Orders) (first_later r only) starts (record { in_turn = only.other; fault = is }))
  orders_decide r unread.TooLong result only answers is decides =
      rw decides (stops r orders trades (stop.TooLong Orders) (first_later r only) starts (record { in_turn = only.other; long = is }))
  orders_decide r unread.Memory result only answers is decides = rw decides tt

  module _ (first second : Reading) (on : ReadsInTurn first second) (later : FaultsNeverFall (reading_of_both first second)) where
    abbrev whole : Reading
    whole = reading_of_both first second

    orders-stay : second.after Orders ≡ first.after Orders
    orders-stay = on.trades.other ∙ on.begins Orders

    trades-stay : second.before Trades ≡ first.before Trades
    trades-stay = on.begins Trades ∙ on.orders.other

    -- the order log stays read while the trade log is
    stays-read : (name bytes : List ℕ) → IsRead first (step_of first Orders name) bytes → IsRead whole (step_of whole Orders name) bytes
    stays-read name bytes is = record {
      once = rw orders-stay is.once;
      started = rw orders-stay is.started;
      at_end = rw orders-stay is.at_end;
      within = is.within;
      taken = rw orders-stay is.taken;
      given = rw orders-stay is.given;
      known = is.known;
    }

    once-after : (second.after Trades).starts ≡ count_after (second.before Trades).starts → (second.after Trades).starts ≡ count_after (first.before Trades).starts
    once-after once = subst (λ (s : Slot). (second.after Trades).starts ≡ count_after s.starts) trades-stay once

    -- the trade log is read in the whole call as in its part
    read-after : (name bytes : List ℕ) → IsRead second (step_of second Trades name) bytes → IsRead whole (step_of whole Trades name) bytes
    read-after name bytes is = record {
      once = once-after is.once;
      started = is.started;
      at_end = is.at_end;
      within = subst (λ (n : ℕ). length bytes ≤ n) on.limit is.within;
      taken = is.taken;
      given = is.given;
      known = λ t. sym (on.logs Trades name) ∙ is.known (on.tells ∙ t);
    }

    fault-after : (name : List ℕ) → IsReadFault second (step_of second Trades name) → IsReadFault whole (step_of whole Trades name)
    fault-after name is = record { once = once-after is.once; cause = by-cause is.cause }
      where
        by-cause : RoseOrIsFull (second.before Trades).faults (second.after Trades).faults ⊎ ((second.tells ≡ true) × (second.log_of Trades name ≡ None))
            → RoseOrIsFull (first.before Trades).faults (second.after Trades).faults ⊎ ((first.tells ≡ true) × (first.log_of Trades name ≡ None))
        by-cause (inl rose) = inl (rw (← trades-stay) rose)
        by-cause (inr (t, none)) = inr (sym on.tells ∙ t, sym (on.logs Trades name) ∙ none)

    long-after : (name : List ℕ) → IsTooLong second (step_of second Trades name) → IsTooLong whole (step_of whole Trades name)
    long-after name is = record {
      once = once-after is.once;
      taken = subst (λ (n : ℕ). n < (second.after Trades).taken) on.limit is.taken;
      longer = λ t. subst (λ (n : ℕ). IsSomeAnd (first.log_of Trades name) (λ bytes. n < length bytes)) on.limit
          (subst (λ (o : Option (List ℕ)). IsSomeAnd o (λ bytes. second.limit < length bytes)) (on.logs Trades name) (is.longer (on.tells ∙ t)));
    }

    both_lead : StepsLead first.before (step_of whole Orders orders.name.now ∷ step_of whole Trades trades.name.now ∷ []) second.after
    both_lead = (record { at = refl; later = later Orders }, (record { at = refl; later = later Trades }, ends-at))
      where
        ends-at : (log : Which) → second.after log ≡ with_slot (with_slot first.before Orders (second.after Orders)) Trades (second.after Trades) log
        ends-at Orders = refl
        ends-at Trades = refl

    both_next : (bytes : List ℕ) (said : Result (List OrderRecord) BadPlace) → records_of_order_log orders.form bytes ≡ said → IsOk said → command.next (bytes ∷ []) ≡ Some (Trades, trades.name.now)
    both_next bytes (Ok entries) e good = starts.second bytes ∙ (rw e refl)
    both_next bytes (Err bad) e good = absurd (not_good good)
      where
        not_good : false ≡ true → ⊥
        not_good e = cc

    -- the trade log was read after a good order log, or was not
    pub trades_decide : (bytes : List ℕ) (result : Result Answer Stop) → IsRead first (step_of first Orders orders.name.now) bytes → IsOk (records_of_order_log orders.form bytes)
        → ((one other : List ℕ) → command.next (one ∷ other ∷ []) ≡ None) → ((logs : List (List ℕ)) (s : Status) (text : List ℕ) → command.is_answer logs s text → IsStatusOfLogs s)
        → DecidesBytes second Trades trades.name.now (λ other. command.is_answer (bytes ∷ other ∷ [])) result → DecidesAnswer whole command result
    trades_decide bytes (Ok answer) read good last of_logs is =
        read_all whole answer.status answer.text.items (of_logs (bytes ∷ is.bytes ∷ []) answer.status answer.text.items is.holds)
        (record {
          steps = step_of whole Orders orders.name.now ∷ step_of whole Trades trades.name.now ∷ [];
          logs = bytes ∷ is.bytes ∷ [];
          lead = both_lead;
          read = (
            bytes,
            record { next = starts.first; read = stays-read orders.name.now bytes read },
            (is.bytes, record { next = both_next bytes (records_of_order_log orders.form bytes) refl good; read = read-after trades.name.now is.bytes is.read }, refl),
          );
          all = last bytes is.bytes;
          answer = is.holds;
        })
    trades_decide bytes (Err (stop.ReadFault log)) read good last of_logs (is, fault) =
        rw is (stops whole orders trades (stop.ReadFault Trades) later starts
        (record { in_turn = record { bytes = bytes; read = stays-read orders.name.now bytes read; holds = good }; fault = fault-after trades.name.now fault }))
    trades_decide bytes (Err (stop.TooLong log)) read good last of_logs (is, long) =
        rw is (stops whole orders trades (stop.TooLong Trades) later starts
        (record { in_turn = record { bytes = bytes; read = stays-read orders.name.now bytes read; holds = good }; long = long-after trades.name.now long }))
    trades_decide bytes (Err stop.Memory) read good last of_logs is = tt
