-- Two logs that are read in turn, whatever is in them: from what is decided of each to the whole call.
use Rattle.std.proofs.Common.{◌<◌, ◌≡◌, ◌≤◌, ◌⊎◌, ◌∙◌, sym, subst, refl, inl, inr, true, ℕ, List, [], ◌∷◌, length, Option, None, Result, Ok, Err}
use Rattle.std.specs.Prelude.{IsSomeAnd}
use Rattle.audit_base.specs.declared.terms.Which.TheVariants.{Orders, Trades}
use Rattle.audit_report.specs.declared.statuses.Status.{Status}
use Rattle.log_source.specs.Calls.{count_after}
use Rattle.log_source.specs.Sources.{Slot, RoseOrIsFull}
use Rattle.log_verdict.specs.declared.stops.Stop.{Stop}
use Rattle.log_verdict.specs.declared.stops.Stop.TheVariants as stop
use Rattle.log_verdict.specs.BothLogs.{IsLogStop, StaysWithin, StaysWithinAt}
use Rattle.log_verdict.specs.Collecting.{TouchesOnly}
use Rattle.log_verdict.specs.Steps.{Reading, EndsWithin, FaultsNeverFall, IsRead, IsReadFault, IsTooLong, step_of}
use Rattle.command_run.specs.declared.answers.Answer.{Answer}
use Rattle.command_run.specs.Commands.{Command, StartsAnyTwo}
use Rattle.command_run.specs.Deciding.{DecidesAnswer, DecidesBytes, IsStatusOfLogs, ReadingStops}
use Rattle.command_run.specs.InTurn.{ReadsInTurn, reading_of_both}
use Rattle.command_run.specs.Runs.{ReadsThenStarts}
use Rattle.command_run.proofs.EarlyLemmas.{line-alone}
use Rattle.command_run.proofs.OneLogLemmas.{one-reaches, text-of}
use Rattle.command_run.proofs.StepLemmas.{two-lead}

-- where the order log was not read, the command has started no other
pub stops-first : (r : Reading) (command : Command) (orders trades : List ℕ) (the_stop : Stop) → TouchesOnly r Orders → StartsAnyTwo command orders trades → IsLogStop r Orders orders the_stop
    → ReadingStops r command the_stop
stops-first r command orders trades (stop.ReadFault log) only starts is =
    rw is.0 (record { last = step_of r Orders orders; reads = one-reaches r command Orders orders only starts.first; cause = is.1; text_is = line-alone r command command.writes_early _ _ _ })
stops-first r command orders trades (stop.TooLong log) only starts is =
    rw is.0 (record { last = step_of r Orders orders; reads = one-reaches r command Orders orders only starts.first; cause = is.1; text_is = line-alone r command command.writes_early _ _ _ })
stops-first r command orders trades stop.Memory only starts is = tt

ends-within : (r : Reading) → (r.after Orders).taken ≤ r.limit → (r.after Trades).taken ≤ r.limit → EndsWithin r
ends-within r orders trades Orders = orders
ends-within r orders trades Trades = trades

module _ (first second : Reading) (on : ReadsInTurn first second) where
  abbrev whole : Reading
  whole = reading_of_both first second

  -- the slot of the order log stays as the first reading left it
  orders-stay : second.after Orders ≡ first.after Orders
  orders-stay = on.trades.other ∙ on.begins Orders

  -- the slot of the trade log is as the first reading found it
  trades-stay : second.before Trades ≡ first.before Trades
  trades-stay = on.begins Trades ∙ on.orders.other

  pub later-in_turn : FaultsNeverFall whole
  later-in_turn Orders = rw orders-stay on.orders.later
  later-in_turn Trades = rw (← trades-stay) on.trades.later

  pub within-in_turn : (result : Result Answer Stop) → (first.after Orders).taken ≤ first.limit → StaysWithinAt second Trades result → StaysWithin whole result
  within-in_turn result orders (inl stop) begins = inl stop
  within-in_turn result orders (inr trades) begins =
      inr (ends-within whole (subst (λ (s : Slot). s.taken ≤ first.limit) (sym orders-stay) orders) (subst (λ (n : ℕ). (second.after Trades).taken ≤ n) on.limit trades))

  -- the order log stays read while the trade log is
  stays-read : (name bytes : List ℕ) → IsRead first (step_of first Orders name) bytes → IsRead whole (step_of whole Orders name) bytes
  stays-read name bytes is = record {
    once = rw orders-stay is.once;
    started = rw orders-stay is.started;
    at_end = rw orders-stay is.at_end;
    within = is.within;
    taken = rw orders-stay is.taken;
    given = rw orders-stay is.given;
    known = is.known;
  }

  once-after : (second.after Trades).starts ≡ count_after (second.before Trades).starts → (second.after Trades).starts ≡ count_after (first.before Trades).starts
  once-after once = subst (λ (s : Slot). (second.after Trades).starts ≡ count_after s.starts) trades-stay once

  -- the trade log is read in the whole call as in its part
  read-after : (name bytes : List ℕ) → IsRead second (step_of second Trades name) bytes → IsRead whole (step_of whole Trades name) bytes
  read-after name bytes is = record {
    once = once-after is.once;
    started = is.started;
    at_end = is.at_end;
    within = subst (λ (n : ℕ). length bytes ≤ n) on.limit is.within;
    taken = is.taken;
    given = is.given;
    known = λ t. sym (on.logs Trades name) ∙ is.known (on.tells ∙ t);
  }

  fault-after : (name : List ℕ) → IsReadFault second (step_of second Trades name) → IsReadFault whole (step_of whole Trades name)
  fault-after name is = record { once = once-after is.once; cause = by-cause is.cause }
    where
      by-cause : RoseOrIsFull (second.before Trades).faults (second.after Trades).faults ⊎ ((second.tells ≡ true) × (second.log_of Trades name ≡ None))
          → RoseOrIsFull (first.before Trades).faults (second.after Trades).faults ⊎ ((first.tells ≡ true) × (first.log_of Trades name ≡ None))
      by-cause (inl rose) = inl (rw (← trades-stay) rose)
      by-cause (inr (t, none)) = inr (sym on.tells ∙ t, sym (on.logs Trades name) ∙ none)

  long-after : (name : List ℕ) → IsTooLong second (step_of second Trades name) → IsTooLong whole (step_of whole Trades name)
  long-after name is = record {
    once = once-after is.once;
    taken = subst (λ (n : ℕ). n < (second.after Trades).taken) on.limit is.taken;
    longer = λ t. subst (λ (n : ℕ). IsSomeAnd (first.log_of Trades name) (λ bytes. n < length bytes)) on.limit
        (subst (λ (o : Option (List ℕ)). IsSomeAnd o (λ bytes. second.limit < length bytes)) (on.logs Trades name) (is.longer (on.tells ∙ t)));
  }

  module _ (command : Command) (orders trades bytes : List ℕ) (starts : StartsAnyTwo command orders trades) (read : IsRead first (step_of first Orders orders) bytes) where
    -- the trade log was started after the order log
    reaches-second : ReadsThenStarts whole command (step_of whole Trades trades)
    reaches-second = record {
      steps = step_of whole Orders orders ∷ [];
      logs = bytes ∷ [];
      lead = two-lead whole orders trades later-in_turn;
      read = (bytes, record { next = starts.first; read = stays-read orders bytes read }, refl);
      next = starts.second bytes;
    }

    pub decides-second : (result : Result Answer Stop) → ((logs : List (List ℕ)) (s : Status) (text : List ℕ) → command.is_answer logs s text → IsStatusOfLogs s)
        → DecidesBytes second Trades trades (λ later. command.is_answer (bytes ∷ later ∷ [])) result → DecidesAnswer whole command result
    decides-second (Ok answer) answers is =
        text-of whole command answer.status answer.text.items (answers (bytes ∷ is.bytes ∷ []) answer.status answer.text.items is.holds)
        (record {
          steps = step_of whole Orders orders ∷ step_of whole Trades trades ∷ [];
          logs = bytes ∷ is.bytes ∷ [];
          lead = two-lead whole orders trades later-in_turn;
          read = (
            bytes,
            record { next = starts.first; read = stays-read orders bytes read },
            (is.bytes, record { next = starts.second bytes; read = read-after trades is.bytes is.read }, refl),
          );
          all = starts.last bytes is.bytes;
          answer = is.holds;
        })
    decides-second (Err (stop.ReadFault log)) answers is =
        rw is.0 (record { last = step_of whole Trades trades; reads = reaches-second; cause = fault-after trades is.1; text_is = line-alone whole command command.writes_early _ _ _ })
    decides-second (Err (stop.TooLong log)) answers is =
        rw is.0 (record { last = step_of whole Trades trades; reads = reaches-second; cause = long-after trades is.1; text_is = line-alone whole command command.writes_early _ _ _ })
    decides-second (Err stop.Memory) answers is = tt
