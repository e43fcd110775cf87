-- A shelf in memory counts no faults and lacks no log.
use Rattle.std.proofs.Common.{◌≡◌, ◌∙◌, ⊎_elim, inl, inr, refl, ℕ, List, [], length, Some, None, Option, true, arith}
use Rattle.audit_base.specs.declared.terms.Which.{Which}
use Rattle.audit_base.specs.declared.terms.Which.TheVariants.{Orders, Trades}
use Rattle.audit_report.specs.declared.statuses.Status.{Status}
use Rattle.audit_report.specs.declared.statuses.Status.TheVariants as status
use Rattle.log_source.specs.declared.quiet_shelf.QuietShelf.{QuietShelf}
use Rattle.log_source.specs.MemorySinks.{sure_room}
use Rattle.log_source.specs.QuietShelves.{quiet_log, quiet_slot}
use Rattle.log_source.specs.Sinks.{SinkState, SinkStays}
use Rattle.log_source.specs.Sources.{RoseOrIsFull}
use Rattle.command_run.specs.Commands.{Command}
use Rattle.command_run.specs.InMemory.{AnswersInRoom}
use Rattle.command_run.specs.Runs.{AnswersWithCause}
use Rattle.log_verdict.specs.Steps.{Reading}
use Rattle.command_run.proofs.ReadyLemmas.{answer_in_room}
use Rattle.command_run.proofs.StepLemmas.{rose-in}

no_rise : RoseOrIsFull 0 0 → ⊥
no_rise (inl lt) = omega arith
no_rise (inr top) = omega arith

-- what is known of a call over a shelf in memory
abbrev pub quiet_reading : ℕ → QuietShelf → QuietShelf → Reading
quiet_reading limit old new =
    record { limit = limit; tells = true; log_of = λ log _. Some (quiet_log old log); before = quiet_slot old; after = quiet_slot new }

quiet : (old new : QuietShelf) (log : Which) → ¬ RoseOrIsFull (quiet_slot old log).faults (quiet_slot new log).faults
quiet old new Orders rose = no_rise rose
quiet old new Trades rose = no_rise rose

there : (bytes : List ℕ) (x : Option (List ℕ)) → x ≡ Some bytes → x ≡ None → ⊥
there bytes x some none = cc

-- such a sink takes its whole room for sure
pub no_fails : (fails : List ℕ) (room : ℕ) → fails ≡ [] → sure_room fails room ≡ room
no_fails fails room none = rw none refl

module _ {A : Type 0} (command_of : A → Command) (usage : List ℕ) (limit : ℕ) where
  -- a log in memory is read
  pub never_unread : (asked : Option A) (old new : QuietShelf) (before after : SinkState) (result : Status) → AnswersWithCause command_of usage asked (quiet_reading limit old new) before after result
      → result ≡ status.ReadFault → ⊥
  never_unread None old new before after status.ReadFault runs e = absurd runs.0
  never_unread (Some request) old new before after status.ReadFault runs e =
      let stops = runs.is in
      ⊎_elim (λ rose. quiet old new stops.last.log (rose-in (quiet_slot old) stops.reads.steps stops.last (quiet_slot new) stops.reads.lead rose))
      (λ none. there (quiet_log old stops.last.log) _ refl none.1) stops.cause.cause
  never_unread asked old new before after status.Accepted runs e = cc
  never_unread asked old new before after status.Rejected runs e = cc
  never_unread asked old new before after status.Usage runs e = cc
  never_unread asked old new before after status.Malformed runs e = cc
  never_unread asked old new before after status.WriteFault runs e = cc
  never_unread asked old new before after status.TooLong runs e = cc
  never_unread asked old new before after status.Memory runs e = cc

  -- where the sink has room for the answer, it is written
  pub in_room : (asked : Option A) (old new : QuietShelf) (before after : SinkState) (written fails : List ℕ) (room : ℕ) (result : Status) → before.wrote ≡ Some written → before.sure ≡ sure_room fails room
      → SinkStays before after → fails ≡ [] → AnswersWithCause command_of usage asked (quiet_reading limit old new) before after result
      → AnswersInRoom command_of asked (quiet_reading limit old new) (length written) room before after result
  in_room None old new before after written fails room result wrote sure stays none runs = tt
  in_room (Some request) old new before after written fails room result wrote sure stays none runs = λ logs ready.
      answer_in_room (quiet_reading limit old new) (command_of request) logs refl (quiet old new) before after written room result wrote (sure ∙ no_fails fails room none) stays ready runs
