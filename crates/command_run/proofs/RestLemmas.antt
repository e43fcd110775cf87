-- What is written behind a text that was written while logs were read.
use Rattle.std.proofs.Common.{◌≡◌, sym, subst, inl, inr, refl, ℕ, ◌+◌, ◌<◌, Bool, true, false, List, ◌++◌, length, take, arith, length-append}
use Rattle.std.proofs.KnownBytes.{Appends-trans}
use Rattle.std.proofs.Math.Seq.{take-append-add}
use Rattle.std.specs.Io.KnownBytes.{Appends}
use Rattle.audit_report.specs.declared.statuses.Status.{Status}
use Rattle.audit_report.specs.declared.statuses.Status.TheVariants as status
use Rattle.audit_report.specs.Lines.{read_fault_line, too_long_line}
use Rattle.log_source.specs.Sinks.{AppendsPart, SinkState}
use Rattle.log_verdict.specs.declared.stops.Stop.{Stop}
use Rattle.log_verdict.specs.declared.stops.Stop.TheVariants as stop
use Rattle.log_verdict.specs.Steps.{Reading}
use Rattle.command_run.specs.Commands.{Command}
use Rattle.command_run.specs.Deciding.{RestStops}
use Rattle.command_run.specs.Runs.{AnswersCommand, IsEarlyText, ReadingDecides, WritesBeforeMemory}
use Rattle.command_run.specs.Writing.{AnswersStop, AnswersText, HasWritten}
use Rattle.command_run.proofs.RunLemmas.{answers_text}
use Rattle.command_run.proofs.StepLemmas.{rose-earlier}

module _ (r : Reading) (command : Command) (before old new : SinkState) (early : List ℕ) (has : HasWritten before old early) where
  part-behind : (text : List ℕ) → AppendsPart old.wrote new.wrote text → AppendsPart before.wrote new.wrote (early ++ text)
  part-behind text part = record {
    count = length early + part.count;
    short = omega (arith, part.short, length-append early text);
    part = subst (λ (t : List ℕ). Appends before.wrote new.wrote t) (sym (take-append-add early text part.count))
        (Appends-trans before.wrote old.wrote new.wrote early (take part.count text) has.wrote part.part);
  }

  text-behind : (the_status : Status) (text : List ℕ) (result : Status) → AnswersText old new the_status text result → AnswersText before new the_status (early ++ text) result
  text-behind the_status text result (inl all) = inl (record { status_is = all.status_is; wrote = Appends-trans before.wrote old.wrote new.wrote early text has.wrote all.wrote })
  text-behind the_status text result (inr part) = inr (record {
    status_is = part.status_is;
    wrote = part-behind text part.wrote;
    cause = record { rose = rose-earlier before.faults old.faults new.faults has.stays.later part.cause.rose; reached = part.cause.reached };
  })

  pub rest-text : (the_status : Status) (text : List ℕ) (result : Status) → ReadingDecides r command the_status (early ++ text) → AnswersText old new the_status text result → AnswersCommand r command before new result
  rest-text the_status text result is writes = answers_text r command before new the_status (early ++ text) result is (text-behind the_status text result writes)

  memory-behind : (writes : Bool) → writes ≡ true → IsEarlyText r command early → Appends before.wrote new.wrote early → WritesBeforeMemory writes r command before new
  memory-behind true e is wrote = inr (record { text = early; is = is; wrote = wrote })
  memory-behind false e is wrote = absurd (other e)
    where
      other : false ≡ true → ⊥
      other e = cc

  pub rest-stop : command.writes_early ≡ true → (the_stop : Stop) (result : Status) → RestStops r command early the_stop → AnswersStop old new the_stop result → AnswersCommand r command before new result
  rest-stop e (stop.ReadFault log) result is writes = rest-text status.ReadFault (read_fault_line log) result is writes
  rest-stop e (stop.TooLong log) result is writes = rest-text status.TooLong (too_long_line log) result is writes
  rest-stop e stop.Memory result is writes =
      let wrote : Appends before.wrote new.wrote early = subst (λ (s : SinkState). Appends before.wrote s.wrote early) (sym writes.nothing) has.wrote in
      rw writes.status_is (memory-behind command.writes_early e is wrote)
