-- What a command may write before it has read all, by whether it writes while it reads.
use Rattle.std.proofs.Common.{◌≡◌, ◌⊎◌, refl, inl, inr, ℕ, Bool, true, false, List, [], length, Option, None, Some, arith}
use Rattle.std.specs.Prelude.{IfSome}
use Rattle.std.specs.Io.{StartsWith}
use Rattle.audit_report.specs.declared.statuses.Status.{Status}
use Rattle.audit_report.specs.declared.statuses.Status.TheVariants.{Memory}
use Rattle.log_source.specs.Sinks.{SinkState}
use Rattle.command_run.specs.Commands.{Command}
use Rattle.command_run.specs.Early.{IsTextOfStop}
use Rattle.command_run.specs.Runs.{IsDecidedText, IsTextBegun, RunsOutBefore, WritesBeforeMemory}
use Rattle.log_verdict.specs.Steps.{Reading, LogStep}

nothing-first : (log : Option (List ℕ)) → IfSome log (λ bytes. StartsWith bytes [])
nothing-first None = tt
nothing-first (Some bytes) = refl

module _ (r : Reading) (command : Command) where
  -- where nothing was written before, the line stands alone
  pub line-alone : (early : Bool) (earlier : List (List ℕ)) (last : LogStep) (line : List ℕ) → IsTextOfStop early r command earlier last line line
  line-alone false earlier last line = refl
  line-alone true earlier last line = record {
    early = [];
    is_early = record {
      front = [];
      read = record { taken = omega arith; known = λ t. nothing-first (r.log_of last.log last.name) };
      begins = λ more later status answer is. refl;
    };
    text_is = refl;
  }

  -- a text that is decided may have been begun
  pub begun-decided : (early : Bool) (text : List ℕ) → IsDecidedText r command text → IsTextBegun early r command text
  begun-decided false text is = is
  begun-decided true text is = inl is

  -- where memory ran out, nothing may have been written
  pub nothing-before : (early : Bool) (old new : SinkState) → new ≡ old → WritesBeforeMemory early r command old new
  nothing-before false old new same = same
  nothing-before true old new same = inl same

module _ (command : Command) (logs : List (List ℕ)) where
  pub nothing-out : (early : Bool) (old : SinkState) → RunsOutBefore early command logs old old Memory
  nothing-out false old = record { status_is = refl; nothing = refl }
  nothing-out true old = record { status_is = refl; front = inl refl }

  pub status-out : (early : Bool) (old new : SinkState) (status : Status) → RunsOutBefore early command logs old new status → status ≡ Memory
  status-out false old new status is = is.status_is
  status-out true old new status is = is.status_is
