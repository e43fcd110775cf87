-- What a program answers to its command line. Each program has a relation of its own between
-- words, what a run reads and writes (before the run, and after it) and the status of the run;
-- and a status which says that memory ran out.
use Rattle.std.specs.Prelude.{◌≡◌, ◌⊎◌, ℕ, List, Option, None}
use Rattle.std.specs.Process.{exit_status}
use Rattle.std.specs.declared.process.ExitCode.{ExitCode}
use Rattle.program_ends.specs.CommandLines.{AreKnownWords}

module _ {W T : Type 0} (Answers : List (List ℕ) → W → W → T → Type 0) (memory : T) where
  -- the answer is the program's own to the words of the command line, which are the known ones
  -- where they are known, or there was no memory for these, and all that a run reads and writes
  -- is as before
  abbrev pub AnswersCommandLine : Option (List (List ℕ)) → W → W → T → Type 0
  AnswersCommandLine known old new status =
      ((status ≡ memory) × (new ≡ old))
      ⊎ ((words : List (List ℕ)) × AreKnownWords known words × Answers words old new status)

  -- such an answer of a run that began as a program does
  abbrev pub AnswersFrom : Option (List (List ℕ)) → (W → Type 0) → W → T → Type 0
  AnswersFrom known Begins new status =
      (old : W) × Begins old × AnswersCommandLine known old new status

  -- the process ends with the number of such an answer
  abbrev pub EndsAsAnswer : (T → ℕ) → Option (List (List ℕ)) → (W → Type 0) → W → ExitCode
      → Type 0
  EndsAsAnswer number known Begins new code =
      (status : T) × (exit_status code ≡ number status) × AnswersFrom known Begins new status

  -- the process ends so where nothing is known of its words, nor of what the run left
  abbrev pub EndsAsSomeAnswer : (T → ℕ) → (W → Type 0) → ExitCode → Type 0
  EndsAsSomeAnswer number Begins code = (new : W) × EndsAsAnswer number None Begins new code
