-- What a keeper of cases with digests holds before and after a find and a filing.
use Rattle.std.specs.Prelude.{◌≡◌, ℕ, ◌≤◌, List, ◌++◌, Option, IfSome, Result, IfOk, OnOk, OnErr, IsErrOf}
use Rattle.std.specs.Option.{option_map}
use Rattle.case_keeper.specs.declared.keeper.KeepFault.{KeepFault}
use Rattle.case_keeper.specs.declared.keeper.KeepFault.TheVariants as fault
use Rattle.log_source.specs.Sources.{RoseOrIsFull}
use Rattle.digest_keeper.specs.KeptCases.{KeptLabelsDiffer, kept_under, all_kept_of}
use Rattle.digest_keeper.specs.declared.digested.DigestedCase.{DigestedCase}
use Rattle.digest_keeper.specs.declared.digested.KeptCase.{KeptCase}

-- The state of a keeper of cases with digests: what is on file in the order of filing, where it
-- is known, and how many faults were counted.
pub record DigestKeeperState : Type 0 where
  pub kept : Option (List KeptCase)
  pub faults : ℕ

-- no two cases on file have one label, where it is known what is on file
abbrev pub KnownKeptLabelsDiffer : DigestKeeperState → Type 0
KnownKeptLabelsDiffer state = IfSome state.kept KeptLabelsDiffer

-- What every call leaves: the faults never fall, it failed only where they rose or their count is
-- at its greatest value, and after a fault what is on file is as before.
pub record CountsDigestFaults {T : Type 0} (old new : DigestKeeperState)
    (result : Result T KeepFault) : Type 0 where
  pub later : old.faults ≤ new.faults
  pub cause : IsErrOf result fault.Failed → RoseOrIsFull old.faults new.faults
  pub stays : OnErr result (new.kept ≡ old.kept)

-- What finding a label does: a case that is given has it, and it and its digests are those kept
-- under the label where it is known what is on file, which stays.
pub record FindsKept (old new : DigestKeeperState) (result : Result (Option KeptCase) KeepFault)
    (label : List ℕ) : Type 0 where
  pub accounts : CountsDigestFaults old new result
  pub stays : new.kept ≡ old.kept
  pub labelled : IfOk result (λ found. IfSome found (λ kept. kept.case.label ≡ label))
  pub known : IfOk result (λ found. IfSome old.kept (λ kept. found ≡ kept_under kept label))

-- What filing a list of cases does: they are put after the others, each with its digests, or after
-- a fault none of them is.
pub record FilesAll {T : Type 0} (old new : DigestKeeperState) (result : Result T KeepFault)
    (filed : List DigestedCase) : Type 0 where
  pub accounts : CountsDigestFaults old new result
  pub appended : OnOk result
      (new.kept ≡ option_map (λ kept. kept ++ all_kept_of filed) old.kept)
