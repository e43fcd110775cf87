-- The cases that were filed so far are behind those on file.
use Rattle.std.proofs.Common.{◌≡◌, ◌++◌, ℕ, List, take}
use Rattle.digest_keeper.specs.KeptCases.{KeptLabelsDiffer, all_kept_of}
use Rattle.digest_keeper.specs.declared.digested.DigestedCase.{DigestedCase}
use Rattle.digest_keeper.specs.declared.digested.KeptCase.{KeptCase}
use Rattle.digest_keeper.proofs.map_digest_keeper.with_all.Given as goal

pub record HasFiled (kept : List KeptCase) (filed : List DigestedCase) (made : List KeptCase) (count : ℕ) : Type 0 where
  pub is : made ≡ kept ++ all_kept_of (take count filed)
  pub apart : KeptLabelsDiffer made

abbrev pub invariant-loop-digested : goal.invariant-loop-digested
invariant-loop-digested l = HasFiled l.kept l.filed l.made.items l.digested-index
