-- What filing a case leaves of a keeper.
use Rattle.std.specs.Prelude.{◌≡◌, List, [], ◌∷◌, ◌++◌, Option, Some, None, is_some, IfSome, Result, IfOk, OnOk, if◌then◌else◌}
use Rattle.std.specs.Option.{option_map, option_map_or}
use Rattle.case_keeper.specs.Cases.{kept_case}
use Rattle.case_keeper.specs.Keepers.{KeeperState, CountsKeeperFaults}
use Rattle.case_keeper.specs.declared.case.Case.{Case}
use Rattle.case_keeper.specs.declared.casebook.Filed.{Filed}
use Rattle.case_keeper.specs.declared.casebook.Filed.TheVariants.{Kept, Known}
use Rattle.case_keeper.specs.declared.keeper.KeepFault.{KeepFault}

-- what filing a case over these cases answers: the case that was there under its label, or that
-- there was none, so that the case itself is kept now
abbrev pub filing : List Case → Case → Filed
filing cases case = option_map_or Known (kept_case cases case.label) Kept

-- the cases after it: the case is put after the others, unless its label had a case
abbrev pub cases_after_filing : List Case → Case → List Case
cases_after_filing cases case =
    if is_some (kept_case cases case.label) then cases else cases ++ case ∷ []

-- the case that an answer carries
abbrev pub known_case : Filed → Option Case
known_case Kept = None
known_case (Known case) = Some case

-- What filing a case does: a case that the answer carries has its label; where the cases are
-- known, the answer and the cases afterwards are those of the filing.
pub record FilesCase (old new : KeeperState) (result : Result Filed KeepFault) (case : Case)
    : Type 0 where
  pub accounts : CountsKeeperFaults old new result
  pub labelled : IfOk result (λ filed.
      IfSome (known_case filed) (λ known. known.label ≡ case.label))
  pub known : IfOk result (λ filed. IfSome old.cases (λ cases. filed ≡ filing cases case))
  pub cases_are : OnOk result
      (new.cases ≡ option_map (λ cases. cases_after_filing cases case) old.cases)
