-- What a keeper holds before and after a find, an addition and a list.
use Rattle.std.specs.Prelude.{◌≡◌, ℕ, ◌≤◌, List, [], ◌∷◌, ◌++◌, Option, None, IfSome, Result, IfOk, OnOk, OnErr, IsErrOf, All, IsTrue}
use Rattle.std.specs.Option.{option_map}
use Rattle.log_source.specs.Sources.{RoseOrIsFull}
use Rattle.case_keeper.specs.Cases.{LabelsDiffer, kept_case, passes_filter, passing_cases}
use Rattle.case_keeper.specs.declared.case.Case.{Case}
use Rattle.case_keeper.specs.declared.case.Filter.{Filter}
use Rattle.case_keeper.specs.declared.keeper.KeepFault.{KeepFault}
use Rattle.case_keeper.specs.declared.keeper.KeepFault.TheVariants as fault

-- The state of a keeper: its cases in the order of filing, where they are known, and how many
-- faults were counted.
pub record KeeperState : Type 0 where
  pub cases : Option (List Case)
  pub faults : ℕ

-- no two of the cases have one label, where they are known
abbrev pub KnownLabelsDiffer : KeeperState → Type 0
KnownLabelsDiffer state = IfSome state.cases LabelsDiffer

-- no case has this label, where the cases are known
abbrev pub LacksLabel : KeeperState → List ℕ → Type 0
LacksLabel state label = IfSome state.cases (λ cases. kept_case cases label ≡ None)

-- What every call leaves: the faults never fall, it failed only where they rose or their count is
-- at its greatest value, and after a fault the cases are as before.
pub record CountsKeeperFaults {T : Type 0} (old new : KeeperState) (result : Result T KeepFault)
    : Type 0 where
  pub later : old.faults ≤ new.faults
  pub cause : IsErrOf result fault.Failed → RoseOrIsFull old.faults new.faults
  pub stays : OnErr result (new.cases ≡ old.cases)

-- What finding a label does: a case that is given has it, and is the one kept under it where
-- the cases are known. The cases stay.
pub record FindsLabel (old new : KeeperState) (result : Result (Option Case) KeepFault)
    (label : List ℕ) : Type 0 where
  pub accounts : CountsKeeperFaults old new result
  pub stays : new.cases ≡ old.cases
  pub labelled : IfOk result (λ found. IfSome found (λ case. case.label ≡ label))
  pub known : IfOk result (λ found. IfSome old.cases (λ cases. found ≡ kept_case cases label))

-- What adding a case does: it is put after the others.
pub record AddsCase {T : Type 0} (old new : KeeperState) (result : Result T KeepFault)
    (case : Case) : Type 0 where
  pub accounts : CountsKeeperFaults old new result
  pub appended : OnOk result (new.cases ≡ option_map (λ cases. cases ++ case ∷ []) old.cases)

-- What listing does: each case given passes the filter, and they are all that pass, in their
-- order, where the cases are known. The cases stay.
pub record ListsCases (old new : KeeperState) (result : Result (List Case) KeepFault)
    (filter : Filter) : Type 0 where
  pub accounts : CountsKeeperFaults old new result
  pub stays : new.cases ≡ old.cases
  pub passing_only : IfOk result (λ given. All (λ case. IsTrue (passes_filter filter case)) given)
  pub known : IfOk result (λ given. IfSome old.cases (λ cases. given ≡ passing_cases filter cases))
