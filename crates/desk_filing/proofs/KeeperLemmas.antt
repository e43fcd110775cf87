-- What a keeper was asked, and what filing cases answers.
use Rattle.std.proofs.Common.{◌≡◌, ◌∙◌, sym, ap, subst, refl, inl, inr, ℕ, ◌≤◌, List, [], ◌∷◌, ◌++◌, Option, None, Some, Ok, Err, arith}
use Rattle.std.specs.Prelude.{IfSome}
use Rattle.std.specs.Option.{option_map, option_or}
use Rattle.case_keeper.specs.declared.keeper.KeepFault.{KeepFault}
use Rattle.case_keeper.specs.declared.keeper.KeepFault.TheVariants as fault
use Rattle.case_run.specs.Lines.{case_line, known_line}
use Rattle.case_run.specs.Turns.{halt_of_keeper}
use Rattle.case_run.specs.declared.halts.Halt.TheVariants as halt
use Rattle.case_run.specs.declared.statuses.CaseStatus.TheVariants as status
use Rattle.digest_keeper.specs.DigestKeepers.{DigestKeeperState, FilesAll, FindsKept}
use Rattle.digest_keeper.specs.KeptCases.{all_kept_of, kept_under}
use Rattle.digest_keeper.specs.declared.digested.DigestedCase.{DigestedCase}
use Rattle.digest_keeper.specs.declared.digested.KeptCase.{KeptCase}
use Rattle.desk_filing.specs.Steps.{AnswersAsFiled, FilesCases, FindsFirst, FoundNoneSoFar, StopsKeeping, case_lines}
use Rattle.desk_filing.specs.Turns.{filed_turn_by, first_known}
use Rattle.case_run.specs.declared.answers.CaseAnswer.{CaseAnswer}
use Rattle.log_source.specs.Sources.{RoseOrIsFull}

pub rose_earlier : (a b c : ℕ) → a ≤ b → RoseOrIsFull b c → RoseOrIsFull a c
rose_earlier a b c le (inl lt) = inl (omega arith)
rose_earlier a b c le (inr top) = inr top

-- what was found under a label is what is on file
pub known_at : (told : Option (List KeptCase)) (kept : List KeptCase) (found : Option KeptCase) (label : List ℕ) → IfSome told (λ on_file. found ≡ kept_under on_file label) → told ≡ Some kept → found ≡ kept_under kept label
known_at told kept found label known is = subst (λ (t : Option (List KeptCase)). IfSome t (λ on_file. found ≡ kept_under on_file label)) is known

module _ (old now new : DigestKeeperState) (cases rest : List DigestedCase) (so : FoundNoneSoFar old now cases rest) where
  -- the keeper failed
  pub first_failed : (f : KeepFault) (label : List ℕ) → FindsKept now new (Err f) label → FindsFirst old new cases (Err f)
  first_failed f label finds = record {
    later = omega (arith, so.later, finds.accounts.later);
    cause = λ e. rose_earlier old.faults now.faults new.faults so.later (finds.accounts.cause e);
    stays = finds.stays ∙ so.stays;
    known = tt;
  }

  module _ (one : DigestedCase) (others : List DigestedCase) (is : rest ≡ one ∷ others) where
    -- a label has a case
    pub first_found : (known : KeptCase) → FindsKept now new (Ok (Some known)) one.case.label → FindsFirst old new cases (Ok (Some known))
    first_found known finds = record {
      later = omega (arith, so.later, finds.accounts.later);
      cause = λ e. cc;
      stays = finds.stays ∙ so.stays;
      known = λ kept has.
          sym (so.left kept has ∙ ap (first_known kept) is
          ∙ ap (λ (k : Option KeptCase). option_or k (first_known kept others)) (sym (known_at now.kept kept (Some known) one.case.label finds.known (so.stays ∙ has))));
    }

    -- it has none, and the others are left
    pub first_more : FindsKept now new (Ok None) one.case.label → FoundNoneSoFar old new cases others
    first_more finds = record {
      later = omega (arith, so.later, finds.accounts.later);
      stays = finds.stays ∙ so.stays;
      left = λ kept has.
          so.left kept has ∙ ap (first_known kept) is
          ∙ ap (λ (k : Option KeptCase). option_or k (first_known kept others)) (sym (known_at now.kept kept None one.case.label finds.known (so.stays ∙ has)));
    }

  -- no label has a case
  pub first_none : rest ≡ [] → FindsFirst old now cases (Ok None)
  first_none is = record {
    later = so.later;
    cause = λ e. cc;
    stays = so.stays;
    known = λ kept has. sym (so.left kept has ∙ ap (first_known kept) is);
  }

-- a label was known
pub files_known : (old new : DigestKeeperState) (cases : List DigestedCase) (known : KeptCase) (answer : CaseAnswer) → FindsFirst old new cases (Ok (Some known)) → answer.status ≡ status.Refused → answer.text.items ≡ known_line ++ case_line known.case
    → FilesCases old new cases answer
files_known old new cases known answer finds status_is text_is = record {
  known = λ kept has.
      subst (λ (f : Option KeptCase). AnswersAsFiled (filed_turn_by kept cases f) new answer) (finds.known kept has)
      (record { status_is = sym status_is; text_is = sym text_is; kept_is = finds.stays ∙ has });
  stays = λ e. finds.stays;
  of_keeper = inr status_is;
}

-- the cases were filed
pub files_new : (old mid new : DigestKeeperState) (cases : List DigestedCase) (answer : CaseAnswer) → FindsFirst old mid cases (Ok None) → FilesAll {T = Unit {0}} mid new (Ok tt) cases → answer.status ≡ status.Done → answer.text.items ≡ case_lines cases
    → FilesCases old new cases answer
files_new old mid new cases answer finds files status_is text_is = record {
  known = λ kept has.
      subst (λ (f : Option KeptCase). AnswersAsFiled (filed_turn_by kept cases f) new answer) (finds.known kept has)
      (record {
        status_is = sym status_is;
        text_is = sym text_is;
        kept_is = files.appended ∙ ap (option_map (λ (kept : List KeptCase). kept ++ all_kept_of cases)) (finds.stays ∙ has);
      });
  stays = λ e. absurd (e status_is);
  of_keeper = inl status_is;
}

-- the keeper did not find
pub stops_finding : (old new : DigestKeeperState) (cases : List DigestedCase) (f : KeepFault) → FindsFirst old new cases (Err f) → StopsKeeping old new (halt_of_keeper f)
stops_finding old new cases fault.Failed finds = record { fault = λ e. finds.cause refl; of_keeper = inl refl; stays = finds.stays }
stops_finding old new cases fault.Memory finds = record { fault = λ e. cc; of_keeper = inr refl; stays = finds.stays }

-- or did not file
pub stops_filing : (old mid new : DigestKeeperState) (cases : List DigestedCase) (f : KeepFault) → FindsFirst old mid cases (Ok None) → FilesAll {T = Unit {0}} mid new (Err f) cases → StopsKeeping old new (halt_of_keeper f)
stops_filing old mid new cases fault.Failed finds files =
    record { fault = λ e. rose_earlier old.faults mid.faults new.faults finds.later (files.accounts.cause refl); of_keeper = inl refl; stays = files.accounts.stays ∙ finds.stays }
stops_filing old mid new cases fault.Memory finds files = record { fault = λ e. cc; of_keeper = inr refl; stays = files.accounts.stays ∙ finds.stays }

-- or memory ran out for the line of a known case
pub stops_memory : (old new : DigestKeeperState) (cases : List DigestedCase) (found : Option KeptCase) → FindsFirst old new cases (Ok found) → StopsKeeping old new halt.Memory
stops_memory old new cases found finds = record { fault = λ e. cc; of_keeper = inr refl; stays = finds.stays }
