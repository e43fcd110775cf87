-- An opener of which nothing is known has opened a path where it gives a keeper that has counted
-- no fault; and what it asks of the system where nothing is opened.
use Rattle.std.proofs.Common.{◌≡◌, sym, ◌∙◌, refl, arith, ℕ, true, false, List, Option, Ok, Err}
use Rattle.case_keeper.specs.declared.keeper.KeepFault.TheVariants.{Failed}
use Rattle.digest_keeper.specs.DigestKeepers.{DigestKeeperState}
use Rattle.desk_filing.specs.DigestOpeners.{DigestOpenerState, OpensDatabase}
use Rattle.desk_filing.specs.declared.opener.MissingDatabase.{MissingDatabase}
use Rattle.casebook_program.specs.SystemCalls.{KnownCalls}
use Rattle.casebook_program.specs.declared.database_files.DatabaseFile.{DatabaseFile}
use Rattle.digest_database_files.specs.FileDigestOpeners.{AsksWhereItMay, OpensWhereItMay}

pub opens_untold : {B : Type 0} (state : B → DigestKeeperState) (old : DigestOpenerState) (path : List ℕ) (missing : MissingDatabase) (book : B)
    → (state book).faults ≡ 0 → old.tells ≡ false → OpensDatabase state old old path missing (Ok book)
opens_untold state old path missing book fresh silent =
    record {
      keeps = record { tells_stays = refl; kept_stays = (λ path. refl); later = omega arith };
      opened = record { fresh = fresh; known = (λ tells. absurd (true_is_false (sym tells ∙ silent))) };
      cause = (λ failed. absurd (opened_is_refused failed));
    }
  where
    true_is_false : true ≡ false → ⊥
    true_is_false is = cc

    opened_is_refused : Ok book ≡ Err Failed → ⊥
    opened_is_refused is = cc

pub asks_unopened : (path : List ℕ) (missing : MissingDatabase) (place : Option DatabaseFile) (old new : KnownCalls)
    → AsksWhereItMay path missing false old new → OpensWhereItMay path missing false place old new
asks_unopened path missing place old new asks =
    record { may = asks.may; mid = asks.mid; looked = asks.looked; asked = asks.asked }
