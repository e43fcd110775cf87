-- An opener of which nothing is known has opened a path where it gives a keeper that has counted
-- no fault.
use Rattle.std.proofs.Common.{◌≡◌, sym, ◌∙◌, refl, arith, ℕ, true, false, List, Ok, Err}
use Rattle.case_keeper.specs.Keepers.{KeeperState}
use Rattle.case_keeper.specs.declared.keeper.KeepFault.TheVariants.{Failed}
use Rattle.case_run.specs.Openers.{OpenerState, OpensCasebook}

pub opens_untold : {B : Type 0} (state : B → KeeperState) (old : OpenerState) (path : List ℕ) (book : B)
    → (state book).faults ≡ 0 → old.tells ≡ false → OpensCasebook state old old path (Ok book)
opens_untold state old path book fresh silent =
    record {
      keeps = record { tells_stays = refl; kept_stays = (λ path. refl); later = omega arith };
      opened = record { fresh = fresh; known = (λ tells. absurd (true_is_false (sym tells ∙ silent))) };
      cause = (λ failed. absurd (opened_is_refused failed));
    }
  where
    true_is_false : true ≡ false → ⊥
    true_is_false is = cc

    opened_is_refused : Ok book ≡ Err Failed → ⊥
    opened_is_refused is = cc
