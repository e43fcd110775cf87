-- What holds of each member of a list holds of the first that is found.
use Rattle.std.proofs.Common.{◌≡◌, Bool, true, false, cond, List, [], ◌∷◌, All, Some, subst}
use Rattle.std.specs.Prelude.{find}
use Rattle.std.proofs.lemmas.List.Elements.{All-head, All-tail}
use Rattle.std.proofs.lemmas.Option.{none-some, same_Some}

-- what holds of each member holds of the one that is found
pub found-holds : {X : Type 0} (P : X → Type 0) (test : X → Bool) (xs : List X) (x : X) → All P xs → find test xs ≡ Some x → P x
found-holds P test [] x all e = absurd (none-some x e)
found-holds {X} P test (y ∷ ys) x all e = head (test y) e (found-holds P test ys x (All-tail P y ys all))
  where
    head : (b : Bool) → cond b (Some y) (find test ys) ≡ Some x → (find test ys ≡ Some x → P x) → P x
    head true e behind = subst P (same_Some y x e) (All-head P y ys all)
    head false e behind = behind e
