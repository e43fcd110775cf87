-- Whether a tag is there.
use Rattle.std.proofs.Common.{◌≡◌, ℕ, Bool, true, false, Option, Some, None, Result, Ok, Err, List, [], ◌∷◌, refl}
use Rattle.fix_messages.specs.declared.meanings.MessageFault.{MessageFault}
use Rattle.fix_messages.specs.Rows.{is_any, only_of}

-- a tag with this only value is there, once or more often
abbrev pub is_there : Result (Option (List ℕ)) MessageFault → Bool
is_there (Ok None) = false
is_there (Ok (Some value)) = true
is_there (Err fault) = true

pub any-only : (tag : ℕ) (values : List (List ℕ)) → is_there (only_of tag values) ≡ is_any values
any-only tag [] = refl
any-only tag (value ∷ []) = refl
any-only tag (value ∷ next ∷ values) = refl
