-- What is read of a day for what is written of it, where each line is read alone and bad messages
-- are passed over.
use Rattle.std.specs.Prelude.{◌≡◌, ℕ, List, [], ◌++◌, Option, None, Some}
use Rattle.std.specs.List.{flat_map}
use Rattle.fix_days.specs.declared.faults.BadMessage.{BadMessage}
use Rattle.fix_days.specs.LinesAlone.{body_of_good, DayMessage, IsReadByLines}

-- The items are those of each message of the day, in order, and behind them those that end it.
pub record HasItems (items_of : DayMessage → List (List ℕ))
    (last_items : List DayMessage → List (List ℕ)) (soh_text day : List ℕ)
    (items : List (List ℕ)) : Type 0 where
  pub messages : List DayMessage
  pub read : IsReadByLines soh_text day messages
  pub are : items ≡ flat_map items_of messages ++ last_items messages

-- what is read of a day, as items; no bad message ends it
abbrev pub IsReadAsItems : (DayMessage → List (List ℕ)) → (List DayMessage → List (List ℕ))
    → List ℕ → List ℕ → List (List ℕ) → Option BadMessage → Type 0
IsReadAsItems items_of last_items soh_text day items None =
    HasItems items_of last_items soh_text day items
IsReadAsItems items_of last_items soh_text day items (Some bad) = ⊥

-- no items
abbrev pub no_items : List DayMessage → List (List ℕ)
no_items messages = []

-- what is read of a day whose bad messages are left out: the bodies of its good ones
abbrev pub IsReadWithoutBad : List ℕ → List ℕ → List (List ℕ) → Option BadMessage → Type 0
IsReadWithoutBad soh_text day bodies bad =
    IsReadAsItems body_of_good no_items soh_text day bodies bad
