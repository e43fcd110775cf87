-- What it is to hand on more: pieces of bytes to a feed, records to a collector.
use Rattle.std.specs.Prelude.{List, ◌++◌}

-- more was handed on: whatever had been handed a list before has now been
-- handed that list and then this
abbrev pub HandsOnMore : {A : Type 0} → (List A → Type 0) → (List A → Type 0) → List A → Type 0
HandsOnMore before after more = (list : List _) → before list → after (list ++ more)
