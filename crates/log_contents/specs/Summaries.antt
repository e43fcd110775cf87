-- What is told of a log, whatever its records are.
use Rattle.std.specs.Prelude.{◌≡◌, ℕ, List, map}
use Rattle.audit_base.specs.Moments.{Moment}
use Rattle.day_symbols.specs.Symbols.{distinct_names}
use Rattle.log_contents.specs.declared.summaries.Summary.{Summary}
use Rattle.log_contents.specs.Counts.{HasCounted}
use Rattle.log_contents.specs.Facts.{AreWithin}

-- What a log has, in its order: the kind of each message or record, those that are passed over
-- too, and of each record that is read its symbol and its time.
pub record LogItems : Type 0 where
  pub kinds : List (List ℕ)
  pub symbols : List (List ℕ)
  pub times : List Moment

-- what a log with these kinds and these records has
abbrev pub log_items : {R : Type 0} → (R → List ℕ) → (R → Moment) → List (List ℕ) → List R
    → LogItems
log_items symbol_of time_of kinds entries =
    record { kinds = kinds; symbols = map symbol_of entries; times = map time_of entries }

-- The kinds of a log that has this were counted, its symbols are kept, each once in the order in
-- which each appears first, and its least and its greatest time.
pub record IsSummaryOf (items : LogItems) (summary : Summary) : Type 0 where
  pub kinds : HasCounted summary.kinds items.kinds
  pub symbols : summary.symbols ≡ distinct_names items.symbols
  pub times : AreWithin items.times summary.times
