-- What is known of the records of a log: their symbols, and from when to when they are.
use Rattle.std.specs.Prelude.{◌≡◌, ℕ, Bool, false, Option, Some, None, List, [], All, Contains, length, map, if◌then◌else◌}
use Rattle.audit_base.specs.Moments.{Moment, is_before}
use Rattle.day_symbols.specs.Symbols.{distinct_names}
use Rattle.log_contents.specs.declared.time_spans.TimeSpan.{TimeSpan}
use Rattle.log_contents.specs.declared.record_facts.RecordFacts.{RecordFacts}

-- the earlier of two times
abbrev pub earlier_of : Moment → Moment → Moment
earlier_of kept time = if is_before time kept then time else kept

-- the later of two times
abbrev pub later_of : Moment → Moment → Moment
later_of kept time = if is_before kept time then time else kept

-- The first of these times is one of them and none is before it; the last is one of them and it
-- is before none.
pub record IsSpanOf (times : List Moment) (span : TimeSpan) : Type 0 where
  pub has_first : Contains times span.first
  pub has_last : Contains times span.last
  pub none_before : All (λ time. is_before time span.first ≡ false) times
  pub none_after : All (λ time. is_before span.last time ≡ false) times

-- there is no time, and no span, or this is their span
abbrev pub AreWithin : List Moment → Option TimeSpan → Type 0
AreWithin times None = times ≡ []
AreWithin times (Some span) = IsSpanOf times span

-- What is known of some records: how many they are, their symbols, each once in the order in
-- which each appears first, and their least and their greatest time.
pub record AreFactsOf {R : Type 0} (symbol_of : R → List ℕ) (time_of : R → Moment)
    (facts : RecordFacts R) (entries : List R) : Type 0 where
  pub count : facts.count ≡ length entries
  pub symbols : facts.symbols ≡ distinct_names (map symbol_of entries)
  pub times : AreWithin (map time_of entries) facts.times
