-- CR and LF bytes that are passed over.
use Rattle.std.proofs.Common.{◌≡◌, ℕ, ◌+◌, ◌<◌, ◌≤◌, true, List, [], ◌∷◌, drop, length, get_or, arith}
use Rattle.std.specs.Prelude.{IsTrue}
use Rattle.std.specs.List.{list_all, slice_range}
use Rattle.std.proofs.lemmas.List.{at_drop_more}
use Rattle.std.proofs.lemmas.List.Edits.{between_more}
use Rattle.std.proofs.lemmas.List.Folds.{list_all-append}
use Rattle.fix_framing.specs.Breaks.{is_line_end_byte, after_breaks}

-- the bytes from one place up to another are CR and LF
pub record Passed (bytes : List ℕ) (from place : ℕ) : Type 0 where
  pub low : from ≤ place
  pub high : place ≤ length bytes
  pub each : IsTrue (list_all is_line_end_byte (slice_range bytes from place))
  pub rest : after_breaks (drop place bytes) ≡ after_breaks (drop from bytes)

-- one more
pub Passed-more : (bytes : List ℕ) (from place : ℕ) → Passed bytes from place → place < length bytes → is_line_end_byte (get_or bytes place 0) ≡ true → Passed bytes from (place + 1)
Passed-more bytes from place passed inside breaks =
    let here = between_more bytes from place 0 passed.low inside in
    let joined = list_all-append is_line_end_byte (slice_range bytes from place) (get_or bytes place 0 ∷ []) in
    let one = at_drop_more after_breaks bytes place 0 inside in
    record {
      low = omega (arith, passed.low);
      high = omega arith;
      each = grind (arith, here, joined, passed.each);
      rest = grind (arith, one, passed.rest);
    }
