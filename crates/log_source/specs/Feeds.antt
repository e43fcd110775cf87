-- What a feed asks of the pieces that it is handed.
use Rattle.std.specs.Prelude.{ℕ, ◌+◌, ◌≤◌, List, length}
use Rattle.log_source.specs.Sources.{longest_read}

-- the feed stands for some bytes that are with the piece no longer than a log that is read may be
pub record HasRoom {D : Type 0} (stands_for : D → List ℕ → Type 0) (feed : D) (piece : List ℕ)
    : Type 0 where
  pub bytes : List ℕ
  pub stands : stands_for feed bytes
  pub room : length bytes + length piece ≤ longest_read
