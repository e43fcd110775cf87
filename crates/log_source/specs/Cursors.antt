-- Logs in memory, and where a slot is in one of them: what the private functions
-- of the shelf in memory say.
use Rattle.std.specs.Prelude.{◌≡◌, ℕ, ◌<◌, Bool, true, List, [], drop, reverse, find, length, min, Option, Some, slice_get, if◌then◌else◌, string_bytes}
use Rattle.std.specs.Option.{option_map, option_map_or}
use Rattle.std.specs.Str.{bytes_eq}
use Rattle.log_source.specs.Sources.{Slot, any_bytes}
use Rattle.log_source.specs.declared.cursors.NamedLog.{NamedLog}
use Rattle.log_source.specs.declared.cursors.Cursor.{Cursor}

-- the log has this name
abbrev pub log_has_name : List ℕ → NamedLog → Bool
log_has_name name log = bytes_eq (string_bytes log.name) name

-- the bytes of the last log of this name, which is the newest
abbrev pub newest_log_bytes : List NamedLog → List ℕ → Option (List ℕ)
newest_log_bytes logs name =
    option_map (λ log. log.bytes.items) (find (log_has_name name) (reverse logs))

-- the bytes of the log at an index
abbrev pub log_bytes_at : List NamedLog → ℕ → List ℕ
log_bytes_at logs i = option_map_or (λ log. log.bytes.items) (slice_get logs i) []

-- the state of the slot of a cursor: of a started log the bytes past those given are left
abbrev pub cursor_state : List NamedLog → Cursor → Slot
cursor_state logs cursor = record {
  started = cursor.started;
  left = Some (if cursor.started then drop cursor.at (log_bytes_at logs cursor.log) else []);
  taken = cursor.at;
  gave = any_bytes;
  starts = cursor.starts;
  faults = cursor.faults;
}

-- how many bytes a read gives at a cursor: at most a piece, what is left,
-- and the room of the buffer
abbrev pub cursor_read_size : List NamedLog → Cursor → ℕ → ℕ → ℕ
cursor_read_size logs cursor piece room =
    min piece (min (length (drop cursor.at (log_bytes_at logs cursor.log))) room)

-- a cursor whose log is started is in a log that is there
abbrev pub IsCursorInside : List NamedLog → Cursor → Type 0
IsCursorInside logs cursor = cursor.started ≡ true → cursor.log < length logs
