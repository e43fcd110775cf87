use Rattle.std.proofs.Common.{◌≡◌, ℕ, ◌<◌, Some, Bor, List, get_or}
use Rattle.csv.specs.Records.{field_at}
use Rattle.csv_logs.proofs.columns.have_names.Given as goal

-- the fields before this place are the names
abbrev pub invariant-loop-at : goal.invariant-loop-at
invariant-loop-at l = (k : ℕ) (d : Bor (List ℕ)) → k < l.at → field_at l.fields k ≡ Some (get_or l.names k d).now
