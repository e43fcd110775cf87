use Rattle.std.proofs.Common.{◌+◌, List, ℕ, map, drop}
use Rattle.std.specs.String.{string_bytes}
use Rattle.std.proofs.lemmas.List.{drop-map}
use Rattle.desk_filing.proofs.words.request_for.Goals as goal

pub returns-clause-request : goal.returns-clause-request
returns-clause-request c = rw (drop-map string_bytes (c.args.index + 2) c.args.words.now) (rw c.words_behind.ensures at c.request_with.ensures.request)

pub returns-clause-memory : goal.returns-clause-memory
returns-clause-memory c = rw (drop-map string_bytes (c.args.index + 2) c.args.words.now) (rw c.words_behind.ensures at c.request_with.ensures.memory)
