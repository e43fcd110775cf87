use Rattle.std.proofs.Common.{◌≡◌, ◌++◌, map, take}
use Rattle.fix_fields.specs.Grammar.{bytes_of}
use Rattle.fix_messages.specs.Steps.{field_written}
use Rattle.fix_messages.proofs.writers.write_fields.Given as goal

-- the fields so far are written
abbrev pub invariant-loop-tag : goal.invariant-loop-tag
invariant-loop-tag l = l.body.items ≡ l.initial.body.items ++ bytes_of (map field_written (take l.tag-index l.fields))
