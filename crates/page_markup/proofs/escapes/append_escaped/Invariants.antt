use Rattle.std.proofs.Common.{◌≡◌, ◌++◌, take}
use Rattle.page_markup.specs.Escapes.{escaped}
use Rattle.page_markup.proofs.escapes.append_escaped.Given as goal

-- the bytes so far are written
abbrev pub invariant-loop-byte : goal.invariant-loop-byte
invariant-loop-byte l = l.out.items ≡ l.initial.out.items ++ escaped (take l.byte-index l.text)
