use Rattle.std.proofs.Common.{◌≡◌, take}
use Rattle.std.specs.List.{list_all}
use Rattle.audit_base.specs.Names.{is_name_byte}
use Rattle.audit_base.proofs.names.all_name_bytes.Given as goal

-- whether a name may hold the bytes so far
abbrev pub invariant-loop-byte : goal.invariant-loop-byte
invariant-loop-byte l = l.all ≡ list_all is_name_byte (take l.byte-index l.text)
