use Rattle.std.proofs.Common.{ap, ◌∙◌}
use Rattle.std.specs.List.{list_all}
use Rattle.audit_base.specs.Names.{is_name_byte}
use Rattle.csv_logs.proofs.ReaderLemmas.{line-names}
use Rattle.csv_logs.proofs.fields.Fields.read_next.Goals as goal

-- where the line was unquoted
pub invariant_of-self-2 : goal.invariant_of-self-2
invariant_of-self-2 g c = λ unquoted.
    ap (list_all (list_all is_name_byte)) (c.in_ok-next_fields.ensures c.requires.line c.requires.later c.requires.closed c.requires.full c.requires.reads).0
    ∙ line-names _ (c.requires.bytes unquoted) c.requires.full
