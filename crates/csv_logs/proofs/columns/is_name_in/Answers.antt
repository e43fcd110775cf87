use Rattle.csv_logs.proofs.FieldLemmas.{column-names}
use Rattle.csv_logs.proofs.columns.is_name_in.Goals as goal

pub is_name_by_size-requires : goal.is_name_by_size-requires
is_name_by_size-requires c =
    column-names c.args.number c.args.fields.now _ (c.have_name_bytes.ensures c.if-have_name_bytes.true) c.column_text-text.ensures
