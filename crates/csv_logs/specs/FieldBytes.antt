-- What is known of the bytes of a line's fields.
use Rattle.std.specs.Prelude.{◌≡◌, ℕ, true, IsTrue, List}
use Rattle.std.specs.List.{list_all}
use Rattle.audit_base.specs.Names.{is_name_byte}
use Rattle.csv.specs.Records.{fields_of}
use Rattle.csv_logs.specs.declared.fields.Fields.TheInside.{Inside}

-- the fields that `csv` has read
abbrev pub texts_of_fields : Inside → List (List ℕ)
texts_of_fields fields = fields_of fields.texts

-- where it is known, each byte of each field is one that a name may hold
abbrev pub KnowsNameBytes : Inside → Type 0
KnowsNameBytes fields =
    fields.have_name_bytes ≡ true
    → IsTrue (list_all (list_all is_name_byte) (texts_of_fields fields))
