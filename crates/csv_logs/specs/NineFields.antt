-- What is known of the nine fields of a line.
use Rattle.std.specs.Prelude.{◌≡◌, ℕ, true, IsTrue, List, length, map}
use Rattle.std.specs.List.{list_all}
use Rattle.audit_base.specs.Names.{is_name_byte}
use Rattle.csv_logs.specs.declared.nine_fields.NineFields.TheInside.{Inside}

-- the fields, each where it is
abbrev pub texts_of_nine_fields : Inside → List (List ℕ)
texts_of_nine_fields fields = map (λ text. text.now) fields.texts

-- They are nine, and where it is known, each byte of each is one that a name may hold.
pub record AreNineFields (fields : Inside) : Type 0 where
  pub nine : length fields.texts ≡ 9
  pub bytes : fields.have_name_bytes ≡ true
      → IsTrue (list_all (list_all is_name_byte) (texts_of_nine_fields fields))
