-- The order records of one symbol, by what is kept of them.
use Rattle.std.specs.Prelude.{◌≤◌, ◌+◌, IsTrue, ℕ, List, ◌∷◌, [], ◌++◌, All, length, map}
use Rattle.audit_base.specs.Histories.{key_of, time_of}
use Rattle.audit_base.specs.Moments.{Moment}
use Rattle.audit_base.specs.Names.{is_name}
use Rattle.audit_base.specs.declared.names.Key.{Key}
use Rattle.audit_base.specs.declared.records.OrderRecord.{OrderRecord}
use Rattle.audit_base.specs.declared.records.OrderRecord.TheVariants as entry_of
use Rattle.day_records.specs.NameRows.{name_at}
use Rattle.day_records.specs.declared.kept_orders.KeptOrder.{KeptOrder}
use Rattle.day_records.specs.declared.kept_orders.KeptTerms.{KeptTerms}
use Rattle.day_records.specs.declared.kept_orders.KeptKind.{KeptKind}
use Rattle.day_records.specs.declared.kept_orders.KeptKind.TheVariants as kind
use Rattle.audit_base.specs.declared.terms.Life.{Life}
use Rattle.audit_base.specs.declared.terms.Life.TheVariants.{Rests}
use Rattle.audit_base.specs.declared.terms.Side.{Side}
use Rattle.audit_base.specs.declared.terms.Side.TheVariants.{Sell}

-- these terms of a record
abbrev pub kept_terms : KeptKind → Side → ℕ → ℕ → Life → KeptTerms
kept_terms k s q p l = record { quantity = q; price = p; kind = k; side = s; life = l }

-- what is kept of the terms of a record
abbrev pub terms_of : OrderRecord → KeptTerms
terms_of (entry_of.New key time symbol side quantity price life) =
    kept_terms kind.New side quantity price life
terms_of (entry_of.Cancel key time symbol target) = kept_terms kind.Cancel Sell 1 0 Rests
terms_of (entry_of.Replace key time symbol target side quantity price) =
    kept_terms kind.Replace side quantity price Rests

-- the id of a record's target; of a new order nothing
abbrev pub target_text : OrderRecord → List ℕ
target_text (entry_of.New key time symbol side quantity price life) = []
target_text (entry_of.Cancel key time symbol target) = target
target_text (entry_of.Replace key time symbol target side quantity price) = target

-- the record of this kind, of these terms and with these names
abbrev pub of_kind : KeptKind → KeptTerms → Key → Moment → List ℕ → List ℕ → OrderRecord
of_kind kind.New terms key time symbol target =
    entry_of.New key time symbol terms.side terms.quantity terms.price terms.life
of_kind kind.Cancel terms key time symbol target = entry_of.Cancel key time symbol target
of_kind kind.Replace terms key time symbol target =
    entry_of.Replace key time symbol target terms.side terms.quantity terms.price

-- the record of these terms with these names
abbrev pub with_names : KeptTerms → Key → Moment → List ℕ → List ℕ → OrderRecord
with_names terms key time symbol target = of_kind terms.kind terms key time symbol target

-- the key of a kept record, whose names lie among these bytes
abbrev pub kept_key : List ℕ → KeptOrder → Key
kept_key bytes kept = record {
  firm = name_at bytes kept.start kept.firm_size;
  id = name_at bytes (kept.start + kept.firm_size) kept.id_size;
}

-- the record of the symbol that is kept so
abbrev pub record_of : List ℕ → List ℕ → KeptOrder → OrderRecord
record_of symbol bytes kept =
    with_names kept.terms (kept_key bytes kept) kept.time symbol
    (name_at bytes (kept.start + kept.firm_size + kept.id_size) kept.target_size)

-- the names of a record are names
abbrev pub HasNames : OrderRecord → Type 0
HasNames (entry_of.New key time symbol side quantity price life) =
    IsTrue (is_name key.firm) × IsTrue (is_name key.id)
HasNames (entry_of.Cancel key time symbol target) =
    IsTrue (is_name key.firm) × IsTrue (is_name key.id) × IsTrue (is_name target)
HasNames (entry_of.Replace key time symbol target side quantity price) =
    IsTrue (is_name key.firm) × IsTrue (is_name key.id) × IsTrue (is_name target)

-- the names of a record, one after another
abbrev pub names_of : OrderRecord → List ℕ
names_of entry = (key_of entry).firm ++ ((key_of entry).id ++ target_text entry)

-- what is kept of a record at its place, whose names begin here
abbrev pub kept_order : OrderRecord → ℕ → ℕ → KeptOrder
kept_order entry start place = record {
  terms = terms_of entry;
  time = time_of entry;
  start = start;
  place = place;
  firm_size = length (key_of entry).firm;
  id_size = length (key_of entry).id;
  target_size = length (target_text entry);
}

-- the names of a kept record lie among the bytes
abbrev pub IsInside : List ℕ → KeptOrder → Type 0
IsInside bytes kept =
    kept.start + kept.firm_size + kept.id_size + kept.target_size ≤ length bytes

-- the names of each of these lie among the bytes
abbrev pub AreInside : List ℕ → List KeptOrder → Type 0
AreInside bytes orders = All (IsInside bytes) orders

-- the records of the symbol that are kept so, with their places
abbrev pub entries_of : List ℕ → List ℕ → List KeptOrder → List (ℕ × OrderRecord)
entries_of symbol bytes orders =
    map (λ kept. (kept.place, record_of symbol bytes kept)) orders

-- A symbol, and its records with their places.
pub record KeptEntries : Type 0 where
  pub symbol : List ℕ
  pub entries : List (ℕ × OrderRecord)

-- the same with one record more
abbrev pub with_entry : KeptEntries → ℕ → OrderRecord → KeptEntries
with_entry kept place entry =
    record { symbol = kept.symbol; entries = kept.entries ++ (place, entry) ∷ [] }
