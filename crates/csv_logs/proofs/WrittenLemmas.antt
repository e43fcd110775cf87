-- What is written is read again.
use Rattle.std.proofs.Common.{◌≡◌, ℕ, suc, Bool, true, false, not, ◌+◌, ◌≤◌, ◌==◌, ◌&&◌, List, [], ◌∷◌, ◌++◌, length, refl, sym, ap, subst, ◌∙◌, Some, None, Option, Ok, Result, append_assoc, length-append, arith}
use Rattle.std.specs.Prelude.{nat_le, All}
use Rattle.std.specs.Option.{option_to_list}
use Rattle.std.specs.List.{flat_map, join_with_byte, list_all, list_any}
use Rattle.std.proofs.lemmas.Bool.{and_parts, and_from, or_from, not-true, leb-true, ne_eqb}
use Rattle.std.proofs.lemmas.List.{append-nil}
use Rattle.csv.specs.Writing.{default_writer, needs_byte, field_text, fields_text, is_blank, row_text}
use Rattle.audit_base.specs.Names.{is_name_byte}
use Rattle.audit_base.specs.declared.faults.Reason.{Reason}
use Rattle.csv.proofs.RoundTrip.{read-write-many}
use Rattle.csv_logs.specs.Columns.{line_fields, is_unquoted_byte}
use Rattle.csv_logs.specs.Logs.{is_header, line_meaning, read_csv_log}
use Rattle.csv_logs.specs.Feeds.{HasNoBadLine}
use Rattle.csv_logs.specs.Steps.{header_says, line_says, entry_says}
use Rattle.csv_logs.specs.Written.{csv_line_text, log_text}
use Rattle.csv_logs.specs.WrittenLines.{IsLineOf, have_name_bytes}
use Rattle.csv_logs.proofs.FieldLemmas.{fields-equal}
use Rattle.csv_logs.proofs.UnquotedLemmas.{unquoted-unbroken, unquoted-bom, unquoted-no_lf, unquoted-line_at}
use Rattle.csv_logs.proofs.FeedLemmas.{open-rest, open-good, open-new, read-open}

-- a byte of a name calls for no quotes
unquoted-byte : (byte : ℕ) → is_name_byte byte ≡ true → needs_byte default_writer byte ≡ false
unquoted-byte byte unquoted =
    let p = and_parts (nat_le 32 byte && nat_le byte 126 && not (byte == 34)) (not (byte == 44)) unquoted in
    let q = and_parts (nat_le 32 byte && nat_le byte 126) (not (byte == 34)) p.0 in
    let r = and_parts (nat_le 32 byte) (nat_le byte 126) q.0 in
    let low : 32 ≤ byte = leb-true 32 byte r.0 in
    let comma : (byte == 44) ≡ false = not-true (byte == 44) p.1 in
    let quote : (byte == 34) ≡ false = not-true (byte == 34) q.1 in
    let cr : (byte == 13) ≡ false = ne_eqb byte 13 (λ e. omega (arith, e)) in
    let lf : (byte == 10) ≡ false = ne_eqb byte 10 (λ e. omega (arith, e)) in
    rw (comma, quote, cr, lf) refl

unquoted-field : (field : List ℕ) → list_all is_name_byte field ≡ true → list_any (needs_byte default_writer) field ≡ false
unquoted-field [] unquoted = refl
unquoted-field (byte ∷ rest) unquoted =
    let p = and_parts (is_name_byte byte) (list_all is_name_byte rest) unquoted in
    or_from (needs_byte default_writer byte) (list_any (needs_byte default_writer) rest) (unquoted-byte byte p.0) (unquoted-field rest p.1)

unquoted-text : (field : List ℕ) → list_all is_name_byte field ≡ true → field_text default_writer field ≡ field
unquoted-text field unquoted = rw (unquoted-field field unquoted) refl

unquoted-rest : (field : List ℕ) (fields : List (List ℕ)) → have_name_bytes (field ∷ fields) ≡ true → fields_text default_writer (field ∷ fields) ≡ 44 ∷ join_with_byte 44 (field ∷ fields)
unfolding fields_text
unquoted-rest field [] unquoted =
    let p = and_parts (list_all is_name_byte field) true unquoted in
    ap (λ (t : List ℕ). 44 ∷ (t ++ [])) (unquoted-text field p.0) ∙ ap (λ (t : List ℕ). 44 ∷ t) (append-nil field)
unquoted-rest field (next ∷ fields) unquoted =
    let p = and_parts (list_all is_name_byte field) (have_name_bytes (next ∷ fields)) unquoted in
    ap (λ (t : List ℕ). 44 ∷ (t ++ fields_text default_writer (next ∷ fields))) (unquoted-text field p.0)
    ∙ ap (λ (t : List ℕ). 44 ∷ (field ++ t)) (unquoted-rest next fields p.1)

-- what `csv` writes of unquoted fields is their line
pub unquoted-row : (first second : List ℕ) (fields : List (List ℕ)) → have_name_bytes (first ∷ second ∷ fields) ≡ true
    → row_text default_writer (first ∷ second ∷ fields) ≡ csv_line_text (first ∷ second ∷ fields)
unfolding is_blank
unquoted-row first second fields unquoted =
    let p = and_parts (list_all is_name_byte first) (have_name_bytes (second ∷ fields)) unquoted in
    ap (λ (t : List ℕ). (t ++ fields_text default_writer (second ∷ fields)) ++ 10 ∷ []) (unquoted-text first p.0)
    ∙ ap (λ (t : List ℕ). (first ++ t) ++ 10 ∷ []) (unquoted-rest second fields p.1)

name-unquoted : (byte : ℕ) → is_name_byte byte ≡ true → is_unquoted_byte byte ≡ true
name-unquoted byte name =
    let p = and_parts (nat_le 32 byte && nat_le byte 126 && not (byte == 34)) (not (byte == 44)) name in
    p.0

name-field : (field : List ℕ) → list_all is_name_byte field ≡ true → list_all is_unquoted_byte field ≡ true
name-field [] unquoted = refl
name-field (byte ∷ rest) unquoted =
    let p = and_parts (is_name_byte byte) (list_all is_name_byte rest) unquoted in
    and_from (is_unquoted_byte byte) (list_all is_unquoted_byte rest) (name-unquoted byte p.0) (name-field rest p.1)

all-append : (xs ys : List ℕ) → list_all is_unquoted_byte xs ≡ true → list_all is_unquoted_byte ys ≡ true → list_all is_unquoted_byte (xs ++ ys) ≡ true
all-append [] ys p q = q
all-append (x ∷ xs) ys p q =
    let r = and_parts (is_unquoted_byte x) (list_all is_unquoted_byte xs) p in
    and_from (is_unquoted_byte x) (list_all is_unquoted_byte (xs ++ ys)) r.0 (all-append xs ys r.1 q)

-- unquoted fields make a unquoted line
join-unquoted : (fields : List (List ℕ)) → have_name_bytes fields ≡ true → list_all is_unquoted_byte (join_with_byte 44 fields) ≡ true
join-unquoted [] unquoted = refl
join-unquoted (field ∷ []) unquoted = name-field field (and_parts (list_all is_name_byte field) true unquoted).0
join-unquoted (field ∷ next ∷ fields) unquoted =
    let p = and_parts (list_all is_name_byte field) (have_name_bytes (next ∷ fields)) unquoted in
    all-append field (44 ∷ join_with_byte 44 (next ∷ fields)) (name-field field p.0) (join-unquoted (next ∷ fields) p.1)

-- nine unquoted fields are read as they were
pub fields-again : (fields : List (List ℕ)) → length fields ≡ 9 → have_name_bytes fields ≡ true → line_fields (join_with_byte 44 fields) ≡ fields
unfolding line_fields
fields-again [] nine unquoted = absurd (omega (arith, nine))
fields-again (first ∷ []) nine unquoted = absurd (omega (arith, nine))
fields-again (first ∷ second ∷ rest) nine unquoted =
    let fields : List (List ℕ) = first ∷ second ∷ rest in
    let text = unquoted-bom (join_with_byte 44 fields) [] (join-unquoted fields unquoted) ∙ sym (unquoted-row first second rest unquoted) ∙ sym (append-nil (row_text default_writer fields)) in
    rw (text, read-write-many first second rest []) refl

join-full : (fields : List (List ℕ)) → length fields ≡ 9 → (length (join_with_byte 44 fields) == 0) ≡ false
join-full [] nine = absurd (omega (arith, nine))
join-full (first ∷ []) nine = absurd (omega (arith, nine))
join-full (first ∷ second ∷ rest) nine =
    ne_eqb (length (first ++ 44 ∷ join_with_byte 44 (second ∷ rest))) 0 (λ e. omega (arith, e, length-append first (44 ∷ join_with_byte 44 (second ∷ rest))))

-- the names make a header, and a record's fields mean the record
pub header-again : (names : List (List ℕ)) → length names ≡ 9 → have_name_bytes names ≡ true → is_header names (join_with_byte 44 names) ≡ true
unfolding is_header
header-again names nine unquoted = rw (unquoted-unbroken (join_with_byte 44 names) (join-unquoted names unquoted), fields-again names nine unquoted) (fields-equal names)

entry-again : {R : Type 0} (meaning : List (List ℕ) → Result R Reason) (fields : List (List ℕ)) (entry : R) → length fields ≡ 9 → have_name_bytes fields ≡ true → meaning fields ≡ Ok entry
    → line_meaning meaning (join_with_byte 44 fields) ≡ Ok entry
unfolding line_meaning
entry-again meaning fields entry nine unquoted again =
    rw (unquoted-unbroken (join_with_byte 44 fields) (join-unquoted fields unquoted), fields-again fields nine unquoted, nine, again) refl

module _ {R : Type 0} (names : List (List ℕ)) (meaning : List (List ℕ) → Result R Reason) where
  -- one more line of unquoted fields
  line-again : (entries : List R) (offset : ℕ) (header : Bool) (log : List ℕ) (fields : List (List ℕ)) (new : Option R) → length fields ≡ 9 → have_name_bytes fields ≡ true
      → line_says names meaning header (join_with_byte 44 fields) ≡ Ok new → HasNoBadLine names meaning entries [] offset header log
      → HasNoBadLine names meaning (entries ++ option_to_list new) [] (offset + length (join_with_byte 44 fields) + 1) true (log ++ csv_line_text fields)
  line-again entries offset header log fields new nine unquoted says is =
      let line : List ℕ = join_with_byte 44 fields in
      let is_unquoted = join-unquoted fields unquoted in
      let at = unquoted-line_at offset line is_unquoted in
      let longer = open-rest names meaning entries [] line offset header log (unquoted-no_lf line is_unquoted) is in
      subst (HasNoBadLine names meaning (entries ++ option_to_list new) [] (offset + length line + 1) true) (append_assoc log line (10 ∷ []))
      (open-good names meaning entries line offset header (log ++ line) new longer (rw at (ap not (join-full fields nine))) (rw at says))

  -- lines of records, each with the fields that mean it
  lines-again : (fields : R → List (List ℕ)) (readable : R → Type 0) (done entries : List R) (offset : ℕ) (log : List ℕ) → HasNoBadLine names meaning done [] offset true log
      → All (λ entry. IsLineOf meaning readable entry (fields entry)) entries → All readable entries
      → (end : ℕ) × HasNoBadLine names meaning (done ++ entries) [] end true (log ++ flat_map (λ entry. csv_line_text (fields entry)) entries)
  lines-again fields readable done [] offset log is lines reads =
      (offset, subst (λ (es : List R). HasNoBadLine names meaning es [] offset true (log ++ [])) (sym (append-nil done)) (subst (HasNoBadLine names meaning done [] offset true) (sym (append-nil log)) is))
  lines-again fields readable done (entry ∷ entries) offset log is lines reads =
      let line = lines 0 entry (omega arith) in
      let says = ap entry_says (entry-again meaning (fields entry) entry line.nine line.unquoted (line.again (reads 0 entry (omega arith)))) in
      let one = line-again done offset true log (fields entry) (Some entry) line.nine line.unquoted says is in
      let later = flat_map (λ entry. csv_line_text (fields entry)) entries in
      let more = lines-again fields readable (done ++ entry ∷ []) entries _ (log ++ csv_line_text (fields entry)) one (λ k d h. lines (suc k) d (omega (arith, h))) (λ k d h. reads (suc k) d (omega (arith, h))) in (
        more.0,
        subst (λ (es : List R). HasNoBadLine names meaning es [] more.0 true (log ++ (csv_line_text (fields entry) ++ later))) (append_assoc done (entry ∷ []) entries)
            (subst (HasNoBadLine names meaning ((done ++ entry ∷ []) ++ entries) [] more.0 true) (append_assoc log (csv_line_text (fields entry)) later) more.1),
      )

  -- the header and these lines are a good log
  pub log-again : (fields : R → List (List ℕ)) (readable : R → Type 0) (entries : List R) → length names ≡ 9 → have_name_bytes names ≡ true
      → All (λ entry. IsLineOf meaning readable entry (fields entry)) entries → All readable entries → read_csv_log names meaning (log_text names fields entries) ≡ Ok entries
  log-again fields readable entries nine unquoted lines reads =
      let says = ap (λ (t : Bool). header_says {R = R} t) (header-again names nine unquoted) in
      let header = line-again [] 0 false [] names None nine unquoted says (open-new names meaning) in
      let all = lines-again fields readable [] entries _ (csv_line_text names) header lines reads in
      read-open names meaning entries all.0 (log_text names fields entries) all.1

-- what `csv` writes of nine unquoted fields is their line
pub row-line : (fields : List (List ℕ)) → length fields ≡ 9 → have_name_bytes fields ≡ true → row_text default_writer fields ≡ csv_line_text fields
row-line [] nine unquoted = absurd (omega (arith, nine))
row-line (first ∷ []) nine unquoted = absurd (omega (arith, nine))
row-line (first ∷ second ∷ rest) nine unquoted = unquoted-row first second rest unquoted
