-- Where names in a row lie.
use Rattle.std.proofs.Common.{◌≡◌, ◌≤◌, ◌+◌, ◌∙◌, ℕ, Bool, List, [], ◌∷◌, ◌++◌, IsTrue, length, take, drop, refl, ap, arith}
use Rattle.std.specs.Prelude.{if◌then◌else◌}
use Rattle.std.proofs.lemmas.List.{length-drop, take-append-le, drop-append-le, take_all}
use Rattle.std.proofs.Math.Seq.{drop-append_seam}
use Rattle.audit_base.specs.Names.{is_name}
use Rattle.day_records.specs.NameRows.{part_of, name_at}

-- Bytes behind the others change nothing.

part-kept : (bytes more : List ℕ) (start size : ℕ) → start + size ≤ length bytes → part_of (bytes ++ more) start size ≡ part_of bytes start size
part-kept bytes more start size inside =
    ap (take size) (drop-append-le start bytes more (omega (arith, inside)))
    ∙ take-append-le size (drop start bytes) more (omega (arith, inside, length-drop start bytes))

abbrev pub as_name : List ℕ → List ℕ
as_name text = if is_name text then text else 63 ∷ []

pub name-kept : (bytes more : List ℕ) (start size : ℕ) → start + size ≤ length bytes → name_at (bytes ++ more) start size ≡ name_at bytes start size
name-kept bytes more start size inside = ap as_name (part-kept bytes more start size inside)

-- a text between others is found by where it begins and how long it is
pub part-between : (before text rest : List ℕ) (start : ℕ) → start ≡ length before → part_of (before ++ (text ++ rest)) start (length text) ≡ text
part-between before text rest start is =
    ap (λ (n : ℕ). take (length text) (drop n (before ++ (text ++ rest)))) is
    ∙ ap (take (length text)) (drop-append_seam before (text ++ rest))
    ∙ take-append-le (length text) text rest (omega arith)
    ∙ take_all (length text) text (omega arith)

pub is-name : (text found : List ℕ) → found ≡ text → IsTrue (is_name text) → as_name found ≡ text
is-name text found same named = ap as_name same ∙ known (is_name text) refl named
  where
    known : (b : Bool) → is_name text ≡ b → IsTrue (is_name text) → as_name text ≡ text
    known b is named = search

-- a name between others
pub named-between : (whole before text rest : List ℕ) (start : ℕ) → whole ≡ before ++ (text ++ rest) → start ≡ length before → IsTrue (is_name text) → name_at whole start (length text) ≡ text
named-between whole before text rest start parts is named =
    is-name text _ (ap (λ (xs : List ℕ). part_of xs start (length text)) parts ∙ part-between before text rest start is) named

-- a name behind others
pub named-last : (whole before text : List ℕ) (start : ℕ) → whole ≡ before ++ text → start ≡ length before → IsTrue (is_name text) → name_at whole start (length text) ≡ text
named-last whole before text start parts is named =
    is-name text _
    (ap (λ (xs : List ℕ). part_of xs start (length text)) parts
    ∙ ap (λ (n : ℕ). part_of (before ++ text) n (length text)) is
    ∙ ap (take (length text)) (drop-append_seam before text)
    ∙ take_all (length text) text (omega arith))
    named
