-- The lines of a list of offences.
use Rattle.std.proofs.Common.{◌≡◌, ◌++◌, ◌∙◌, append_assoc, ap, refl, sym, ℕ, Bool, true, false, List, [], ◌∷◌, Option, Some, None, suc, length}
use Rattle.std.specs.Prelude.{option_and_then, if◌then◌else◌}
use Rattle.std.specs.List.{flat_map, join_with_byte}
use Rattle.std.proofs.lemmas.List.{append-nil}
use Rattle.std.proofs.lemmas.List.Concat.{flat_map-append}
use Rattle.audit_report.specs.LineParts.{later_parts_text}
use Rattle.audit_report.specs.Lines.{line_text}
use Rattle.audit_report.proofs.LineLemmas.{joined_parts}
use Rattle.audit_base.specs.declared.findings.Finding.{Finding}
use Rattle.audit_base.specs.declared.orders.Order.{Order}
use Rattle.offence_list.specs.declared.offences.ListedOffence.{ListedOffence}
use Rattle.offence_list.specs.ListedOffences.{finding_of_offence, findings_of_offences}
use Rattle.offence_list.specs.OffenceTexts.{count_line, offence_line}
use Rattle.symbol_offences.specs.declared.symbol_before_rule.QuotedRecords.{QuotedRecords}
use Rattle.symbol_offences.specs.OffenceLines.{offence_lines, quoted_offence}
use Rattle.symbol_offences.specs.Quotes.{ending_at, ending_place, is_inactive, quotes_with, shown_order_place}
use Rattle.symbol_offences.specs.Telling.{offences_quoted}

module _ (orders : List Order) (quoted : QuotedRecords) where
  quoted-same : (found : List ListedOffence) → offences_quoted orders quoted found ≡ flat_map (quoted_offence orders quoted) (findings_of_offences orders found)
  quoted-same [] = refl
  quoted-same (o ∷ found) = ap (λ (t : List ℕ). quoted_offence orders quoted (finding_of_offence orders o) ++ t) (quoted-same found)

  length-same : (found : List ListedOffence) → length found ≡ length (findings_of_offences orders found)
  length-same [] = refl
  length-same (o ∷ found) = ap (λ (n : ℕ). suc n) (length-same found)

  -- the lines of the offences and their number are those of the findings
  pub list_lines : (found : List ListedOffence) → offences_quoted orders quoted found ++ count_line (length found) ≡ offence_lines orders quoted (findings_of_offences orders found)
  list_lines found = λ i. quoted-same found i ++ count_line (length-same found i)

-- about no orders a finding has no record that ended one
pub no_ending : (f : Finding) → ending_place [] f ≡ None
no_ending f = by-inactive (is_inactive f.property) (shown_order_place f.first)
  where
    by-inactive : (inactive : Bool) (place : Option ℕ) → (if inactive then option_and_then (ending_at []) place else None) ≡ None
    by-inactive false place = refl
    by-inactive true None = refl
    by-inactive true (Some place) = refl

-- What is written behind a text.

module _ (orders : List Order) (quoted : QuotedRecords) where
  -- of a finding that stands alone
  pub alone_lines : (f : Finding) (old : List ℕ) → (old ++ quoted_offence orders quoted f) ++ count_line 1 ≡ old ++ offence_lines orders quoted (f ∷ [])
  alone_lines f old =
      append_assoc old (quoted_offence orders quoted f) (count_line 1)
      ∙ ap (λ (t : List ℕ). old ++ (t ++ count_line 1)) (sym (append-nil (quoted_offence orders quoted f)))

  -- of the offences of a list
  pub listed_lines : (found : List ListedOffence) (old : List ℕ) → (old ++ offences_quoted orders quoted found) ++ count_line (length found) ≡ old ++ offence_lines orders quoted (findings_of_offences orders found)
  listed_lines found old = append_assoc old (offences_quoted orders quoted found) (count_line (length found)) ∙ ap (λ (t : List ℕ). old ++ t) (list_lines orders quoted found)

-- of a finding before the rule
pub before_rule_lines : (quoted : QuotedRecords) (f : Finding) (old : List ℕ) → (old ++ (offence_line f ++ quotes_with quoted f None)) ++ count_line 1 ≡ old ++ offence_lines [] quoted (f ∷ [])
before_rule_lines quoted f old =
    ap (λ (e : Option ℕ). (old ++ (offence_line f ++ quotes_with quoted f e)) ++ count_line 1) (sym (no_ending f)) ∙ alone_lines [] quoted f old

-- a line that is written in parts: its head, the fields before a time, the time, and those behind it
pub line_in_parts : (old word : List ℕ) (head front : List (List ℕ)) (time : List ℕ) (back : List (List ℕ))
    → ((((((old ++ join_with_byte 44 (word ∷ head)) ++ later_parts_text front) ++ 44 ∷ []) ++ time) ++ later_parts_text back) ++ 10 ∷ []) ≡ old ++ line_text (word ∷ (head ++ (front ++ time ∷ back)))
line_in_parts old word head front time back =
    let J : List ℕ = join_with_byte 44 (word ∷ head) in
    let F : List ℕ = later_parts_text front in
    let B : List ℕ = later_parts_text back in
    let whole : join_with_byte 44 (word ∷ (head ++ (front ++ time ∷ back))) ≡ J ++ (F ++ 44 ∷ (time ++ B)) =
    joined_parts word (head ++ (front ++ time ∷ back))
    ∙ ap (λ (t : List ℕ). word ++ t) (flat_map-append (λ part. 44 ∷ part) head (front ++ time ∷ back) ∙ ap (λ (t : List ℕ). later_parts_text head ++ t) (flat_map-append (λ part. 44 ∷ part) front (time ∷ back)))
    ∙ sym (append_assoc word (later_parts_text head) (F ++ 44 ∷ (time ++ B)))
    ∙ ap (λ (t : List ℕ). t ++ (F ++ 44 ∷ (time ++ B))) (sym (joined_parts word head)) in
    append_assoc ((((old ++ J) ++ F) ++ 44 ∷ []) ++ time) B (10 ∷ [])
    ∙ append_assoc (((old ++ J) ++ F) ++ 44 ∷ []) time (B ++ 10 ∷ [])
    ∙ append_assoc ((old ++ J) ++ F) (44 ∷ []) (time ++ (B ++ 10 ∷ []))
    ∙ append_assoc (old ++ J) F (44 ∷ (time ++ (B ++ 10 ∷ [])))
    ∙ append_assoc old J (F ++ 44 ∷ (time ++ (B ++ 10 ∷ [])))
    ∙ ap (λ (t : List ℕ). old ++ (J ++ (F ++ 44 ∷ t))) (sym (append_assoc time B (10 ∷ [])))
    ∙ ap (λ (t : List ℕ). old ++ (J ++ t)) (sym (append_assoc F (44 ∷ (time ++ B)) (10 ∷ [])))
    ∙ ap (λ (t : List ℕ). old ++ t) (sym (append_assoc J (F ++ 44 ∷ (time ++ B)) (10 ∷ [])))
    ∙ ap (λ (t : List ℕ). old ++ (t ++ 10 ∷ [])) (sym whole)
