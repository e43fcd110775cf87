-- The phases of a day joined by commas, and the lines of its orders.
use Rattle.std.proofs.Common.{◌≡◌, ◌+◌, ◌-◌, ℕ, List, [], ◌∷◌, ◌++◌, length, get_or, take, drop, map, refl, ap, sym, ◌∙◌, arith, append_assoc, add-one, false}
use Rattle.std.specs.Prelude.{◌==◌}
use Rattle.std.proofs.lemmas.List.{take_all}
use Rattle.audit_base.specs.declared.orders.Order.{Order}
use Rattle.audit_base.specs.Orders.{place_at}
use Rattle.audit_report.specs.LineParts.{later_parts_text}
use Rattle.audit_report.proofs.LineLemmas.{joined_parts}
use Rattle.session_audit.specs.declared.phases.Phase.{Phase}
use Rattle.session_audit.specs.Texts.{phase_text, phases_text, total_line, total_lines}

-- joined phases are the first one and the others with commas before them
pub phases-joined : (phases : List Phase) (d : Phase) → (length phases == 0) ≡ false → phases_text phases ≡ phase_text (get_or phases 0 d) ++ later_parts_text (map phase_text (take (length phases - 1) (drop 1 phases)))
phases-joined [] d e = absurd (cc)
phases-joined (p ∷ ps) d e = joined_parts (phase_text p) (map phase_text ps) ∙ ap (λ (qs : List Phase). phase_text p ++ later_parts_text (map phase_text qs)) (sym (take_all (length (p ∷ ps) - 1) ps (omega arith)))

pub lines-more : (orders : List Order) (totals : List ℕ) (n : ℕ) → total_lines orders totals (n + 1) ≡ total_lines orders totals n ++ total_line (place_at orders n) (get_or totals n 0)
unfolding total_lines
lines-more orders totals n = ap (total_lines orders totals) (add-one n)

pub lines-none : (orders : List Order) (totals : List ℕ) → total_lines orders totals 0 ≡ []
unfolding total_lines
lines-none orders totals = refl

pub one-line : (start before after lines line : List ℕ) → before ≡ start ++ lines → after ≡ before ++ line → after ≡ start ++ (lines ++ line)
one-line start before after lines line b a = a ∙ ap (λ (xs : List ℕ). xs ++ line) b ∙ append_assoc start lines line
