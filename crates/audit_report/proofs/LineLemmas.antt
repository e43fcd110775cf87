-- A line, as its first part and what follows it.
use Rattle.std.proofs.Common.{◌≡◌, ℕ, List, [], ◌∷◌, ◌++◌, ap, sym}
use Rattle.std.proofs.lemmas.List.{append-nil}
use Rattle.std.specs.List.{join_with_byte}
use Rattle.audit_report.specs.LineParts.{later_parts_text}

-- joined parts are the first one and the others with commas before them
pub joined_parts : (word : List ℕ) (parts : List (List ℕ)) → join_with_byte 44 (word ∷ parts) ≡ word ++ later_parts_text parts
joined_parts word [] = sym (append-nil word)
joined_parts word (part ∷ parts) = ap (λ (rest : List ℕ). word ++ 44 ∷ rest) (joined_parts part parts)
