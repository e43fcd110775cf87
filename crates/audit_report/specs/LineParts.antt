-- Lines and their parts, as functions that append them pass them on.
use Rattle.std.specs.Prelude.{ℕ, List, ◌∷◌, ◌++◌, decimal}
use Rattle.std.specs.List.{flat_map}
use Rattle.audit_base.specs.Numbers.{price_text}
use Rattle.audit_report.specs.declared.line_parts.LinePart.{LinePart}
use Rattle.audit_report.specs.declared.line_parts.LinePart.TheVariants.{Word, Number, Price, Named, Numbered}

-- what a part writes; the code of `:` is 58
abbrev pub part_text : LinePart → List ℕ
part_text (Word word) = word.now
part_text (Number number) = decimal number
part_text (Price price) = price_text price
part_text (Named kind name) = kind.now ++ 58 ∷ name.now
part_text (Numbered kind number) = kind.now ++ 58 ∷ decimal number

-- the parts of a line after its first, each with a comma before it
abbrev pub later_parts_text : List (List ℕ) → List ℕ
later_parts_text parts = flat_map (λ part. 44 ∷ part) parts
