use Rattle.std.proofs.Common.{◌≡◌, ◌++◌, take}
use Rattle.std.specs.List.{flat_map}
use Rattle.page_markup.specs.Trees.{attribute_text}
use Rattle.page_markup.proofs.markup.append_attributes.Given as goal

-- the attributes so far are written
abbrev pub invariant-loop-attribute : goal.invariant-loop-attribute
invariant-loop-attribute l = l.out.items ≡ l.initial.out.items ++ flat_map attribute_text (take l.attribute-index l.attributes)
