-- The address of a link. The codes of `/`, `:` and `\` are 47, 58 and 92.
use Rattle.std.specs.Prelude.{ℕ, Bool, not, ◌==◌, ◌&&◌, List}
use Rattle.std.specs.List.{list_all}

-- the byte ends no scheme and begins no host and no folder (URL Living Standard)
abbrev pub is_relative_byte : ℕ → Bool
is_relative_byte byte = not (byte == 47) && not (byte == 58) && not (byte == 92)

-- the address names a file beside the page
abbrev pub is_relative : List ℕ → Bool
is_relative address = list_all is_relative_byte address
