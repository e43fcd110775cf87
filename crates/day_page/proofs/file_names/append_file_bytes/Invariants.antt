use Rattle.std.proofs.Common.{◌≡◌, ◌++◌, drop, true}
use Rattle.std.specs.Prelude.{IsTrue}
use Rattle.page_markup.specs.Addresses.{is_relative}
use Rattle.day_page.specs.FileNames.{file_bytes}
use Rattle.day_page.proofs.file_names.append_file_bytes.Given as goal

-- what is written, and what the bytes that are left give, is the whole; it names a file beside the
-- page if what is left does
abbrev pub invariant-loop-byte : goal.invariant-loop-byte
invariant-loop-byte l = record {
  whole : l.out.items ++ file_bytes l.is_first (drop l.byte-index l.symbol)
      ≡ l.initial.out.items ++ file_bytes true l.symbol;
  relative : IsTrue (is_relative (file_bytes l.is_first (drop l.byte-index l.symbol)))
      → IsTrue (is_relative (file_bytes true l.symbol));
}
