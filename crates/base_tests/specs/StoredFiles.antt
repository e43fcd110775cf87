-- Files in memory, each under its path.
use Rattle.std.specs.Prelude.{ℕ, Bool, List, Option, find}
use Rattle.std.specs.Option.{option_map}
use Rattle.std.specs.Str.{bytes_eq}
use Rattle.base_tests.specs.declared.stored_files.StoredFile.{StoredFile}
use Rattle.base_tests.specs.declared.stored_files.StoredFiles.{StoredFiles}

-- the file has this path
abbrev pub has_path : List ℕ → StoredFile → Bool
has_path path file = bytes_eq file.path.now path

-- the bytes of the first file of this path
abbrev pub bytes_of_path : StoredFiles → List ℕ → Option (List ℕ)
bytes_of_path stored path =
    option_map (λ file. file.bytes.now) (find (has_path path) stored.files.now)
