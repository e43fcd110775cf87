-- The greatest sizes of logs and messages, and the byte that ends a FIX field.
use Rattle.std.specs.Prelude.{ℕ}

-- the greatest number of bytes of a log where no other limit is given, 64 MiB
abbrev pub longest_log : ℕ
longest_log = 67108864

-- the number of bytes of the longest FIX message body that is read, 1 MiB
abbrev pub longest_body : ℕ
longest_body = 1048576

-- SOH, the code of the byte that ends each field of a FIX message
abbrev pub soh : ℕ
soh = 1
