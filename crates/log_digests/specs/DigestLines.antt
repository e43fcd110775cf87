-- How digests are written.
use Rattle.std.specs.Prelude.{ℕ, List, [], ◌∷◌, ◌++◌, codes}
use Rattle.audit_base.specs.declared.terms.Which.{Which}
use Rattle.audit_base.specs.declared.terms.Which.TheVariants.{Orders, Trades}
use Rattle.audit_report.specs.Lines.{line_text, log_word}
use Rattle.hex.specs.Hex.{encode_lower}

-- `sha256,LOG,DIGITS`
abbrev pub digits_line : Which → List ℕ → List ℕ
digits_line log digits = line_text (codes "sha256" ∷ log_word log ∷ digits ∷ [])

-- the line of the digest of a log, which is written in lower-case hexadecimal digits
abbrev pub digest_line : Which → List ℕ → List ℕ
digest_line log digest = digits_line log (encode_lower digest)

-- the lines of the digests of both logs, that of the order log first
abbrev pub digest_text : List ℕ → List ℕ → List ℕ
digest_text orders trades = digest_line Orders orders ++ digest_line Trades trades
