-- The lines of the contents of two logs, and what may stand in them.
use Rattle.std.specs.Prelude.{◌≡◌, ◌⊎◌, ℕ, Bool, ◌==◌, ◌||◌, IsTrue, Some, List, All}
use Rattle.std.specs.Char.{is_ascii_alphanumeric}
use Rattle.std.specs.List.{flat_map, list_all}
use Rattle.audit_base.specs.declared.terms.Which.{Which}
use Rattle.log_contents.specs.declared.time_spans.TimeSpan.{TimeSpan}
use Rattle.log_contents.specs.Texts.{attention_line, counted_line, needs_attention, symbols_line, times_line}

-- a byte of a kind: a letter, a digit, `:`, `=` or `?`, whose codes are 58, 61 and 63; so no comma
-- and no line end
abbrev pub is_kind_byte : ℕ → Bool
is_kind_byte byte = is_ascii_alphanumeric byte || (byte == 58) || (byte == 61) || (byte == 63)

-- a kind of such bytes
abbrev pub IsPlainKind : List ℕ → Type 0
IsPlainKind kind = IsTrue (list_all is_kind_byte kind)

-- The line is `LOG,KIND,COUNT`.
pub record IsCountedLine (line : List ℕ) : Type 0 where
  pub log : Which
  pub kind : List ℕ
  pub count : ℕ
  pub plain : IsPlainKind kind
  pub line_is : line ≡ counted_line log kind count

-- The line is `attention,LOG,150=V,COUNT`, where the kind is `passed:150=V` and asks for it.
pub record IsAttentionLine (line : List ℕ) : Type 0 where
  pub log : Which
  pub kind : List ℕ
  pub count : ℕ
  pub plain : IsPlainKind kind
  pub asks : IsTrue (needs_attention kind)
  pub line_is : line ≡ attention_line log kind count

-- The line is `symbols,N`.
pub record IsSymbolsLine (line : List ℕ) : Type 0 where
  pub count : ℕ
  pub line_is : line ≡ symbols_line count

-- The line is `times,LOG,FIRST,LAST`.
pub record IsTimesLine (line : List ℕ) : Type 0 where
  pub log : Which
  pub span : TimeSpan
  pub line_is : line ≡ times_line log (Some span)

-- the line is of one of these four kinds
abbrev pub IsContentsLine : List ℕ → Type 0
IsContentsLine line =
    IsCountedLine line ⊎ (IsAttentionLine line ⊎ (IsSymbolsLine line ⊎ IsTimesLine line))

-- The text is such lines, one after another, and nothing else.
pub record HasContentsLines (text : List ℕ) : Type 0 where
  pub lines : List (List ℕ)
  pub each : All IsContentsLine lines
  pub text_is : text ≡ flat_map (λ line. line) lines
