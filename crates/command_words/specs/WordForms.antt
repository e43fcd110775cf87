-- What single words of a command line are. The code of `-` is 45.
use Rattle.std.specs.Prelude.{ℕ, Bool, not, ◌==◌, ◌&&◌, Option, None, List, [], ◌∷◌, length, slice_index, slice_index_or, codes, nat_le, option_and_then, if◌then◌else◌}
use Rattle.std.specs.Cmp.Lexicographic.{pointwise}
use Rattle.audit_base.specs.Digits.{digits_form}
use Rattle.audit_base.specs.Least.{first_answer, only_if}
use Rattle.audit_base.specs.Names.{is_name}
use Rattle.audit_base.specs.Words.{rule_word}
use Rattle.audit_base.specs.declared.terms.Form.{Form}
use Rattle.audit_base.specs.declared.terms.Form.TheVariants.{Csv, Fix}
use Rattle.audit_base.specs.declared.terms.Rule.{Rule}
use Rattle.audit_base.specs.declared.terms.Rule.TheVariants as rule
use Rattle.audit_base.specs.declared.terms.Which.{Which}
use Rattle.audit_base.specs.declared.terms.Which.TheVariants.{Orders, Trades}

-- the word at a place, from 0
abbrev pub nth_word : List (List ℕ) → ℕ → List ℕ
nth_word words place = slice_index_or words place []

-- a word is this text
abbrev pub word_equals : List ℕ → List ℕ → Bool
word_equals word text = pointwise ◌==◌ word text

-- a word that begins with `-` is read as an option
abbrev pub is_option : List ℕ → Bool
is_option word = slice_index word 0 == 45

-- SYMBOL is a name that is not read as an option
abbrev pub is_symbol : List ℕ → Bool
is_symbol word = is_name word && not (is_option word)

-- the symbol that a word is
abbrev pub symbol_named : List ℕ → Option (List ℕ)
symbol_named word = only_if (is_symbol word) word

-- ORDERS and TRADES are paths: words of one byte or more that are not read as options
abbrev pub is_path : List ℕ → Bool
is_path word = not (length word == 0) && not (is_option word)

-- RULE is the word of a rule
abbrev pub rule_named : List ℕ → Option Rule
rule_named word = first_answer (only_if (word_equals word (rule_word rule.Matching)) rule.Matching
    ∷ only_if (word_equals word (rule_word rule.Fair)) rule.Fair
    ∷ only_if (word_equals word (rule_word rule.Uniform)) rule.Uniform
    ∷ only_if (word_equals word (rule_word rule.Maximum)) rule.Maximum
    ∷ only_if (word_equals word (rule_word rule.Continuous)) rule.Continuous ∷ [])

-- LOG is `orders` or `trades`
abbrev pub log_named : List ℕ → Option Which
log_named word = first_answer (only_if (word_equals word (codes "orders")) Orders
    ∷ only_if (word_equals word (codes "trades")) Trades ∷ [])

-- FORM is `csv` or `fix`
abbrev pub form_named : List ℕ → Option Form
form_named word = first_answer (only_if (word_equals word (codes "csv")) Csv
    ∷ only_if (word_equals word (codes "fix")) Fix ∷ [])

-- the number from 1 to a greatest one that a word of 1 to 10 digits writes
abbrev pub number_upto : ℕ → List ℕ → Option ℕ
number_upto most word =
    option_and_then (λ n. only_if (nat_le 1 n && nat_le n most) n) (digits_form 10 word)

-- the same number, where the first of its digits is no zero; the code of `0` is 48
abbrev pub unpadded_number : ℕ → List ℕ → Option ℕ
unpadded_number most word = if slice_index word 0 == 48 then None else number_upto most word
