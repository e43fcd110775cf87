-- The answer in words: the heading of the page, what was broken and by which record, and the totals.
use Rattle.std.specs.Prelude.{ℕ, List, ◌++◌, Option, None, Some, codes, decimal}
use Rattle.audit_base.specs.declared.findings.Finding.{Finding}
use Rattle.audit_base.specs.declared.findings.Short.{Short}
use Rattle.audit_base.specs.Words.{property_word, rule_word}
use Rattle.page_parts.specs.Wording.{broken_words, log_words}
use Rattle.page_parts.specs.declared.sentences.SymbolTotals.{SymbolTotals}
use Rattle.page_parts.specs.declared.sentences.VerdictInWords.{VerdictInWords}

-- what the verdict is
abbrev pub answer_word : Option Finding → List ℕ
answer_word None = codes ": accepted"
answer_word (Some finding) = codes ": rejected"

-- the heading of the page, which is its title too
abbrev pub verdict_heading : VerdictInWords → List ℕ
verdict_heading said = codes "Symbol " ++ said.symbol ++ codes " under the rule " ++ rule_word said.rule
    ++ answer_word said.finding

-- the sentence of a record that breaks a property
abbrev pub broken_sentence : Finding → List ℕ
broken_sentence finding =
    codes "Record " ++ decimal finding.place ++ codes " of the " ++ log_words finding.log
    ++ codes " " ++ broken_words finding.property
    ++ codes " (" ++ property_word finding.property ++ codes ")."

-- the sentence of a volume that is not the greatest, which no record breaks by itself
abbrev pub volume_sentence : Short → List ℕ
volume_sentence short =
    codes "The volume is not the greatest (volume): " ++ decimal short.reached
    ++ codes " traded, " ++ decimal short.greatest ++ codes " possible."

-- the sentence of a finding
abbrev pub finding_sentence : Finding → Option Short → List ℕ
finding_sentence finding None = broken_sentence finding
finding_sentence finding (Some short) = volume_sentence short

-- the sentence of a log that is accepted
abbrev pub conforming_sentence : List ℕ
conforming_sentence = codes "The trades conform to the rule."

-- the answer in a sentence
abbrev pub answer_sentence : Option Finding → List ℕ
answer_sentence None = conforming_sentence
answer_sentence (Some finding) = finding_sentence finding finding.short

-- the totals of the symbol
abbrev pub totals_sentence : SymbolTotals → List ℕ
totals_sentence totals =
    codes "Orders: " ++ decimal totals.orders ++ codes ". Trades: " ++ decimal totals.trades
    ++ codes ". Volume: " ++ decimal totals.volume ++ codes "."
