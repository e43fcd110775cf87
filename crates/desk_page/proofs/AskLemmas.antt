-- The words on a page ask for its verdict.
use Rattle.std.proofs.Common.{◌≡◌, ℕ, Bool, true, false, List, [], ◌∷◌, ◌++◌, drop, length, Option, Some, None, refl, sym, ap, ◌∙◌, subst, arith, append-nil, true≢false}
use Rattle.std.specs.Prelude.{◌&&◌, not, nat_le, All, codes, if◌then◌else◌, option_and_then}
use Rattle.std.proofs.lemmas.Bool.{and_parts, leb-true}
use Rattle.std.proofs.lemmas.List.Elements.{All-cons, All-nil}
use Rattle.audit_base.specs.declared.terms.Form.{Form}
use Rattle.audit_base.specs.declared.terms.Form.TheVariants.{Csv, Fix}
use Rattle.audit_base.specs.declared.terms.Rule.{Rule}
use Rattle.audit_base.specs.declared.terms.Rule.TheVariants as rule
use Rattle.audit_base.specs.Least.{only_if}
use Rattle.audit_base.specs.Names.{is_name, is_name_byte}
use Rattle.audit_base.specs.Words.{rule_word}
use Rattle.std.specs.List.{list_all}
use Rattle.audit_report.specs.declared.statuses.Status.{Status}
use Rattle.audit_report.specs.declared.verdicts.Accepted.{Accepted}
use Rattle.audit_report.specs.declared.verdicts.Verdict.{Verdict}
use Rattle.audit_report.specs.declared.verdicts.Verdict.TheVariants as verdict
use Rattle.audit_report.specs.Texts.{accepted_text}
use Rattle.command_words.specs.declared.options.Options.{Options}
use Rattle.command_words.specs.WordForms.{is_option, is_path, is_symbol, nth_word, rule_named, symbol_named, word_equals}
use Rattle.command_words.specs.Words.{names_logs}
use Rattle.desk_words.specs.declared.requests.DeskRequest.{DeskRequest}
use Rattle.desk_words.specs.declared.requests.DeskRequest.TheVariants.{Whole}
use Rattle.desk_words.specs.declared.requests.WholeRequest.TheVariants.{Offences}
use Rattle.desk_words.specs.Words.{desk_request_of, form_options_in, named_logs}
use Rattle.further_checks.specs.Laws.{NothingIsFoundUnasked}
use Rattle.further_checks.specs.FurtherRules.{further_findings_of_symbol, no_checks, times_of_symbol}
use Rattle.further_checks.specs.declared.findings.FurtherFinding.{FurtherFinding}
use Rattle.offence_list.specs.Offences.{record_offences}
use Rattle.page_parts.specs.Laws.{HasByte, ShellReadsCommand}
use Rattle.page_parts.specs.Repeats.{form_option}
use Rattle.record_verdict.specs.Laws.{RecordVerdictIsOne}
use Rattle.symbol_offences.specs.declared.symbol_before_rule.QuotedRecords.{QuotedRecords}
use Rattle.symbol_offences.specs.OffenceAnswers.{IsAnswerByVerdict, IsAnswerToAccepted, orders_under_rule}
use Rattle.symbol_offences.specs.OffenceLines.{offence_lines}
use Rattle.symbol_offences.specs.SymbolBeforeRule.{quoted_records}
use Rattle.audit_base.specs.Histories.{order_list}
use Rattle.audit_base.specs.Trades.{deals_of_symbol}
use Rattle.audit_base.specs.Verdicts.{paired_trades}
use Rattle.page_parts.specs.declared.repeats.PageLogs.{PageLogs}
use Rattle.desk_page.specs.declared.requests.PageRequest.{PageRequest}
use Rattle.desk_page.specs.declared.words.PageWords.{PageWords}
use Rattle.desk_page.specs.Laws.{BeginsWithVerdict, OffencesHaveThePagesVerdict, PageTellsItsWords, offences_question, words_on_page}
use Rattle.desk_page.specs.PageAnswers.{page_question}
use Rattle.desk_page.specs.Words.{page_request_of, page_words, request_behind}

-- what a choice with nothing in its other branch gave
given-if : {A : Type 0} (test : Bool) (made : Option A) (x : A) → (if test then made else None) ≡ Some x → (test ≡ true) × (made ≡ Some x)
given-if true made x e = (refl, e)
given-if false made x e = absurd cc

given-only : {A : Type 0} (test : Bool) (y x : A) → only_if test y ≡ Some x → (test ≡ true) × (y ≡ x)
given-only true y x e = (refl, cc)
given-only false y x e = absurd cc

-- what was made of a value
record IsMadeOf {A B : Type 0} (o : Option A) (f : A → Option B) (x : B) : Type 0 where
  value : A
  is : o ≡ Some value
  made : f value ≡ Some x

given-then : {A B : Type 0} (o : Option A) (f : A → Option B) (x : B) → option_and_then f o ≡ Some x → IsMadeOf o f x
given-then None f x e = absurd cc
given-then (Some a) f x e = record { value = a; is = refl; made = e }

some-same : {A : Type 0} {x y : A} → Some x ≡ Some y → x ≡ y
some-same e = cc

-- what the words of `page` give, step by step
abbrev said_by : Rule → List ℕ → Options → Option PageWords
said_by the_rule symbol said = Some (record { rule = the_rule; symbol = symbol; said = said })

abbrev with_forms : List (List ℕ) → Rule → List ℕ → Option PageWords
with_forms words the_rule symbol = option_and_then (said_by the_rule symbol) (form_options_in (drop 5 words))

abbrev with_symbol : List (List ℕ) → Rule → Option PageWords
with_symbol words the_rule = option_and_then (with_forms words the_rule) (symbol_named (nth_word words 2))

abbrev request_by : List (List ℕ) → PageWords → Option PageRequest
request_by words asked = Some (record { rule = asked.rule; symbol = asked.symbol; logs = named_logs words 3 asked.said })

-- What well-formed words of `page` name: a symbol and two paths.
record NamesWell (request : PageRequest) : Type 0 where
  symbol : is_symbol request.symbol ≡ true
  orders : is_path request.logs.orders ≡ true
  trades : is_path request.logs.trades ≡ true

names-well : (words : List (List ℕ)) (request : PageRequest) → page_request_of words ≡ Some request → NamesWell request
names-well words request e =
    let first = given-if (nat_le 5 (length words) && word_equals (nth_word words 0) (codes "page")) (request_behind words) request e in
    let second = given-if (names_logs words 3) (option_and_then (request_by words) (page_words words)) request first.1 in
    let paths = and_parts (is_path (nth_word words 3)) (is_path (nth_word words 4)) second.0 in
    let asked = given-then (page_words words) (request_by words) request second.1 in
    let by_rule = given-then (rule_named (nth_word words 1)) (with_symbol words) asked.value asked.is in
    let by_symbol = given-then (symbol_named (nth_word words 2)) (with_forms words by_rule.value) asked.value by_rule.made in
    let by_forms = given-then (form_options_in (drop 5 words)) (said_by by_rule.value by_symbol.value) asked.value by_symbol.made in
    let named = given-only (is_symbol (nth_word words 2)) (nth_word words 2) by_symbol.value by_symbol.is in
    let asks : ◌≡◌ {A = Option PageWords} (Some (record { rule = by_rule.value; symbol = by_symbol.value; said = by_forms.value })) (Some asked.value) = by_forms.made in
    let gives : ◌≡◌ {A = Option PageRequest} (Some (record { rule = asked.value.rule; symbol = asked.value.symbol; logs = named_logs words 3 asked.value.said })) (Some request) = asked.made in
    by-parts words request by_symbol.value asked.value by_rule.value by_forms.value gives asks named.0 named.1 paths.0 paths.1
  where
    by-parts : (words : List (List ℕ)) (request : PageRequest) (symbol : List ℕ) (asked : PageWords) (the_rule : Rule) (said : Options)
        → ◌≡◌ {A = Option PageRequest} (Some (record { rule = asked.rule; symbol = asked.symbol; logs = named_logs words 3 asked.said })) (Some request)
        → ◌≡◌ {A = Option PageWords} (Some (record { rule = the_rule; symbol = symbol; said = said })) (Some asked)
        → is_symbol (nth_word words 2) ≡ true → nth_word words 2 ≡ symbol → is_path (nth_word words 3) ≡ true → is_path (nth_word words 4) ≡ true → NamesWell request
    by-parts words request symbol asked the_rule said gives asks is named one other =
        let all : ◌≡◌ {A = PageRequest} (record { rule = asked.rule; symbol = asked.symbol; logs = named_logs words 3 asked.said }) request = some-same gives in
        let both : ◌≡◌ {A = PageWords} (record { rule = the_rule; symbol = symbol; said = said }) asked = some-same asks in
        let same : symbol ≡ asked.symbol = ap (λ (a : PageWords). a.symbol) both in
        record {
          symbol = ap is_symbol (sym (ap (λ (r : PageRequest). r.symbol) all)) ∙ ap is_symbol (sym (named ∙ same)) ∙ is;
          orders = ap is_path (sym (ap (λ (r : PageRequest). r.logs.orders) all)) ∙ one;
          trades = ap is_path (sym (ap (λ (r : PageRequest). r.logs.trades) all)) ∙ other;
        }

rule-read : (the_rule : Rule) → rule_named (rule_word the_rule) ≡ Some the_rule
rule-read rule.Matching = refl
rule-read rule.Fair = refl
rule-read rule.Uniform = refl
rule-read rule.Maximum = refl
rule-read rule.Continuous = refl

-- the word of a rule is no option, so no `--` is looked for behind it
rule-plain : (the_rule : Rule) → is_path (rule_word the_rule) ≡ true
rule-plain rule.Matching = refl
rule-plain rule.Fair = refl
rule-plain rule.Uniform = refl
rule-plain rule.Maximum = refl
rule-plain rule.Continuous = refl

rule-long : (the_rule : Rule) → HasByte (rule_word the_rule)
rule-long rule.Matching = omega arith
rule-long rule.Fair = omega arith
rule-long rule.Uniform = omega arith
rule-long rule.Maximum = omega arith
rule-long rule.Continuous = omega arith

symbol-long : (symbol : List ℕ) → is_symbol symbol ≡ true → HasByte symbol
symbol-long symbol is =
    let name = (and_parts (is_name symbol) (not (is_option symbol)) is).0 in
    let sized = (and_parts (nat_le 1 (length symbol) && nat_le (length symbol) 64) (list_all is_name_byte symbol) name).0 in
    let some = leb-true 1 (length symbol) (and_parts (nat_le 1 (length symbol)) (nat_le (length symbol) 64) sized).0 in
    omega arith

path-long : (path : List ℕ) → is_path path ≡ true → HasByte path
path-long [] is = absurd (true≢false (sym is))
path-long (byte ∷ rest) is = omega arith

-- the word `fix` alone
last : All HasByte (codes "fix" ∷ [])
last = All-cons HasByte (codes "fix") [] (omega arith) (All-nil HasByte)

-- each word of the options has a byte
options-long : (one other : List ℕ) (orders trades : Form) → HasByte one → HasByte other → All HasByte (form_option one orders ++ form_option other trades)
options-long one other Csv Csv a b = All-nil HasByte
options-long one other Csv Fix a b = All-cons HasByte other (codes "fix" ∷ []) b last
options-long one other Fix Csv a b = All-cons HasByte one (codes "fix" ∷ []) a last
options-long one other Fix Fix a b = All-cons HasByte one (codes "fix" ∷ other ∷ codes "fix" ∷ []) a
    (All-cons HasByte (codes "fix") (other ∷ codes "fix" ∷ []) (omega arith) (All-cons HasByte other (codes "fix" ∷ []) b last))

-- the words of `offences` for a page
abbrev asking : Rule → List ℕ → List ℕ → List ℕ → Form → Form → List (List ℕ)
asking the_rule symbol orders trades of_orders of_trades = codes "offences" ∷ rule_word the_rule ∷ symbol ∷ orders ∷ trades
    ∷ form_option (codes "--orders-form") of_orders ++ form_option (codes "--trades-form") of_trades

-- what they ask for
abbrev asked_for : Rule → List ℕ → List ℕ → List ℕ → Form → Form → DeskRequest
asked_for the_rule symbol orders trades of_orders of_trades = Whole (Offences the_rule symbol
    (record { orders = orders; trades = trades; orders_form = of_orders; trades_form = of_trades }) false no_checks)

asks-as : (the_rule : Rule) (symbol orders trades : List ℕ) (of_orders of_trades : Form) → is_symbol symbol ≡ true → is_path orders ≡ true → is_path trades ≡ true
    → desk_request_of (asking the_rule symbol orders trades of_orders of_trades) ≡ Some (asked_for the_rule symbol orders trades of_orders of_trades)
asks-as the_rule symbol orders trades Csv Csv s o t = rw (rule-plain the_rule, rule-read the_rule, s, o, t) refl
asks-as the_rule symbol orders trades Csv Fix s o t = rw (rule-plain the_rule, rule-read the_rule, s, o, t) refl
asks-as the_rule symbol orders trades Fix Csv s o t = rw (rule-plain the_rule, rule-read the_rule, s, o, t) refl
asks-as the_rule symbol orders trades Fix Fix s o t = rw (rule-plain the_rule, rule-read the_rule, s, o, t) refl

-- the options of both logs
abbrev options : PageLogs → List (List ℕ)
options named = form_option (codes "--orders-form") named.orders_form ++ form_option (codes "--trades-form") named.trades_form

pub tells-words : ShellReadsCommand → PageTellsItsWords
tells-words reads words request found totals digests named asked names =
    let well = names-well words request asked in
    let path = λ (p q : List ℕ) (e : p ≡ q) (is : is_path q ≡ true). path-long p (ap is_path e ∙ is) in
    let moved : desk_request_of (asking request.rule request.symbol named.orders.now named.trades.now named.orders_form named.trades_form) ≡ desk_request_of (asking request.rule request.symbol request.logs.orders request.logs.trades request.logs.orders_form request.logs.trades_form) =
    λ i. desk_request_of (asking request.rule request.symbol (names.orders_are i) (names.trades_are i) (names.orders_form_is i) (names.trades_form_is i)) in
    record {
      shell = reads (words_on_page request found totals named)
          (All-cons HasByte (codes "offences") (rule_word request.rule ∷ request.symbol ∷ named.orders.now ∷ named.trades.now ∷ options named) (omega arith)
          (All-cons HasByte (rule_word request.rule) (request.symbol ∷ named.orders.now ∷ named.trades.now ∷ options named) (rule-long request.rule)
          (All-cons HasByte request.symbol (named.orders.now ∷ named.trades.now ∷ options named) (symbol-long request.symbol well.symbol)
          (All-cons HasByte named.orders.now (named.trades.now ∷ options named) (path named.orders.now request.logs.orders names.orders_are well.orders)
          (All-cons HasByte named.trades.now (options named) (path named.trades.now request.logs.trades names.trades_are well.trades)
          (options-long (codes "--orders-form") (codes "--trades-form") named.orders_form named.trades_form (omega arith) (omega arith)))))));
      asks = moved ∙ asks-as request.rule request.symbol request.logs.orders request.logs.trades request.logs.orders_form request.logs.trades_form well.symbol well.orders well.trades;
    }

-- with nothing found beyond the rule, the answer to an accepted log is its text
accepted-begins : (quoted : QuotedRecords) (accepted : Accepted) (found : List FurtherFinding) (the_status : Status) (text : List ℕ) → found ≡ []
    → IsAnswerToAccepted quoted accepted found the_status text → BeginsWithVerdict (verdict.Accepted accepted) the_status text
accepted-begins quoted accepted [] the_status text none answer = record {
  status_is = answer.status_is;
  rest = [];
  text_is = answer.text_is ∙ sym (append-nil (accepted_text accepted));
}
accepted-begins quoted accepted (first ∷ rest) the_status text none answer = absurd cc

pub has-verdict : RecordVerdictIsOne → NothingIsFoundUnasked → OffencesHaveThePagesVerdict
has-verdict one unasked request entries paired the_verdict the_status text is present =
    begins the_verdict (one (page_question request) entries paired the_verdict present.the_verdict is present.is)
  where
    by : (v : Verdict) → IsAnswerByVerdict (offences_question request) entries paired v the_status text → BeginsWithVerdict v the_status text
    by (verdict.Accepted accepted) answer =
        let orders = order_list request.symbol entries in
        let trades = paired_trades paired in
        accepted-begins (quoted_records false request.symbol entries paired) accepted (further_findings_of_symbol no_checks orders request.symbol trades) the_status text
        (unasked no_checks orders (deals_of_symbol orders request.symbol trades) (times_of_symbol request.symbol trades) refl) answer
    by (verdict.Rejected first) answer = record {
      status_is = answer.status_is;
      rest = offence_lines (orders_under_rule (offences_question request) entries paired) (quoted_records false request.symbol entries paired)
          (record_offences request.rule request.symbol entries paired (Some first));
      text_is = answer.text_is;
    }
    by (verdict.Malformed log bad) answer = absurd answer

    begins : (v : Verdict) → v ≡ present.the_verdict → BeginsWithVerdict v the_status text
    begins v same = subst (λ (w : Verdict). BeginsWithVerdict w the_status text) (sym same) (by present.the_verdict present.answer)
