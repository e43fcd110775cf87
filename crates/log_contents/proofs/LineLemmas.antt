-- The kinds of a log have plain bytes alone, and the text of two logs is its lines.
use Rattle.std.proofs.Common.{◌≡◌, ℕ, ◌<◌, Bool, true, false, cond, Option, Some, None, Result, Ok, Err, List, [], ◌∷◌, ◌++◌, All, length, map, not, refl, sym, ap, subst, ◌∙◌, inl, inr, append-nil}
use Rattle.std.specs.Prelude.{nat_le, ◌&&◌, codes}
use Rattle.std.specs.Char.{is_ascii_alphanumeric}
use Rattle.std.specs.List.{filter, flat_map, list_all}
use Rattle.std.proofs.lemmas.Bool.{and_from, and_parts, cond_both}
use Rattle.std.proofs.lemmas.Grind.{flat_map-append}
use Rattle.std.proofs.lemmas.List.Elements.{All-nil, All-cons, All-head, All-tail, All-filter, All-append}
use Rattle.audit_base.specs.Histories.{symbol_of, time_of}
use Rattle.audit_base.specs.Moments.{Moment}
use Rattle.audit_base.specs.Orders.{same_name}
use Rattle.audit_base.specs.declared.faults.BadPlace.{BadPlace}
use Rattle.audit_base.specs.declared.faults.Reason.{Reason}
use Rattle.audit_base.specs.declared.records.OrderRecord.{OrderRecord}
use Rattle.audit_base.specs.declared.records.OrderRecord.TheVariants.{New, Cancel, Replace}
use Rattle.audit_base.specs.declared.terms.Form.{Form}
use Rattle.audit_base.specs.declared.terms.Form.TheVariants.{Csv, Fix}
use Rattle.audit_base.specs.declared.terms.Life.{Life}
use Rattle.audit_base.specs.declared.terms.Life.TheVariants as life
use Rattle.audit_base.specs.declared.terms.Which.{Which}
use Rattle.audit_base.specs.declared.terms.Which.TheVariants.{Orders, Trades}
use Rattle.csv_logs.specs.Logs.{csv_order_records, csv_trade_records}
use Rattle.day_symbols.specs.Symbols.{distinct_names}
use Rattle.fix_fields.specs.Grammar.{TagValue, begins_with_type}
use Rattle.fix_framing.specs.declared.frames.FrameFault.{FrameFault}
use Rattle.fix_messages.specs.declared.meanings.MessageFault.{MessageFault}
use Rattle.fix_messages.specs.BodyFields.{split_of}
use Rattle.fix_messages.specs.Bodies.{MessageMeaning, body_says, says_of, with_reason}
use Rattle.fix_messages.specs.Logs.{MessageItem, after_item, fix_order_records, fix_report_records, item_says, items_from, read_fix_log, read_items}
use Rattle.fix_messages.specs.OrderTables.{order_of_message}
use Rattle.fix_messages.specs.ReportTable.{report_of_message}
use Rattle.fix_messages.specs.Rows.{has_value_of, is_copy, is_value_word, type_of, value_of}
use Rattle.log_contents.specs.Counts.{count_of_kind}
use Rattle.log_contents.specs.DayItems.{csv_items, fix_items, order_log_items, trade_log_items}
use Rattle.log_contents.specs.Kinds.{execution_text, is_told, kind_by_meaning, kind_of_life, kind_of_message, kind_of_order, kind_of_trade, kinds_of_messages, longest_told, passed_kind, told_value, why_passed_over}
use Rattle.log_contents.specs.Summaries.{LogItems, log_items}
use Rattle.log_contents.specs.Texts.{IsContentsText, attention_line, attention_line_if_needed, attention_lines, contents_text, counted_line, kind_lines, needs_attention, symbols_line, times_line}
use Rattle.log_contents.specs.ToldLines.{HasContentsLines, IsContentsLine, IsPlainKind, is_kind_byte}
use Rattle.log_contents.specs.declared.time_spans.TimeSpan.{TimeSpan}

-- letters and digits are plain
letters-plain : (text : List ℕ) → list_all is_ascii_alphanumeric text ≡ true → IsPlainKind text
letters-plain [] are = refl
letters-plain (byte ∷ text) are =
    let parts = and_parts (is_ascii_alphanumeric byte) (list_all is_ascii_alphanumeric text) are in
    rw parts.0 (letters-plain text parts.1)

-- a value is plain as it is told
told-plain : (value : List ℕ) → IsPlainKind (told_value value)
told-plain value = cond_both (is_told value) _ _ IsPlainKind
    (λ is. letters-plain value (and_parts (nat_le 1 (length value) && nat_le (length value) longest_told) (list_all is_ascii_alphanumeric value) is).1)
    (λ _. refl)

execution-plain : (fields : List TagValue) → IsPlainKind (execution_text fields)
execution-plain fields = cond_both (has_value_of 150 fields) _ _ IsPlainKind (λ _. told-plain (value_of 150 fields)) (λ _. refl)

-- the kind of a message that is passed over
passed-plain : (fields : List TagValue) → IsPlainKind (passed_kind fields)
passed-plain fields =
    let why : IsPlainKind (why_passed_over fields) =
    cond_both (is_copy fields) _ _ IsPlainKind (λ _. refl) (λ _.
    cond_both (is_value_word (codes "8") (type_of fields)) _ _ IsPlainKind (λ _. execution-plain fields) (λ _. told-plain (type_of fields))) in
    why

-- the kind of a message, by what it means
meant-plain : {R : Type 0} (fields : List TagValue) (says : Result (Option R) MessageFault) (kind : List ℕ) → with_reason (kind_by_meaning fields says) ≡ Ok (Some kind) → IsPlainKind kind
meant-plain fields (Ok None) kind is = let same : passed_kind fields ≡ kind = cc in subst IsPlainKind same (passed-plain fields)
meant-plain fields (Ok (Some entry)) kind is = let same : told_value (type_of fields) ≡ kind = cc in subst IsPlainKind same (told-plain (type_of fields))
meant-plain fields (Err fault) kind is = absurd (cc is)

-- the kind of a message, by its body
typed-plain : {R : Type 0} (fields : List TagValue) (says : Result (Option R) MessageFault) (typed : Bool) (why : Reason) (kind : List ℕ)
    → cond typed (with_reason (kind_by_meaning fields says)) (Err why) ≡ Ok (Some kind) → IsPlainKind kind
typed-plain fields says true why kind is = meant-plain fields says kind is
typed-plain fields says false why kind is = absurd (cc is)

split-plain : {R : Type 0} (meaning : MessageMeaning R) (fields : List TagValue) (left : List ℕ) (kind : List ℕ) → says_of (kind_of_message meaning) fields left ≡ Ok (Some kind) → IsPlainKind kind
split-plain meaning fields [] kind is = typed-plain fields (meaning fields) (begins_with_type fields) _ kind is
split-plain meaning fields (byte ∷ left) kind is = absurd (cc is)

body-plain : {R : Type 0} (meaning : MessageMeaning R) (body kind : List ℕ) → body_says (kind_of_message meaning) body ≡ Ok (Some kind) → IsPlainKind kind
unfolding body_says
body-plain meaning body kind is = split-plain meaning (split_of body).fields (split_of body).left kind is

-- the kinds of items, by those of their bodies
module _ (says : List ℕ → Result (Option (List ℕ)) Reason) (plain : (body kind : List ℕ) → says body ≡ Ok (Some kind) → IsPlainKind kind) where
  item-plain : (body : Result (List ℕ) FrameFault) (kind : List ℕ) → item_says says body ≡ Ok (Some kind) → IsPlainKind kind
  item-plain (Ok body) kind is = plain body kind is
  item-plain (Err fault) kind is = absurd (cc is)

  after-plain : (start : ℕ) (one : Result (Option (List ℕ)) Reason) (later : Result (List (List ℕ)) BadPlace) → ((kind : List ℕ) → one ≡ Ok (Some kind) → IsPlainKind kind)
      → ((kinds : List (List ℕ)) → later ≡ Ok kinds → All IsPlainKind kinds) → (kinds : List (List ℕ)) → after_item start one later ≡ Ok kinds → All IsPlainKind kinds
  after-plain start (Ok None) later first rest kinds is = rest kinds is
  after-plain start (Ok (Some kind)) (Ok more) first rest kinds is =
      let same : kind ∷ more ≡ kinds = cc in
      subst (All IsPlainKind) same (All-cons IsPlainKind kind more (first kind refl) (rest more refl))
  after-plain start (Ok (Some kind)) (Err bad) first rest kinds is = absurd (cc is)
  after-plain start (Err why) later first rest kinds is = absurd (cc is)

  items-plain : (items : List MessageItem) (kinds : List (List ℕ)) → read_items says items ≡ Ok kinds → All IsPlainKind kinds
  items-plain [] kinds is = let none : [] ≡ kinds = cc in subst (All IsPlainKind) none (All-nil IsPlainKind)
  items-plain (item ∷ items) kinds is =
      after-plain item.start (item_says says item.body) (read_items says items) (item-plain item.body) (items-plain items) kinds is

-- the kinds of the messages of a log
messages-plain : {R : Type 0} (meaning : MessageMeaning R) (log : List ℕ) (kinds : List (List ℕ)) → kinds_of_messages meaning log ≡ Ok kinds → All IsPlainKind kinds
unfolding read_fix_log
messages-plain meaning log kinds is = items-plain (body_says (kind_of_message meaning)) (body-plain meaning) (items_from 0 0 log) kinds is

-- the kinds of records
life-plain : (l : Life) → IsPlainKind (kind_of_life l)
life-plain life.Rests = refl
life-plain life.Immediate = refl
life-plain life.Market = refl

order-plain : (entry : OrderRecord) → IsPlainKind (kind_of_order entry)
order-plain (New key time symbol side quantity price l) = life-plain l
order-plain (Cancel key time symbol target) = refl
order-plain (Replace key time symbol target side quantity price) = refl

map-plain : {R : Type 0} (kind_of : R → List ℕ) → ((entry : R) → IsPlainKind (kind_of entry)) → (entries : List R) → All IsPlainKind (map kind_of entries)
map-plain kind_of each [] = All-nil IsPlainKind
map-plain kind_of each (entry ∷ entries) = All-cons IsPlainKind (kind_of entry) (map kind_of entries) (each entry) (map-plain kind_of each entries)

-- the kinds of a log, in either form
csv-plain : {R : Type 0} (symbol_of : R → List ℕ) (time_of : R → Moment) (kind_of : R → List ℕ) → ((entry : R) → IsPlainKind (kind_of entry)) → (said : Result (List R) BadPlace) (items : LogItems)
    → csv_items symbol_of time_of kind_of said ≡ Ok items → All IsPlainKind items.kinds
csv-plain symbol_of time_of kind_of each (Ok entries) items is =
    let same : log_items symbol_of time_of (map kind_of entries) entries ≡ items = cc in
    subst (λ (i : LogItems). All IsPlainKind i.kinds) same (map-plain kind_of each entries)
csv-plain symbol_of time_of kind_of each (Err bad) items is = absurd (cc is)

fix-plain : {R : Type 0} (symbol_of : R → List ℕ) (time_of : R → Moment) (said : Result (List R) BadPlace) (kinds : Result (List (List ℕ)) BadPlace) (items : LogItems)
    → ((list : List (List ℕ)) → kinds ≡ Ok list → All IsPlainKind list) → fix_items symbol_of time_of said kinds ≡ Ok items → All IsPlainKind items.kinds
fix-plain symbol_of time_of (Ok entries) (Ok kinds) items each is =
    let same : log_items symbol_of time_of kinds entries ≡ items = cc in
    subst (λ (i : LogItems). All IsPlainKind i.kinds) same (each kinds refl)
fix-plain symbol_of time_of (Ok entries) (Err bad) items each is = absurd (cc is)
fix-plain symbol_of time_of (Err bad) kinds items each is = absurd (cc is)

orders-plain : (form : Form) (bytes : List ℕ) (items : LogItems) → order_log_items form bytes ≡ Ok items → All IsPlainKind items.kinds
orders-plain Csv bytes items is = csv-plain symbol_of time_of kind_of_order order-plain (csv_order_records bytes) items is
orders-plain Fix bytes items is = fix-plain symbol_of time_of (fix_order_records bytes) (kinds_of_messages order_of_message bytes) items (messages-plain order_of_message bytes) is

trades-plain : (form : Form) (bytes : List ℕ) (items : LogItems) → trade_log_items form bytes ≡ Ok items → All IsPlainKind items.kinds
trades-plain Csv bytes items is = csv-plain _ _ kind_of_trade (λ trade. refl) (csv_trade_records bytes) items is
trades-plain Fix bytes items is = fix-plain _ _ (fix_report_records bytes) (kinds_of_messages report_of_message bytes) items (messages-plain report_of_message bytes) is

-- each once they are as plain
distinct-plain : (kinds : List (List ℕ)) → All IsPlainKind kinds → All IsPlainKind (distinct_names kinds)
distinct-plain [] each = All-nil IsPlainKind
distinct-plain (kind ∷ kinds) each =
    All-cons IsPlainKind kind _ (All-head IsPlainKind kind kinds each)
    (All-filter (λ (other : List ℕ). not (same_name kind other)) IsPlainKind (distinct_names kinds) (distinct-plain kinds (All-tail IsPlainKind kind kinds each)))

-- lines, one after another
no-line : HasContentsLines []
no-line = record { lines = []; each = All-nil IsContentsLine; text_is = refl }

one-line : (line : List ℕ) → IsContentsLine line → HasContentsLines line
one-line line is = record { lines = line ∷ []; each = All-cons IsContentsLine line [] is (All-nil IsContentsLine); text_is = sym (append-nil line) }

more-lines : (text more : List ℕ) → HasContentsLines text → HasContentsLines more → HasContentsLines (text ++ more)
more-lines text more has then =
    record {
      lines = has.lines ++ then.lines;
      each = All-append IsContentsLine has.lines then.lines has.each then.each;
      text_is = ap (λ (t : List ℕ). t ++ more) has.text_is ∙ ap (λ (t : List ℕ). flat_map (λ (line : List ℕ). line) has.lines ++ t) then.text_is
          ∙ sym (flat_map-append (λ (line : List ℕ). line) has.lines then.lines);
    }

-- the lines of kinds
each-lines : (line : List ℕ → List ℕ) → ((kind : List ℕ) → IsPlainKind kind → HasContentsLines (line kind)) → (kinds : List (List ℕ)) → All IsPlainKind kinds → HasContentsLines (flat_map line kinds)
each-lines line has [] each = no-line
each-lines line has (kind ∷ kinds) each =
    more-lines (line kind) (flat_map line kinds) (has kind (All-head IsPlainKind kind kinds each)) (each-lines line has kinds (All-tail IsPlainKind kind kinds each))

counted-lines : (log : Which) (kinds : List (List ℕ)) → All IsPlainKind kinds → HasContentsLines (kind_lines log kinds)
counted-lines log kinds each =
    each-lines (λ (kind : List ℕ). counted_line log kind (count_of_kind kind kinds))
    (λ kind plain. one-line _ (inl (record { log = log; kind = kind; count = count_of_kind kind kinds; plain = plain; line_is = refl })))
    (distinct_names kinds) (distinct-plain kinds each)

attention-lines : (log : Which) (kinds : List (List ℕ)) → All IsPlainKind kinds → HasContentsLines (attention_lines log kinds)
attention-lines log kinds each =
    each-lines (λ (kind : List ℕ). attention_line_if_needed log kind (count_of_kind kind kinds))
    (λ kind plain. cond_both (needs_attention kind) _ _ HasContentsLines
    (λ asks. one-line _ (inr (inl (record { log = log; kind = kind; count = count_of_kind kind kinds; plain = plain; asks = asks; line_is = refl }))))
    (λ _. no-line))
    (distinct_names kinds) (distinct-plain kinds each)

times-lines : (log : Which) (times : Option TimeSpan) → HasContentsLines (times_line log times)
times-lines log None = no-line
times-lines log (Some span) = one-line _ (inr (inr (inr (record { log = log; span = span; line_is = refl }))))

-- the parts of the text of two logs
seven-parts : (a b c d e f g : List ℕ) → HasContentsLines a → HasContentsLines b → HasContentsLines c → HasContentsLines d → HasContentsLines e → HasContentsLines f → HasContentsLines g
    → HasContentsLines ((((((a ++ b) ++ c) ++ d) ++ e) ++ f) ++ g)
seven-parts a b c d e f g is-a is-b is-c is-d is-e is-f is-g =
    more-lines (((((a ++ b) ++ c) ++ d) ++ e) ++ f) g (more-lines ((((a ++ b) ++ c) ++ d) ++ e) f (more-lines (((a ++ b) ++ c) ++ d) e
    (more-lines ((a ++ b) ++ c) d (more-lines (a ++ b) c (more-lines a b is-a is-b) is-c) is-d) is-e) is-f) is-g

symbols-lines : (count : ℕ) → HasContentsLines (symbols_line count)
symbols-lines count = one-line (symbols_line count) (inr (inr (inl (record { count = count; line_is = refl }))))

-- the lines of the text of two logs
pub text-lines : (orders_form trades_form : Form) (orders trades text : List ℕ) (order_items trade_items : LogItems) → order_log_items orders_form orders ≡ Ok order_items
    → trade_log_items trades_form trades ≡ Ok trade_items → IsContentsText order_items trade_items text → HasContentsLines text
text-lines orders_form trades_form orders trades text order_items trade_items order_is trade_is is =
    let order_kinds : All IsPlainKind order_items.kinds = orders-plain orders_form orders order_items order_is in
    let trade_kinds : All IsPlainKind trade_items.kinds = trades-plain trades_form trades trade_items trade_is in
    subst HasContentsLines (sym is.text_is)
    (seven-parts (kind_lines Orders order_items.kinds) (kind_lines Trades trade_items.kinds) (attention_lines Orders order_items.kinds) (attention_lines Trades trade_items.kinds)
    (symbols_line (length (distinct_names (order_items.symbols ++ trade_items.symbols)))) (times_line Orders is.order_times) (times_line Trades is.trade_times)
    (counted-lines Orders order_items.kinds order_kinds) (counted-lines Trades trade_items.kinds trade_kinds)
    (attention-lines Orders order_items.kinds order_kinds) (attention-lines Trades trade_items.kinds trade_kinds)
    (symbols-lines (length (distinct_names (order_items.symbols ++ trade_items.symbols)))) (times-lines Orders is.order_times) (times-lines Trades is.trade_times))
