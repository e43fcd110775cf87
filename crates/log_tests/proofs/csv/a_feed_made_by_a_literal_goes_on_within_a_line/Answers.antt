use Rattle.std.proofs.Common.{◌≡◌, [], ◌∷◌, ◌++◌, ◌∙◌, List, ℕ, Ok, true, refl, sym, ap, subst, lit≤}
use Rattle.std.specs.Prelude.{codes, length}
use Rattle.audit_base.specs.declared.records.OrderRecord.{OrderRecord}
use Rattle.audit_base.specs.Columns.{order_columns}
use Rattle.csv_logs.specs.Lines.{Line, nonempty_lines}
use Rattle.csv_logs.specs.Logs.{csv_order_records, read_lines, read_csv_log}
use Rattle.csv_logs.specs.OrderLines.{order_of_row}
use Rattle.csv_logs.specs.Feeds.{HasNoBadLine}
use Rattle.log_tests.proofs.csv.a_feed_made_by_a_literal_goes_on_within_a_line.Goals as goal

-- the header and the first order of the row `one-trade`, and then the front of the second
abbrev first_lines : List ℕ
first_lines = codes "kind,firm,id,time,symbol,side,quantity,price,target\nN,A,b1,20240102-09:00:00,Z,B,100,10,\n"

abbrev second_line : List ℕ
second_line = codes "N,B,s1"

-- the length of a log counts only where it has no header
any-size : (lines : List Line) (size : ℕ) (entries : List OrderRecord) → read_lines order_columns order_of_row size lines ≡ Ok entries
    → read_lines order_columns order_of_row 0 lines ≡ Ok entries
any-size [] size entries e = absurd (cc e)
any-size (first ∷ lines) size entries e = e

open-within : (entries : List OrderRecord) → csv_order_records first_lines ≡ Ok entries
    → HasNoBadLine order_columns order_of_row entries second_line 89 true (first_lines ++ second_line)
unfolding read_csv_log
open-within entries reads = record {
  lines = first_lines;
  cut = refl;
  whole = refl;
  size = refl;
  unfinished = refl;
  good = any-size (nonempty_lines first_lines) (length first_lines) entries reads;
}

-- the literal is a feed of these records, within a line
stands : (entries : List OrderRecord) (new all : List ℕ) → csv_order_records first_lines ≡ Ok entries → new ≡ [] → all ≡ new ++ second_line
    → HasNoBadLine order_columns order_of_row entries all 89 true (first_lines ++ second_line)
stands entries new all reads none rest =
    subst (λ (r : List ℕ). HasNoBadLine order_columns order_of_row entries r 89 true (first_lines ++ second_line)) (sym (rest ∙ ap (λ (t : List ℕ). t ++ second_line) none))
    (open-within entries reads)

pub feed-requires : goal.feed-requires
feed-requires g c = record {
  bytes = first_lines ++ second_line;
  stands = record { entries = _; has = refl; stands = stands _ _ _ c.in_ok-entries.ensures.reads c.new-rest.ensures.items c.in_ok-extend_from_slice.ensures.items };
  room = lit≤ tt;
}

pub finish-requires : goal.finish-requires
finish-requires g c = record {
  log = (first_lines ++ second_line) ++ codes ",20240102-09:00:00,Z,S,100,9,\n";
  stands = c.in_ok-feed.ensures (first_lines ++ second_line) (record { entries = _; has = refl; stands = stands _ _ _ c.in_ok-entries.ensures.reads c.new-rest.ensures.items c.in_ok-extend_from_slice.ensures.items });
  within = lit≤ tt;
}
