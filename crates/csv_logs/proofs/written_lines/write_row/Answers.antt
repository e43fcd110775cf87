use Rattle.std.proofs.Common.{Bor, List, ℕ, map, ap, subst, ◌∙◌}
use Rattle.std.proofs.lemmas.List.{length-map}
use Rattle.std.specs.Io.KnownBytes.{Appends}
use Rattle.csv.specs.Writing.{row_text, text_written}
use Rattle.csv.specs.declared.writer.WriterBuilder.{WriterBuilder}
use Rattle.csv_logs.proofs.WrittenLemmas.{row-line}
use Rattle.csv_logs.proofs.written_lines.write_row.Goals as goal
use Rattle.csv_logs.proofs.written_lines.write_row.Goals.{in-Ok, in-Err}

pub returns-clause-written : goal.returns-clause-written
returns-clause-written g c = elim c.match-write_fields.branch [
  | in-Ok w ↦
      let fields : List (List ℕ) = map (λ (field : Bor (List ℕ)). field.now) c.args.fields.now in
      let necessary = ap (λ (setup : WriterBuilder). setup.style) c.requires.at_line.setup in
      let row = ap (λ (setup : WriterBuilder). row_text setup fields) c.requires.at_line.setup ∙ row-line fields (length-map c.args.fields.now _ ∙ c.requires.nine) c.requires.unquoted in
      rw w.result-is (subst (Appends (text_written g.W.Write.contents c.args.writer.now) (text_written g.W.Write.contents c.write_fields.new.self)) row
      (w.in-Ok.ensures.bytes c.requires.at_line.fields c.requires.at_line.bytes (λ other. absurd (cc (necessary, other)))))
  | in-Err w ↦ rw w.result-is tt
]
