use Rattle.csv_logs.proofs.ReaderLemmas.{gives-line, reads-line}
use Rattle.csv_logs.proofs.reader.next_fields.Goals as goal
use Rattle.csv_logs.proofs.reader.next_fields.Goals.{in-Ok-true, in_default, in_default-2}

pub returns : goal.returns
returns g c = elim c.match-read_byte_record.branch [
  | in-Ok-true w ↦
      rw w.result-is (λ line later unquoted full is.
      let read = rw w.in-Ok-true.field-0-test at (w.in-Ok-true.ensures.reads is.setup.trim is.setup.ready) in
      reads-line g.I.Read.remaining c.args.reader.now c.read_byte_record.new.self line later _ _ (gives-line line later unquoted full) is read (w.in-Ok-true.ensures.ready is.setup.trim) w.in-Ok-true.ensures.goes w.in-Ok-true.ensures.flexible)
  | in_default w ↦ rw w.result-is tt
  | in_default-2 w ↦ rw w.result-is tt
]
