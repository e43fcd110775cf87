use Rattle.day_page.proofs.RowLemmas.{broken-said}
use Rattle.day_page.specs.PropertyWords.{record_words}
use Rattle.day_page.proofs.property_words.append_broken_by_record.Goals as goal

pub returns-in_ok-extend_from_slice-in-Some-2 : goal.returns-in_ok-extend_from_slice-in-Some-2
returns-in_ok-extend_from_slice-in-Some-2 c =
    broken-said c.args.word.now c.in-Some.words.now (record_words c.args.word.now) c.args.out.now.items c.extend_from_slice.new.self.items c.extend_from_slice-in-Some.new.self.items
    c.in-Some.ensures c.in_ok-extend_from_slice-in-Some.ensures.items c.in_ok-extend_from_slice-in-Some-2.ensures.items
