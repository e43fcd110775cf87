use Rattle.log_contents.proofs.CsvLemmas.{facts-room, kinds-room, taken-more}
use Rattle.log_contents.proofs.csv_contents.ContentsCollector.take.Goals as goal

pub count-requires : goal.count-requires
count-requires g c = kinds-room _ _ g.R.KindRecord.kind_of c.args.self.now c.requires

pub take-requires : goal.take-requires
take-requires g c = facts-room _ _ g.R.KindRecord.kind_of c.args.self.now c.requires

pub returns : goal.returns
returns g c = taken-more _ _ g.R.KindRecord.kind_of c.args.self.now _ c.args.entry _ c.take.result c.kind.ensures c.in_ok-count.ensures c.take.ensures
