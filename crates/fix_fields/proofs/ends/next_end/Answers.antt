use Rattle.fix_fields.proofs.EndLemmas.{first-of-text, left-behind}
use Rattle.fix_fields.proofs.ends.next_end.Goals as goal

pub returns : goal.returns
returns c = record {
  first = first-of-text c.args.body.now c.args.at c.args.ends.now c.first_from.result c.requires c.first_from.ensures.first;
  left = left-behind c.args.body.now c.args.at c.args.ends.now c.first_from.new.self c.first_from.result c.requires c.first_from.ensures.text c.first_from.ensures.low;
}
