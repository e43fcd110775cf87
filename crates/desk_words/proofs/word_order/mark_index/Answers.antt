use Rattle.std.specs.String.{string_bytes}
use Rattle.desk_words.proofs.OrderLemmas.{index-mapped}
use Rattle.desk_words.proofs.word_order.mark_index.Goals as goal

pub returns-clause-index : goal.returns-clause-index
returns-clause-index c = index-mapped string_bytes c.args.words.now _ c.words_before_mark.result c.words_before_mark.ensures.count c.words_from.ensures
