use Rattle.std.proofs.Common.{◌∙◌, sym}
use Rattle.std.specs.String.{string_bytes}
use Rattle.desk_words.specs.WordOrder.{is_mark}
use Rattle.desk_words.proofs.OrderLemmas.{none-found}
use Rattle.desk_words.proofs.word_order.words_before_mark.Goals as goal

pub returns-in-None-clause-count : goal.returns-in-None-clause-count
returns-in-None-clause-count c = none-found (λ word. is_mark (string_bytes word)) c.args.words.now (sym c.first_mark.ensures ∙ c.in-None.is)
