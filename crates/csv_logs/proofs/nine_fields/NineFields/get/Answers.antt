use Rattle.std.proofs.Common.{List, ℕ, ap, ◌∙◌, arith}
use Rattle.csv.specs.Records.{field_at}
use Rattle.csv_logs.proofs.FieldLemmas.{text-at, text-none}
use Rattle.csv_logs.proofs.nine_fields.NineFields.get.Goals as goal

pub returns-then-index-lt9 : goal.returns-then-index-lt9
returns-then-index-lt9 c =
    text-at c.self.inside.texts c.args.index _ (omega (arith, c.self.told, c.if-index-lt9.true))
    ∙ ap (λ (texts : List (List ℕ)). field_at texts c.args.index) c.self.view_is

pub returns-else-index-lt9 : goal.returns-else-index-lt9
returns-else-index-lt9 c =
    text-none c.self.inside.texts c.args.index (omega (arith, c.self.told, c.if-index-lt9.false))
    ∙ ap (λ (texts : List (List ℕ)). field_at texts c.args.index) c.self.view_is
