use Rattle.std.proofs.lemmas.Result.{on_ok_weaker}
use Rattle.std.specs.Prelude.{[], ◌∷◌, codes}
use Rattle.fix_messages.specs.Written.{field, head_fields}
use Rattle.fix_messages.proofs.WrittenLemmas.{appends}
use Rattle.fix_messages.proofs.writers.write_cancel.Goals as goal

pub returns-clause-appended : goal.returns-clause-appended
returns-clause-appended c =
    let head = c.args.head.now in
    on_ok_weaker c.write_target.result
    (λ e. appends c.args.body.now.items c.write_head.new.body.items c.write_target.new.body.items (head_fields (codes "F") head.key head.time head.symbol) (field 41 c.args.target.now ∷ []) c.in_ok-write_head.ensures.appended e)
    c.write_target.ensures.appended
