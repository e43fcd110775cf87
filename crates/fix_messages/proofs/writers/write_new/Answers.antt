use Rattle.std.proofs.lemmas.Result.{on_ok_weaker}
use Rattle.std.specs.Prelude.{◌++◌, codes}
use Rattle.fix_messages.specs.Written.{head_fields, limit_fields, size_fields}
use Rattle.fix_messages.proofs.WrittenLemmas.{appends}
use Rattle.fix_messages.proofs.writers.write_new.Goals as goal

pub returns-clause-appended : goal.returns-clause-appended
returns-clause-appended c =
    let head = head_fields (codes "D") c.args.head.now.key c.args.head.now.time c.args.head.now.symbol in
    let size = size_fields c.args.terms.now.side c.args.terms.now.quantity in
    let limit = limit_fields c.args.life c.args.terms.now.price in
    on_ok_weaker c.write_limit.result
    (λ e. appends c.args.body.now.items c.write_head.new.body.items c.write_limit.new.body.items head (size ++ limit) c.in_ok-write_head.ensures.appended
    (appends c.write_head.new.body.items c.write_size.new.body.items c.write_limit.new.body.items size limit c.in_ok-write_size.ensures.appended e))
    c.write_limit.ensures.appended
