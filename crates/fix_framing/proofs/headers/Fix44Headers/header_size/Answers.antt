use Rattle.std.proofs.Common.{sym, ◌∙◌}
use Rattle.fix_framing.specs.Headers.{header}
use Rattle.fix_framing.proofs.HeaderTestLemmas.{fix44-size, fix44-found, fix44-cut}
use Rattle.fix_framing.proofs.headers.Fix44Headers.header_size.Goals as goal

pub returns-then-starts_with-clause-size : goal.returns-then-starts_with-clause-size
unfolding header
returns-then-starts_with-clause-size c =
    fix44-size c.args.text.now (sym c.starts_with.ensures.value ∙ c.if-starts_with.true)

pub returns-then-starts_with-clause-tests : goal.returns-then-starts_with-clause-tests
unfolding header
returns-then-starts_with-clause-tests c =
    fix44-found c.args.text.now (sym c.starts_with.ensures.value ∙ c.if-starts_with.true)

pub returns-then-starts_with-2-clause-tests : goal.returns-then-starts_with-2-clause-tests
unfolding header
returns-then-starts_with-2-clause-tests c =
    fix44-cut c.args.text.now (sym c.starts_with.ensures.value ∙ c.if-starts_with.false) (sym c.starts_with-2.ensures.value ∙ c.if-starts_with-2.true)
