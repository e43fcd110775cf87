use denote.Ref.{Bor}
use Rattle.std.proofs.Common.{ℕ, List, [], sym, ◌∙◌}
use Rattle.fix_framing.proofs.HeaderTestLemmas.{among-size, among-found, among-cut, among-other}
use Rattle.fix_framing.proofs.headers.size_among.Goals as goal

pub returns-in-Some-clause-size : goal.returns-in-Some-clause-size
returns-in-Some-clause-size c =
    among-size (λ (head : Bor (List ℕ)). head.now) c.args.headers.now c.args.text.now c.in-Some.index _ c.requires (sym c.header_index.ensures ∙ c.in-Some.is)

pub returns-in-Some-clause-tests : goal.returns-in-Some-clause-tests
returns-in-Some-clause-tests c =
    among-found (λ (head : Bor (List ℕ)). head.now) c.args.headers.now c.args.text.now c.in-Some.index (record { ref_ptr = (0, 0); now = [] }) c.requires (sym c.header_index.ensures ∙ c.in-Some.is)

pub returns-in-None-clause-tests : goal.returns-in-None-clause-tests
returns-in-None-clause-tests c =
    among-cut (λ (head : Bor (List ℕ)). head.now) c.args.headers.now c.args.text.now (sym c.header_index.ensures ∙ c.in-None.is) (sym c.ends_within.ensures ∙ c.if-ends_within.true)

pub returns-in-None-2-clause-tests : goal.returns-in-None-2-clause-tests
returns-in-None-2-clause-tests c =
    among-other (λ (head : Bor (List ℕ)). head.now) c.args.headers.now c.args.text.now (sym c.header_index.ensures ∙ c.in-None.is) (sym c.ends_within.ensures ∙ c.if-ends_within.false)
