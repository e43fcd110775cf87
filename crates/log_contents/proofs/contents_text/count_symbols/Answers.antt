use Rattle.std.proofs.Common.{◌∙◌, ◌++◌, ◌<◌, ◌≤◌, ap, arith, length, take, ℕ, List}
use Rattle.log_contents.proofs.TextLemmas.{met-all, met-more}
use Rattle.log_contents.proofs.contents_text.count_symbols.Goals as goal

pub loop-index-preserved : goal.loop-index-preserved
loop-index-preserved c = λ names was.
    let test = c.loop-index-test.true in
    let end = c.len-index-end.ensures in
    let inside : c.loop-index.index < length c.args.others.now = omega (arith, test, end) in
    met-more names c.args.others.now c.meet_at.new.symbols c.loop-index.index inside (c.in_ok-meet_at.ensures (names ++ take c.loop-index.index c.args.others.now) (c.loop-index.invariant names was))

pub returns : goal.returns
returns c = λ names more was are.
    let test = c.loop-index-test.false in
    let end = c.len-index-end.ensures in
    let whole : length c.args.others.now ≤ c.loop-index.index = omega (arith, test, end) in
    c.len.ensures ∙ ap (λ (l : List (List ℕ)). length l) (met-all names more c.args.others.now c.loop-index.symbols c.loop-index.index whole are (c.loop-index.invariant names was))
