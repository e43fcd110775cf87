use Rattle.std.proofs.Common.{◌∙◌, ◌++◌, ◌<◌, ap, arith, get_or, length, ℕ, List, []}
use Rattle.log_contents.specs.Counts.{kinds_counted}
use Rattle.log_contents.specs.Texts.{counted_line}
use Rattle.log_contents.proofs.TextLemmas.{kind-more}
use Rattle.log_contents.proofs.contents_text.append_kind_lines.Goals as goal

pub loop-index-preserved : goal.loop-index-preserved
loop-index-preserved c = λ kinds has.
    let test = c.loop-index-test.true in
    let end = c.len-index-end.ensures in
    let inside : c.loop-index.index < length (kinds_counted c.args.kinds.now) = omega (arith, test, end) in
    kind-more (counted_line c.args.log) c.args.kinds.now kinds c.args.out.now.items c.loop-index.out.items c.append_counted_line.new.out.items c.loop-index.index has inside (c.loop-index.invariant kinds has)
    (c.in_ok-append_counted_line.ensures ∙ ap (λ (kind : List ℕ). c.loop-index.out.items ++ counted_line c.args.log kind c.count_at.result) c.kind_at.ensures
    ∙ ap (λ (n : ℕ). c.loop-index.out.items ++ counted_line c.args.log (get_or (kinds_counted c.args.kinds.now) c.loop-index.index []) n) c.count_at.ensures)
