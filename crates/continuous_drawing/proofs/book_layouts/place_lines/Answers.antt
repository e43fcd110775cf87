use Rattle.std.proofs.Common.{◌≡◌, ◌∙◌, Vec, Global, arith, length}
use Rattle.continuous_drawing.specs.declared.book_layouts.PlacedLine.{PlacedLine}
use Rattle.continuous_drawing.proofs.RowLemmas.{placed-all, placed-more, placed-start}
use Rattle.continuous_drawing.proofs.book_layouts.place_lines.Goals as goal

vec-long : (v : Vec PlacedLine Global) → v.len ≡ length v.items
vec-long v = omega (arith, v.ok.0)

pub loop-line-init : goal.loop-line-init
loop-line-init c = placed-start c.args.orders.now c.args.most c.args.first c.args.lines.now _ c.new-placed.ensures.items

pub loop-line-preserved : goal.loop-line-preserved
loop-line-preserved c =
    placed-more c.args.orders.now c.args.most c.args.first c.args.lines.now c.loop-line.line-index _ c.top_below-top.result c.line-item.result c.place_line.result _ _
    c.loop-line-test.true c.line-item.is (c.len.ensures ∙ vec-long c.loop-line.placed) c.top_below-top.ensures c.place_line.ensures c.in_ok-push_line.ensures c.loop-line.invariant

pub returns : goal.returns
returns c = placed-all c.args.orders.now c.args.most c.args.first c.args.lines.now c.loop-line.line-index _ c.loop-line-test.false c.loop-line.invariant
