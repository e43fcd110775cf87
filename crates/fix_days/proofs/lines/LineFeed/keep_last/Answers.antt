use Rattle.std.proofs.Common.{◌≡◌, length, arith}
use Rattle.fix_days.proofs.LineLemmas.{kept-six, stops-none}
use Rattle.fix_days.proofs.lines.LineFeed.keep_last.Goals as goal

pub returns-then-length-self-lt6 : goal.returns-then-length-self-lt6
returns-then-length-self-lt6 g c = λ ended.
    stops-none g.S.SohGhost.text g.B.Bodies.has_taken c.args.self.now c.drop_to.new.self c.args.self.now.next c.args.self.now.searched c.requires.good c.requires.none c.drop_to.ensures (omega arith) c.requires.within (λ left is. is) ended

pub returns-else-length-self-lt6 : goal.returns-else-length-self-lt6
returns-else-length-self-lt6 g c = λ ended.
    let same : c.len-length.result ≡ length c.args.self.now.held.items = omega (arith, c.len-length.ensures, c.args.self.now.held.ok.0) in
    stops-none g.S.SohGhost.text g.B.Bodies.has_taken c.args.self.now c.drop_to-else-length-self-lt6.new.self _ 1 c.requires.good c.requires.none c.drop_to-else-length-self-lt6.ensures (omega (arith, c.if-length-self-lt6.false, c.len-length.ensures, c.requires.within)) (omega (arith, c.len-length.ensures))
    (kept-six g.S.SohGhost.text g.B.Bodies.has_taken c.args.self.now c.len-length.result same (omega (arith, c.if-length-self-lt6.false, c.len-length.ensures, c.requires.within)) c.requires.none) ended
