use Rattle.std.proofs.Common.{◌-◌, [], ◌++◌, length, take, drop, arith}
use Rattle.std.proofs.lemmas.List.{length-append, length-drop, length-take-le}
use Rattle.log_tests.proofs.days.framed.read_cut.Goals as goal

pub close-requires : goal.close-requires
close-requires c =
    let day = c.args.day.now in
    let cut = c.args.cut in
    let front = take cut day in
    let rest = take (length day - cut) (drop cut day) in
    let size = length-take-le cut day c.requires.within in
    let behind = length-drop cut day in
    let short = length-take-le (length day - cut) (drop cut day) (omega (arith, behind)) in
    let both = length-append front rest in
    record {
      day = front ++ rest;
      stands = c.in_ok-feed-2.ensures front (c.in_ok-feed.ensures [] c.over-feed.ensures);
      within = omega (arith, size, short, both, c.requires.within, c.requires.short);
    }
