use Rattle.std.proofs.Common.{Option, subst, sym}
use Rattle.std.specs.Prelude.{MatchOption}
use Rattle.fix_days.specs.declared.looking.Look.{Look}
use Rattle.fix_days.specs.Looks.{LookSays, NeedsMore}
use Rattle.fix_days.proofs.LookLemmas.{message-at, refused}
use Rattle.fix_days.proofs.looking.answer_of.Goals as goal

pub returns-in-Ok : goal.returns-in-Ok
returns-in-Ok c = λ count ended undressed inside reached.
    message-at c.args.soh.now c.args.held.now c.args.place ended c.args.reached c.args.message.now c.in-Ok.frame c.end_of.result c.requires.some undressed c.in-Ok.ensures.found c.end_of.ensures

pub returns-in-Err : goal.returns-in-Err
returns-in-Err c = λ count ended undressed inside reached.
    subst (λ (answer : Option Look). MatchOption answer (NeedsMore c.args.message.now c.args.why) (LookSays c.args.soh.now c.args.held.now c.args.place ended c.args.message.now)) (sym c.refusal.ensures)
    (refused c.args.soh.now c.args.held.now c.args.place count ended c.args.reached c.args.message.now c.in-Err.fault c.args.why c.requires.some c.requires.line undressed reached (sym c.in-Err.ensures.fault))
