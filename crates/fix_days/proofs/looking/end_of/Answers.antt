use Rattle.fix_days.proofs.looking.end_of.Goals as goal

pub returns : goal.returns
returns c = λ more undressed. c.place_after.ensures more c.args.reached c.args.message.now c.requires.few undressed
