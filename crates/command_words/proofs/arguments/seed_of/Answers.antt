use Rattle.command_words.proofs.arguments.seed_of.Goals as goal

pub returns-in-Err : goal.returns-in-Err
returns-in-Err g c = record { first = 0; second = 0; starts = c.fixed.ensures }
