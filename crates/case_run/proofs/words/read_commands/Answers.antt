use Rattle.std.proofs.Common.{rules, ◌≡◌, ◌<◌, ◌+◌, sym, subst, List, [], ◌∷◌, ◌++◌, length, map, take, drop, None}
use Rattle.std.specs.String.{string_bytes}
use Rattle.case_run.specs.Commands.{command_of}
use Rattle.case_run.proofs.CommandLemmas.{IsReadSoFar, more_read, none_read, whole_read}
use Rattle.case_run.proofs.words.read_commands.Goals as goal

pub returns-in_err-command-clause-usage : goal.returns-in_err-command-clause-usage
returns-in_err-command-clause-usage c = λ e.
    let none : command_of (map string_bytes (take c.part_length-count.result c.parts.rest.now)) ≡ None = search rules in
    none_read c.args.words.now c.parts.commands.items c.parts.rest.now c.part_length-count.result c.parts.invariant c.part_length-count.ensures.length c.part_length-count.ensures.inside none

pub returns-then-count-rest-clause-commands : goal.returns-then-count-rest-clause-commands
returns-then-count-rest-clause-commands c =
    let added : c.push.new.self.items ≡ c.parts.commands.items ++ c.in_ok-command.command ∷ [] = search rules in
    let all : c.part_length-count.result ≡ length c.parts.rest.now = search rules in
    whole_read c.args.words.now c.parts.commands.items c.parts.rest.now c.part_length-count.result c.parts.invariant c.part_length-count.ensures.length
    c.push.new.self.items c.in_ok-command.command all c.in_ok-command.ensures.command added

pub parts-preserved : goal.parts-preserved
parts-preserved c =
    let added : c.push.new.self.items ≡ c.parts.commands.items ++ c.in_ok-command.command ∷ [] = search rules in
    let less : c.part_length-count.result < length c.parts.rest.now = search rules in
    subst (λ (ws : List _). IsReadSoFar c.args.words.now c.push.new.self.items ws) (sym c.words_after-rest.ensures)
    (subst (λ (cs : List _). IsReadSoFar c.args.words.now cs (drop (c.part_length-count.result + 1) c.parts.rest.now)) (sym added)
    (more_read c.args.words.now c.parts.commands.items c.parts.rest.now c.part_length-count.result c.parts.invariant c.part_length-count.ensures.length
    c.in_ok-command.command less c.in_ok-command.ensures.command))
