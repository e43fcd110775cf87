use Rattle.std.proofs.Common.{◌+◌, ℕ, List, [], ◌∷◌, refl, subst}
use Rattle.std.specs.List.{slice_range}
use Rattle.log_source.specs.Handing.{HandsOnMore}
use Rattle.fix_days.specs.declared.looking.Look.{Look}
use Rattle.fix_days.specs.Looks.{LookSays}
use Rattle.fix_days.proofs.LineLemmas.{goes-line, stops-bad, stops-wait}
use Rattle.fix_days.proofs.lines.LineFeed.take_look.Goals as goal

pub returns-in_ok-take-in-Message : goal.returns-in_ok-take-in-Message
returns-in_ok-take-in-Message g c =
    let says = subst (λ (look : Look). LookSays g.S.SohGhost.text c.args.self.now.held.items (c.args.self.now.next + c.args.step) c.args.ended c.args.self.now.message.items look) c.in-Message.is c.requires.says in
    goes-line g.S.SohGhost.text g.B.Bodies.has_taken c.args.ended c.args.self.now _ c.args.self.now.message.items c.args.step c.in-Message.body c.in-Message.to c.in-Message.end c.requires.good refl refl refl refl refl refl refl c.requires.found says
    (subst (λ (t : List ℕ). HandsOnMore (g.B.Bodies.has_taken c.args.self.now.bodies) (g.B.Bodies.has_taken c.take.new.self) (slice_range t c.in-Message.body c.in-Message.to ∷ [])) c.deref.ensures.value c.in_ok-take-in-Message.ensures)

pub returns-in-Wait : goal.returns-in-Wait
returns-in-Wait g c =
    let says = subst (λ (look : Look). LookSays g.S.SohGhost.text c.args.self.now.held.items (c.args.self.now.next + c.args.step) c.args.ended c.args.self.now.message.items look) c.in-Wait.is c.requires.says in
    stops-wait g.S.SohGhost.text g.B.Bodies.has_taken c.args.self.now c.drop_to.new.self c.args.step c.requires.good c.requires.found c.drop_to.ensures c.args.ended says

pub returns-in-Fault : goal.returns-in-Fault
returns-in-Fault g c =
    let says = subst (λ (look : Look). LookSays g.S.SohGhost.text c.args.self.now.held.items (c.args.self.now.next + c.args.step) c.args.ended c.args.self.now.message.items look) c.in-Fault.is c.requires.says in
    stops-bad g.S.SohGhost.text g.B.Bodies.has_taken c.args.self.now c.shut.new.self c.args.step c.in-Fault.fault c.requires.found c.shut.ensures c.args.ended says
