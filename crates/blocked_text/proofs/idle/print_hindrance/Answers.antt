use Rattle.std.proofs.Common.{sym, subst, nat_eq, OnOk}
use Rattle.std.specs.Io.KnownBytes.{Appends}
use Rattle.petri_atom.specs.Atom.{definition_of}
use Rattle.petri_atom.specs.Definition.{variable_name}
use Rattle.petri_atom.specs.Local.{value_in}
use Rattle.petri_atom.specs.Transition.{transition_of}
use Rattle.blocked_text.specs.Idle.{hindrance_text}
use Rattle.blocked_text.specs.Zero.{zero_text}
use Rattle.blocked_text.proofs.idle.print_hindrance.Goals as goal

pub returns-in-ZeroGuard : goal.returns-in-ZeroGuard
returns-in-ZeroGuard g c =
    let a = definition_of c.args.atom.now in
    let state = c.args.state.now in
    let t = transition_of c.args.transition.now in
    let start = g.W.Write.contents c.args.output.now in
    let after = g.W.Write.contents c.print_zero.new.output in
    subst (λ h. OnOk c.print_zero.result (Appends start after (hindrance_text a state t h))) (sym c.in-ZeroGuard.is)
    (subst (λ guard. OnOk c.print_zero.result (Appends start after (zero_text nat_eq (variable_name a) (value_in state.values) guard))) c.guard.ensures c.print_zero.ensures)
