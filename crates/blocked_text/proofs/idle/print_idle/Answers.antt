use Rattle.std.proofs.Common.{◌∙◌, ap, subst, OnOk}
use Rattle.std.specs.Io.KnownBytes.{Appends}
use Rattle.petri_atom.specs.Atom.{definition_of}
use Rattle.blocked_text.specs.Idle.{idle_by, transition_count}
use Rattle.blocked_text.proofs.idle.print_idle.Goals as goal

pub returns : goal.returns
returns g c =
    subst (λ count. OnOk c.print_idle_by.result (Appends (g.W.Write.contents c.args.output.now) (g.W.Write.contents c.print_idle_by.new.output) (idle_by (definition_of c.args.atom.now) c.args.state.now c.args.port count)))
    (c.transition_count-count.ensures ∙ ap (transition_count c.args.port) c.transitions.ensures) c.print_idle_by.ensures
