use Rattle.std.proofs.Common.{◌∙◌, ◌<◌, ap, sym, subst, arith, length}
use Rattle.std.specs.Prelude.{Some, slice_set}
use Rattle.petri_atom.specs.Local.{has}
use Rattle.step_core.specs.Dispatching.{ArePartsKept}
use Rattle.step_core.specs.Parts.{parts_of}
use Rattle.step_core.proofs.PartsKept.{come, come-kept, comes, length-parts}
use Rattle.step_core.proofs.parts.PlantParts.put.Goals as goal

pub copy_into-requires : goal.copy_into-requires
copy_into-requires c = omega (arith, c.requires, ap length c.self.view_is, length-parts (has c.self.inside.away) 0 c.self.inside.states)

pub overflow_shl-self : goal.overflow_shl-self
overflow_shl-self c = omega (arith, c.requires, ap length c.self.view_is, length-parts (has c.self.inside.away) 0 c.self.inside.states, c.self.invariant.few)

pub invariant_of-self : goal.invariant_of-self
invariant_of-self c =
    let away = c.self.inside.away in
    let states = c.self.inside.states in
    let below : c.args.atom < length states = omega (arith, c.requires, ap length c.self.view_is, length-parts (has away) 0 states) in
    subst (ArePartsKept (come away c.args.atom)) (sym c.copy_into.ensures) (come-kept away states c.self.invariant c.args.atom c.args.state.now below)

pub returns : goal.returns
returns c =
    let away = c.self.inside.away in
    let states = c.self.inside.states in
    let below : c.args.atom < length states = omega (arith, c.requires, ap length c.self.view_is, length-parts (has away) 0 states) in
    ap (parts_of (has (come away c.args.atom))) c.copy_into.ensures ∙ comes away states c.self.invariant c.args.atom c.args.state.now below ∙
    ap (λ parts. slice_set parts c.args.atom (Some c.args.state.now)) c.self.view_is
