use Rattle.std.proofs.Common.{◌≡◌, ◌∙◌, ◌<◌, ap, sym, subst, arith, length}
use Rattle.std.specs.Prelude.{None, Some, slice_get, slice_set}
use Rattle.petri_atom.specs.Local.{has}
use Rattle.step_core.specs.Dispatching.{ArePartsKept}
use Rattle.step_core.specs.Parts.{is_present, nothing_shown, parts_of}
use Rattle.step_core.proofs.PartsKept.{gone, left-kept, leaves, length-parts, present-part}
use Rattle.step_core.proofs.parts.PlantParts.take.Goals as goal

pub state-requires : goal.state-requires
state-requires c = omega (arith, c.requires.there, ap length c.self.view_is, length-parts (has c.self.inside.away) 0 c.self.inside.states)

pub overflow_shl-self : goal.overflow_shl-self
overflow_shl-self c = omega (arith, c.requires.there, ap length c.self.view_is, length-parts (has c.self.inside.away) 0 c.self.inside.states, c.self.invariant.few)

pub set-requires : goal.set-requires
set-requires c = omega (arith, c.requires.there, ap length c.self.view_is, length-parts (has c.self.inside.away) 0 c.self.inside.states)

pub invariant_of-self : goal.invariant_of-self
invariant_of-self c =
    let away = c.self.inside.away in
    let states = c.self.inside.states in
    let below : c.args.atom < length states = omega (arith, c.requires.there, ap length c.self.view_is, length-parts (has away) 0 states) in
    let nothing : c.with.result ≡ nothing_shown = ap (λ m. record { marking = m; values = c.with.result.values }) c.with.ensures.marking ∙ ap (λ v. record { marking = 0; values = v }) c.with.ensures.values in
    subst (ArePartsKept (gone away c.args.atom)) (sym (c.set.ensures ∙ ap (slice_set states c.args.atom) nothing)) (left-kept away states c.self.invariant c.args.atom below)

pub returns-clause-state : goal.returns-clause-state
returns-clause-state c =
    let away = c.self.inside.away in
    let states = c.self.inside.states in
    ap (λ parts. slice_get parts c.args.atom) (sym c.self.view_is) ∙
    present-part away states c.self.invariant c.args.atom c.copy-state.result (c.state.ensures ∙ ap Some (sym c.copy-state.ensures)) (ap (λ parts. is_present parts c.args.atom) c.self.view_is ∙ c.requires.present)

pub returns-clause-parts : goal.returns-clause-parts
returns-clause-parts c =
    let away = c.self.inside.away in
    let states = c.self.inside.states in
    let below : c.args.atom < length states = omega (arith, c.requires.there, ap length c.self.view_is, length-parts (has away) 0 states) in
    let nothing : c.with.result ≡ nothing_shown = ap (λ m. record { marking = m; values = c.with.result.values }) c.with.ensures.marking ∙ ap (λ v. record { marking = 0; values = v }) c.with.ensures.values in
    ap (parts_of (has (gone away c.args.atom))) (c.set.ensures ∙ ap (slice_set states c.args.atom) nothing) ∙ leaves away states c.self.invariant c.args.atom below ∙
    ap (λ parts. slice_set parts c.args.atom None) c.self.view_is
