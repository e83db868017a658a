use Rattle.std.proofs.Common.{◌≡◌, ◌<◌, ◌∙◌, sym, ap, arith, length, refl, Some}
use Rattle.std.specs.Prelude.{slice_get}
use Rattle.std.specs.Option.{option_map_or}
use Rattle.petri_atom.specs.Atom.{definition_of}
use Rattle.petri_atom.specs.Definition.{delivered_to, exports_of, fired_by, updated}
use Rattle.petri_atom.specs.Local.{moved}
use Rattle.petri_atom.proofs.Giving.{delivered-nothing}
use Rattle.petri_atom.proofs.Judging.{offered-within}
use Rattle.petri_atom.proofs.Drawn.{arcs-at}
use Rattle.petri_atom.proofs.Lists.{got-at}
use Rattle.petri_atom.proofs.States.{same_state}
use Rattle.petri_atom.proofs.atom.Atom.fire.Goals as goal
use Rattle.petri_atom.proofs.atom.Atom.fire.Goals.{then-not-is_empty, else-not-is_empty}

pub returns : goal.returns
returns c =
    let atom = c.args.self.now in
    let a = definition_of atom in
    let n = c.args.transition in
    let before = c.args.state.now in
    let row = c.args.delivered.now in
    let within : n < length atom.arcs.items =
    omega (arith, offered-within a.transitions before n c.requires, atom.drawn.0) in
    let at = arcs-at atom.arcs.items atom.arcs.items a.transitions c.from-number.result c.index-arcs.result.now refl atom.drawn (omega (arith, within, c.from-number.ensures)) c.index-arcs.ensures in
    let t = at.0 in
    let got : slice_get a.transitions n ≡ Some t = ap (slice_get a.transitions) (sym c.from-number.ensures) ∙ at.1 in
    let coded : slice_get atom.codes.items n ≡ Some c.index.result.now =
    got-at atom.codes.items atom.codes.items c.from-number.result n c.index.result.now refl c.from-number.ensures (omega (arith, within, c.from-number.ensures, atom.coded.0, atom.drawn.0)) c.index.ensures in
    let drawn : slice_get atom.arcs.items n ≡ Some c.index-arcs.result.now =
    got-at atom.arcs.items atom.arcs.items c.from-number.result n c.index-arcs.result.now refl c.from-number.ensures (omega (arith, within, c.from-number.ensures)) c.index-arcs.ensures in
    let given : c.if-not-is_empty.state.values ≡ delivered_to row 0 (exports_of a t.port) before.values = elim c.if-not-is_empty.branch [
      | then-not-is_empty w ↦ ap (λ s. s.values) w.state-is ∙ w.deliver.ensures.values ∙
          ap (λ exports. delivered_to row 0 exports before.values) (w.as_slice.ensures ∙ atom.exported.1 n c.index-arcs.result.now t drawn got)
      | else-not-is_empty w ↦ ap (λ s. s.values) w.state-is ∙
          sym (ap (λ d. delivered_to d 0 (exports_of a t.port) before.values) (c.is_empty.ensures.0 w.if-not-is_empty.false) ∙ delivered-nothing 0 (exports_of a t.port) before.values)
    ] in
    let stays : c.if-not-is_empty.state.marking ≡ before.marking = elim c.if-not-is_empty.branch [
      | then-not-is_empty w ↦ ap (λ s. s.marking) w.state-is ∙ w.deliver.ensures.marking
      | else-not-is_empty w ↦ ap (λ s. s.marking) w.state-is
    ] in
    same_state c.update.new.state (fired_by t (exports_of a t.port) row before)
    (c.update.ensures.marking ∙ c.shift.ensures.marking t at.2 ∙ ap (λ m. moved m t.sources t.targets) stays)
    (c.update.ensures.values t.updates (atom.coded.1 n c.index.result.now t coded got).1 ∙ ap (updated t.updates) (c.shift.ensures.values ∙ given)) ∙
    sym (ap (λ o. option_map_or (λ u. fired_by u (exports_of a u.port) row before) o before) got)
