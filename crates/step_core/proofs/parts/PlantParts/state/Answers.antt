use Rattle.std.proofs.Common.{◌≡◌, ◌≤◌, ◌∙◌, ap, sym, true, false, cond, arith, length}
use Rattle.std.specs.Prelude.{None, is_none, slice_get}
use Rattle.std.specs.Option.{option_map_or}
use Rattle.std.proofs.lemmas.Option.{slice_get_past}
use Rattle.petri_atom.specs.Local.{has}
use Rattle.step_core.specs.Dispatching.{state_at}
use Rattle.step_core.proofs.PartsKept.{none-there, told-away, told-state}
use Rattle.step_core.proofs.parts.PlantParts.state.Goals as goal
use Rattle.step_core.proofs.parts.PlantParts.state.Goals.{else-from-len-via-then-from-len+else-not-is_away, else-from-len-via-else-from-len}

pub returns-then-not-is_away : goal.returns-then-not-is_away
returns-then-not-is_away c =
    let away = c.self.inside.away in
    let states = c.self.inside.states in
    let here : has away c.args.atom ≡ false = sym (told-away away states c.self.invariant c.args.atom) ∙ ap (λ parts. option_map_or is_none (slice_get parts c.args.atom) false) c.self.view_is ∙ sym c.is_away.ensures ∙ c.if-not-is_away.true in
    sym (ap (λ parts. state_at parts c.args.atom) (sym c.self.view_is) ∙ told-state away states c.self.invariant c.args.atom ∙
    ap (λ b. cond b None (slice_get states c.args.atom)) here ∙ c.state.ensures)

pub returns-else-from-len : goal.returns-else-from-len
returns-else-from-len c =
    let away = c.self.inside.away in
    let states = c.self.inside.states in
    elim c.else-from-len.branch [
      | else-from-len-via-then-from-len+else-not-is_away w ↦
          let gone : has away c.args.atom ≡ true = sym (told-away away states c.self.invariant c.args.atom) ∙ ap (λ parts. option_map_or is_none (slice_get parts c.args.atom) false) c.self.view_is ∙ sym w.is_away.ensures ∙ w.if-not-is_away.false in
          sym (ap (λ parts. state_at parts c.args.atom) (sym c.self.view_is) ∙ told-state away states c.self.invariant c.args.atom ∙
          ap (λ b. cond b None (slice_get states c.args.atom)) gone)
      | else-from-len-via-else-from-len w ↦
          let past : length states ≤ c.args.atom = omega (arith, w.if-from-len.false, c.len.ensures, c.from.ensures) in
          sym (ap (λ parts. state_at parts c.args.atom) (sym c.self.view_is) ∙ told-state away states c.self.invariant c.args.atom ∙
          none-there (has away c.args.atom) (slice_get states c.args.atom) (slice_get_past states c.args.atom past))
    ]
