use Rattle.std.proofs.Common.{◌∙◌, ◌+◌, ap, sym, refl, subst, arith, true, false}
use Rattle.std.specs.Io.KnownBytes.{Appends}
use Rattle.std.proofs.KnownBytes.{Appends-nil}
use Rattle.plant_model.specs.Plant.{PlantDefinition}
use Rattle.plant_core.specs.Plants.{definition_of, view_of}
use Rattle.script_lines.specs.Atoms.{atom_name}
use Rattle.plant_service.specs.Queries.{holders_text}
use Rattle.plant_service.proofs.Atoms.{as-many}
use Rattle.plant_service.proofs.Holding.{all-told, any-free, any-held, printed-free, printed-held}
use Rattle.plant_service.proofs.room.print_held.Goals.{else-is_base_held_by, then-is_base_held_by+in_ok-print_text+in_ok-print_text-2}
use Rattle.plant_service.proofs.room.print_held.Goals as goal

pub loop-atom-init : goal.loop-atom-init
loop-atom-init g c = record { printed = Appends-nil (g.W.Write.contents c.args.output.now); any = refl }

pub loop-atom-preserved : goal.loop-atom-preserved
loop-atom-preserved g c =
    let l = c.loop-atom in
    let plant = definition_of c.args.plant.now in
    let v = view_of c.args.plant.now in
    let start = g.W.Write.contents c.args.output.now in
    elim c.if-is_base_held_by.branch [
      | then-is_base_held_by+in_ok-print_text+in_ok-print_text-2 w ↦
          let held = sym c.is_base_held_by.ensures ∙ w.if-is_base_held_by.true in
          record {
            printed = subst (λ o. Appends start (g.W.Write.contents o) (holders_text plant v (l.atom + 1))) (sym w.output-is)
                (printed-held plant v l.atom start (g.W.Write.contents l.output) l.invariant.printed (g.W.Write.contents w.print_text.new.writer) (g.W.Write.contents w.print_text-then-is_base_held_by.new.writer) held w.in_ok-print_text.ensures
                (subst (λ text. Appends (g.W.Write.contents w.print_text.new.writer) (g.W.Write.contents w.print_text-then-is_base_held_by.new.writer) text) (w.atom_name.ensures ∙ ap (λ (x : PlantDefinition). atom_name x l.atom) c.system-system.ensures.plant) w.in_ok-print_text-2.ensures));
            any = w.is_any-is ∙ any-held plant v l.atom held;
          }
      | else-is_base_held_by w ↦
          let free = sym c.is_base_held_by.ensures ∙ w.if-is_base_held_by.false in
          record {
            printed = subst (λ o. Appends start (g.W.Write.contents o) (holders_text plant v (l.atom + 1))) (sym w.output-is) (printed-free plant v l.atom start (g.W.Write.contents l.output) l.invariant.printed free);
            any = w.is_any-is ∙ any-free plant v l.atom l.is_any free l.invariant.any;
          }
    ]

pub returns-then-is_any : goal.returns-then-is_any
returns-then-is_any g c =
    let l = c.loop-atom in
    let many = as-many c.atoms-atom-end.result.now c.atoms-atom-end.ensures c.system-system.ensures.plant in
    all-told c.print_text-then-is_any.result (definition_of c.args.plant.now) (view_of c.args.plant.now) l.atom (g.W.Write.contents c.args.output.now) (g.W.Write.contents l.output) (g.W.Write.contents c.print_text-then-is_any.new.writer)
    l.is_any true l.invariant.printed (omega (arith, many)) l.invariant.any c.if-is_any.true c.print_text-then-is_any.ensures

pub returns-else-is_any : goal.returns-else-is_any
returns-else-is_any g c =
    let l = c.loop-atom in
    let many = as-many c.atoms-atom-end.result.now c.atoms-atom-end.ensures c.system-system.ensures.plant in
    all-told c.print_text-else-is_any.result (definition_of c.args.plant.now) (view_of c.args.plant.now) l.atom (g.W.Write.contents c.args.output.now) (g.W.Write.contents l.output) (g.W.Write.contents c.print_text-else-is_any.new.writer)
    l.is_any false l.invariant.printed (omega (arith, many)) l.invariant.any c.if-is_any.false c.print_text-else-is_any.ensures
