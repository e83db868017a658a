use Rattle.std.proofs.Common.{◌≡◌, ◌∙◌, ◌+◌, ◌-◌, subst, codes, ℕ}
use Rattle.std.specs.Io.KnownBytes.{Appends}
use Rattle.std.proofs.lemmas.Result.{on_ok_weaker}
use Rattle.plant_core.specs.Plants.{definition_of, view_of}
use Rattle.plant_service.specs.Queries.{part_text}
use Rattle.plant_service.proofs.Roomy.{room-printed}
use Rattle.plant_service.proofs.room.print_room.Goals as goal

pub returns : goal.returns
returns g c =
    let v = view_of c.args.plant.now in
    let plant = definition_of c.args.plant.now in
    let front = c.front-front.result in
    let known = c.front-front.ensures in
    let ring : c.from-ring.result ≡ v.ring = c.from-ring.ensures ∙ c.ring.ensures in
    on_ok_weaker c.end_line.result
    (λ ended. room-printed plant v front.fired front.acked front.base known.fired known.acked known.base _ _ _ _ _ _ _ _ (subst (λ (n : ℕ). Appends (g.W.Write.contents c.args.output.now) (g.W.Write.contents c.print_part.new.output) (part_text (codes "ring ") n)) ring c.in_ok-print_part.ensures) c.in_ok-print_part-2.ensures (subst (λ (n : ℕ). Appends (g.W.Write.contents c.print_part-2.new.output) (g.W.Write.contents c.print_part-3.new.output) (part_text (codes " free ") (n - (front.fired + 1 - front.base)))) ring c.in_ok-print_part-3.ensures) c.in_ok-print_part-4.ensures c.in_ok-print_text.ensures c.in_ok-print_held.ensures ended)
    c.end_line.ensures
