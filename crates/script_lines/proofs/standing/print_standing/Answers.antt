use Rattle.std.proofs.Common.{◌≡◌, ◌∙◌, ◌++◌, ℕ, ap, codes, subst}
use Rattle.std.specs.Io.KnownBytes.{Appends}
use Rattle.std.proofs.KnownBytes.{Appends-trans}
use Rattle.plant_model.specs.Plant.{PlantDefinition}
use Rattle.text_io.proofs.Leading.{printed-last}
use Rattle.plant_core.specs.Plants.{definition_of, view_of}
use Rattle.plant_core.specs.View.{fired_number}
use Rattle.plant_core.specs.declared.front.Front.{Front}
use Rattle.run_text.specs.Line.{states_text}
use Rattle.script_lines.specs.Answers.{front_line, front_of}
use Rattle.script_lines.proofs.standing.print_standing.Goals as goal

-- the lines of the states, then how far the plant is, then the end of its line
pub returns : goal.returns
returns g c =
    let start = g.W.Write.contents c.args.output.now in
    let first = g.W.Write.contents c.print_present.new.output in
    let second = g.W.Write.contents c.print_front.new.output in
    let after = g.W.Write.contents c.end_line.new.writer in
    let v = view_of c.args.plant.now in
    let lines = states_text (definition_of c.args.plant.now) v.present in
    let far : c.front.result ≡ front_of v =
    ap (λ (n : ℕ). record { fired = n; acked = c.front.result.acked; base = c.front.result.base }) c.front.ensures.fired ∙
    ap (λ (n : ℕ). record { fired = fired_number v; acked = n; base = c.front.result.base }) c.front.ensures.acked ∙
    ap (λ (n : ℕ). record { fired = fired_number v; acked = v.number; base = n }) c.front.ensures.base in
    let states : Appends start first lines =
    subst (λ (p : PlantDefinition). Appends start first (states_text p v.present)) c.system.ensures.plant c.in_ok-print_present.ensures in
    let front : Appends first second (front_line (front_of v)) = subst (λ (f : Front). Appends first second (front_line f)) far c.in_ok-print_front.ensures in
    printed-last c.end_line.result start second after (lines ++ front_line (front_of v)) (codes "\n")
    (Appends-trans start first second lines (front_line (front_of v)) states front) c.end_line.ensures
