use Rattle.std.proofs.Common.{◌≡◌, ◌<◌, ◌∙◌, ap, sym, subst, arith, length, take, get_or}
use Rattle.std.specs.Prelude.{slice_get, Some}
use Rattle.std.specs.Io.KnownBytes.{Appends}
use Rattle.std.proofs.KnownBytes.{Appends-trans}
use Rattle.std.proofs.lemmas.List.{get_or-take, length-take-le}
use Rattle.std.proofs.lemmas.Option.{get_or_from_slice_get}
use Rattle.plant_model.specs.Chosen.{choice_of}
use Rattle.plant_model.specs.System.{plant_of}
use Rattle.run_text.specs.Choices.{choice_text}
use Rattle.text_io.proofs.Leading.{leads-element}
use Rattle.run_text.proofs.choices.print_listed.Goals as goal

pub loop-place-preserved : goal.loop-place-preserved
loop-place-preserved g c =
    let plant = plant_of c.args.system.now in
    let all = g.L.Listed.listed c.args.run.now in
    let i = c.loop-place.place in
    let choice = choice_of c.entry.result in
    let now = g.W.Write.contents c.loop-place.output in
    let next = g.W.Write.contents c.end_line.new.writer in
    let less : i < c.args.listed = omega arith in
    let within : i < length (take c.args.listed all) = subst (λ n. i < n) (sym (length-take-le c.args.listed all c.requires)) less in
    let entry : slice_get all i ≡ Some choice = ap (slice_get all) (sym c.from.ensures) ∙ c.entry.ensures in
    let here : choice ≡ get_or (take c.args.listed all) i choice = sym (get_or-take c.args.listed all i choice less ∙ get_or_from_slice_get all i choice choice entry) in
    let line : Appends now next (choice_text plant i choice) = Appends-trans _ _ _ _ _ c.in_ok-print_choice.ensures c.in_ok-end_line.ensures in
    record {
      within = omega arith;
      left = leads-element (choice_text plant) (take c.args.listed all) i choice _ now next _ within here c.loop-place.invariant.left line;
    }
