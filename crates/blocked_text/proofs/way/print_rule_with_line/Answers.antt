use Rattle.std.proofs.Common.{◌≡◌, ◌++◌, ◌∙◌, ap, sym, subst, refl, codes, List, ℕ, [], OnOk}
use Rattle.std.specs.Prelude.{Option, None, Some, slice_get}
use Rattle.std.specs.Option.{option_map_or}
use Rattle.std.specs.Io.KnownBytes.{Appends}
use Rattle.std.proofs.KnownBytes.{Appends-nil}
use Rattle.priority_filter.specs.declared.rule.Rule.{Rule}
use Rattle.plant_model.specs.System.{plant_of}
use Rattle.part_text.specs.Rule.{rule_text}
use Rattle.blocked_text.specs.Way.{line_text}
use Rattle.blocked_text.proofs.Entries.{entry-at, entry-past}
use Rattle.blocked_text.proofs.way.print_rule_with_line.Goals as goal

pub returns-in-Some : goal.returns-in-Some
returns-in-Some g c =
    let plant = plant_of c.args.report.now.system.now in
    let number = c.args.number in
    let rule = c.in-Some.rule.now in
    let found = c.in-Some.ensures.lookup in
    let text : Option Rule → List ℕ = λ o. option_map_or (λ r. codes " (" ++ line_text c.args.report.now.lines.now number ++ rule_text plant r ++ codes ")") o [] in
    let there : slice_get plant.rules number ≡ Some rule = ap (λ rules. slice_get rules number) (sym c.rules.ensures) ∙ entry-at c.rules.result.now number number rule refl found.3.0 found.1 in
    subst (λ o. OnOk c.print_rule_in.result (Appends (g.W.Write.contents c.args.output.now) (g.W.Write.contents c.print_rule_in.new.output) (text o))) (sym there) c.print_rule_in.ensures

pub returns-in-None : goal.returns-in-None
returns-in-None g c =
    let plant = plant_of c.args.report.now.system.now in
    let number = c.args.number in
    let text : Option Rule → List ℕ = λ o. option_map_or (λ r. codes " (" ++ line_text c.args.report.now.lines.now number ++ rule_text plant r ++ codes ")") o [] in
    let none : slice_get plant.rules number ≡ None = ap (λ rules. slice_get rules number) (sym c.rules.ensures) ∙ entry-past c.rules.result.now number number refl c.in-None.ensures.lookup.3 in
    subst (λ o. Appends (g.W.Write.contents c.args.output.now) (g.W.Write.contents c.args.output.now) (text o)) (sym none) (Appends-nil (g.W.Write.contents c.args.output.now))
