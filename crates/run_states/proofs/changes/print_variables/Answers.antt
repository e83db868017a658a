use Rattle.std.proofs.Common.{◌∙◌, ap, arith, subst, rules, w64, SFits}
use Rattle.std.specs.Io.KnownBytes.{Appends}
use Rattle.std.proofs.lemmas.Int.{to_z-of_z}
use Rattle.petri_atom.specs.Local.{value_in}
use Rattle.run_states.specs.Changes.{variable_change}
use Rattle.run_text.proofs.Listing.{leads-number}
use Rattle.run_states.proofs.changes.print_variables.Goals as goal

pub loop-number-preserved : goal.loop-number-preserved
loop-number-preserved g c =
    let fits : SFits w64 c.value_at.result = search rules in
    let fitted : SFits w64 c.value_at-had.result = search rules in
    leads-number (λ k. variable_change c.args.atom k (value_in c.args.old.now k) (value_in c.args.new.now k)) c.args.variables.now c.loop-number.number
    (g.W.Write.contents c.args.output.now) (g.W.Write.contents c.loop-number.output) (g.W.Write.contents c.print_variable_change.new.output) _
    (omega arith) c.loop-number.invariant
    (subst (Appends _ _)
    (ap (variable_change c.args.atom c.loop-number.number _) (to_z-of_z w64 c.value_at.result fits ∙ c.value_at.ensures) ∙ ap (λ had. variable_change c.args.atom c.loop-number.number had (value_in c.args.new.now c.loop-number.number)) (to_z-of_z w64 c.value_at-had.result fitted ∙ c.value_at-had.ensures))
    c.in_ok-print_variable_change.ensures)
