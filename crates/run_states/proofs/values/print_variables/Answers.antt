use Rattle.std.proofs.Common.{ap, arith, subst, ◌∙◌, rules, w64, SFits}
use Rattle.std.specs.Io.KnownBytes.{Appends}
use Rattle.std.proofs.lemmas.Int.{to_z-of_z}
use Rattle.petri_atom.specs.Local.{value_in}
use Rattle.run_states.specs.Signals.{variable_value}
use Rattle.run_text.proofs.Listing.{leads-number}
use Rattle.run_states.proofs.values.print_variables.Goals as goal

pub loop-number-preserved : goal.loop-number-preserved
loop-number-preserved g c =
    let fits : SFits w64 c.value_at.result = search rules in
    leads-number (λ k. variable_value c.args.atom k (value_in c.args.values.now k)) c.args.variables.now c.loop-number.number
    (g.W.Write.contents c.args.output.now) (g.W.Write.contents c.loop-number.output) (g.W.Write.contents c.print_variable.new.output) _
    (omega arith) c.loop-number.invariant
    (subst (Appends _ _) (ap (variable_value c.args.atom c.loop-number.number) (to_z-of_z w64 c.value_at.result fits ∙ c.value_at.ensures)) c.in_ok-print_variable.ensures)
