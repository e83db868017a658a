use Rattle.std.proofs.Common.{◌≡◌, ◌∙◌, ◌∷◌, ap, length, map, subst}
use Rattle.run_summary.specs.Bounds.{widened_from}
use Rattle.run_summary.specs.Counts.{counts_of}
use Rattle.run_summary.specs.Moves.{Moved}
use Rattle.run_summary.specs.Totals.{AtomTotals}
use Rattle.run_summary.proofs.Moving.{atom-totals}
use Rattle.run_summary.proofs.Widening.{widened-move}
use Rattle.run_summary.proofs.atom_summary.AtomSummary.add.Goals as goal

pub returns : goal.returns
returns c = λ a atom moves known.
    let moved : Moved = record { atom = atom; transition = c.args.transition; values = c.args.values.now } in
    let numbers = map (λ m. m.transition) moves in
    let was = c.self.view_is ∙ known in
    let counted : c.count.new.self ≡ counts_of (length a.transitions) (c.args.transition ∷ numbers) =
    subst (λ n. c.count.new.self ≡ counts_of (length a.transitions) (n ∷ numbers)) c.from.ensures
    (c.count.ensures (length a.transitions) numbers (ap (λ (t : AtomTotals). t.transitions) was)) in
    atom-totals a (moved ∷ moves) c.count.new.self c.widen.new.bounds.items counted
    (c.widen.ensures ∙ ap (λ bs. widened_from 0 bs c.args.values.now) (ap (λ (t : AtomTotals). t.bounds) was) ∙ widened-move 0 a.variables moved moves)
