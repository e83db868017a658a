use Rattle.std.proofs.Common.{◌≡◌, ◌∙◌, sym, ap, subst, ℕ, List, [], ◌∷◌, ◌++◌}
use Rattle.restated_text.specs.Text.{restated_part}
use Rattle.restated_text.specs.declared.counts.Counts.{Counts}
use Rattle.restated_text.proofs.Restating.{Restating, one_more}
use Rattle.restated_text.proofs.text.restate.Goals as goal

pub loop-part-preserved : goal.loop-part-preserved
loop-part-preserved c =
    let line : List ℕ = c.loop-part.restated.items ++ restated_part c.args.states.now c.loop-part.counts c.in-Some.part.now in
    let items : line ++ 10 ∷ [] ≡ c.push.new.self.items = sym (c.in_ok-push.ensures.items ∙ ap (λ (l : List ℕ). l ++ 10 ∷ []) c.in_ok-add_part.ensures) in
    subst (λ (l : List ℕ). Restating c.args.states.now c.args.text.now l c.counts_after-counts.result c.in-Some.behind.now) items
    (subst (λ (k : Counts). Restating c.args.states.now c.args.text.now (line ++ 10 ∷ []) k c.in-Some.behind.now) (sym c.counts_after-counts.ensures)
    (one_more c.args.states.now c.args.text.now c.loop-part.restated.items c.loop-part.counts c.loop-part.rest.now c.in-Some.part.now c.in-Some.behind.now c.loop-part.invariant
    c.in-Some.ensures.parts c.in-Some.ensures.shorter))
