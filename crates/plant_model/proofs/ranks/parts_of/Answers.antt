use Rattle.std.proofs.Common.{◌≡◌, ◌<◌, ◌++◌, ◌∷◌, [], ◌∙◌, Vec, Global, ap, sym, refl, length, arith}
use Rattle.std.specs.Prelude.{slice_get}
use Rattle.std.specs.FinSet.{contains}
use Rattle.priority_filter.specs.declared.interaction_set.TheConstants.{ROW_WORDS}
use Rattle.plant_model.specs.Ranks.{is_in_parts}
use Rattle.plant_model.specs.declared.ranks.Part.{Part}
use Rattle.plant_model.proofs.Pushed.{each-pushed}
use Rattle.plant_model.proofs.Ranking.{part-all, part-passed, part-within, some-in}
use Rattle.plant_model.proofs.ranks.parts_of.Goals as goal
use Rattle.plant_model.proofs.ranks.parts_of.Goals.{then-word-ne0+in_ok-push, else-word-ne0}

pub loop-place-preserved : goal.loop-place-preserved
loop-place-preserved c =
    let set = c.args.set.now in
    let place = c.loop-place.place in
    let word = c.word-word.result in
    let old = c.loop-place.parts.items in
    let made : Part = record { place = place; word = word } in
    let before = c.loop-place.invariant in
    elim c.if-word-ne0.branch [
      | then-word-ne0+in_ok-push w ↦
          let items : c.if-word-ne0.parts.items ≡ old ++ made ∷ [] = ap (λ (v : Vec Part Global). v.items) w.parts-is ∙ w.in_ok-push.ensures.items in (
            λ k p at. each-pushed (λ _ (q : Part). q.place < ROW_WORDS) old made (length old) refl before.0 (omega (arith, c.loop-place-test.true)) k p (sym (ap (λ xs. slice_get xs k) items) ∙ at),
            λ m inside. part-within set place word c.word-word.ensures old before.1 before.2 m (sym (ap (λ xs. is_in_parts xs m) items) ∙ inside),
            λ m below its. ap (λ xs. is_in_parts xs m) items ∙ part-all set place word c.word-word.ensures old before.1 before.2 m below its,
            λ _. let found = some-in place word (contains set) c.word-word.ensures (omega arith) (omega (arith, w.if-word-ne0.true)) in (found.0, found.2),
          )
      | else-word-ne0 w ↦
          let items : c.if-word-ne0.parts.items ≡ old = ap (λ (v : Vec Part Global). v.items) w.parts-is in (
            λ k p at. before.0 k p (sym (ap (λ xs. slice_get xs k) items) ∙ at),
            λ m inside. before.1 m (sym (ap (λ xs. is_in_parts xs m) items) ∙ inside),
            λ m below its. ap (λ xs. is_in_parts xs m) items ∙ part-passed set place word c.word-word.ensures old before.1 before.2 w.if-word-ne0.false m below its,
            λ some. before.3 (omega (arith, some, ap length items)),
          )
    ]
