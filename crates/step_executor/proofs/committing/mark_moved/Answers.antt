use Rattle.std.proofs.Common.{◌≡◌, ℕ, ◌+◌, ◌<◌, ◌≤◌, ◌||◌, refl, sym, ◌∙◌, ap, drop, get_or, length, arith, eqb, w64}
use Rattle.std.proofs.Math.Bool.{or-false, or_assoc}
use Rattle.std.proofs.lemmas.Bool.Decides.{nat_tests}
use Rattle.std.proofs.lemmas.List.{drop_all, drop_more}
use Rattle.std.proofs.lemmas.Option.{slice_get-get_or}
use Rattle.petri_atom.specs.Local.{has}
use Rattle.petri_atom.proofs.Sets.{has-set}
use Rattle.plant_model.specs.declared.choice.Move.{Move}
use Rattle.plant_model.proofs.Stepping.{no_move}
use Rattle.step_core.specs.Sure.{has_move}
use Rattle.step_executor.proofs.committing.mark_moved.Goals as goal

-- it is the same which of two numbers is compared with the other
either-way : (a b : ℕ) → eqb a b ≡ eqb b a
either-way a b = grind (arith, nat_tests)

pub loop-step-init : goal.loop-step-init
loop-step-init c n = refl

pub overflow_shl-marked : goal.overflow_shl-marked
overflow_shl-marked c =
    let moves = c.args.moves.now in
    let i = c.loop-step.step-index in
    c.requires i (get_or moves i no_move) (slice_get-get_or moves i no_move c.loop-step-test.true)

pub loop-step-preserved : goal.loop-step-preserved
loop-step-preserved c n =
    let moves = c.args.moves.now in
    let i = c.loop-step.step-index in
    let m : Move = get_or moves i no_move in
    let marked = c.loop-step.marked in
    let low : m.atom < 64 = c.requires i m (slice_get-get_or moves i no_move c.loop-step-test.true) in
    ap (λ b. b || has_move (drop (i + 1) moves) n) (has-set w64 marked m.atom n low) ∙
    or_assoc (has marked n) (eqb n m.atom) (has_move (drop (i + 1) moves) n) ∙
    ap (λ b. has marked n || (b || has_move (drop (i + 1) moves) n)) (either-way n m.atom) ∙
    ap (λ ms. has marked n || has_move ms n) (sym (drop_more moves i no_move c.loop-step-test.true)) ∙
    c.loop-step.invariant n

pub returns : goal.returns
returns c n =
    let moves = c.args.moves.now in
    let i = c.loop-step.step-index in
    let past : length moves ≤ i = omega (arith, c.loop-step-test.false) in
    sym (ap (λ ms. has c.loop-step.marked n || has_move ms n) (drop_all i moves past) ∙ or-false (has c.loop-step.marked n)) ∙ c.loop-step.invariant n
