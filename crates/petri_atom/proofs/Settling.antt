-- What a marking alone decides of what is offered.
use Rattle.std.proofs.Common.{◌≡◌, ℕ, ◌<◌, ◌≤◌, ◌^◌, Bool, true, false, not, ◌&&◌, sym, ◌∙◌, ap, arith, length}
use Rattle.std.specs.Prelude.{bit_and}
use Rattle.std.specs.Int.{bit_not, w128}
use Rattle.std.proofs.Math.Pow.{pow_mono}
use Rattle.std.proofs.lemmas.Nat.{pow_pos}
use Rattle.petri_atom.specs.Local.{Local, has}
use Rattle.petri_atom.specs.Definition.{AtomDefinition, offered_set}
use Rattle.petri_atom.specs.Groups.{can_move_number, is_unguarded, passes_guard, unguarded_set}
use Rattle.petri_atom.specs.Behind.{movable_set}
use Rattle.petri_atom.proofs.Judging.{has-movable, has-offered, has-unguarded, plain-passes}
use Rattle.petri_atom.proofs.Sets.{has-above, has-minus, same_numbers, set_below-lt}

-- a transition whose guard is a number other than 0 is offered exactly if it can move
plain-offered : (can plain passes : Bool) → (can && not plain) ≡ false → (plain ≡ true → passes ≡ true) → (can && passes) ≡ can
plain-offered can plain passes none holds = grind arith

-- where the guard of each that can move is such a number, those that can move are offered
pub settled : (a : AtomDefinition) → length a.transitions ≤ 128 → (state : Local) (movable unguarded : ℕ) → movable < 2 ^ 128 → movable ≡ movable_set a state → unguarded ≡ unguarded_set a.transitions → bit_and movable (bit_not w128 unguarded) ≡ 0 → offered_set a state ≡ movable
settled a few state movable unguarded small moves plain none =
    same_numbers _ _
    (λ k. has-offered a state k ∙ plain-offered _ (is_unguarded a.transitions k) (passes_guard a.transitions state k) (guarded k) (plain-passes a.transitions state k) ∙ sym (moves-at k))
  where
    moves-at : (k : ℕ) → has movable k ≡ can_move_number a.transitions state.marking k
    moves-at k = ap (λ w. has w k) moves ∙ has-movable a state k

    unguarded-small : unguarded < 2 ^ 128
    unguarded-small =
        let below : unguarded < 2 ^ length a.transitions = rw plain (set_below-lt (length a.transitions) (is_unguarded a.transitions)) in
        omega (arith, below, pow_mono few)

    guarded : (k : ℕ) → (can_move_number a.transitions state.marking k && not (is_unguarded a.transitions k)) ≡ false
    guarded k =
        ap (λ x. x && not (is_unguarded a.transitions k)) (sym (moves-at k)) ∙
        ap (λ x. has movable k && not x) (sym (ap (λ w. has w k) plain ∙ has-unguarded a.transitions k)) ∙
        sym (has-minus w128 movable unguarded k small unguarded-small) ∙
        ap (λ w. has w k) none ∙ has-above 0 0 k (pow_pos 0) (omega arith)
