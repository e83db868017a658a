use Rattle.std.proofs.Common.{◌≡◌, Bool, true, false, not, refl, sym, ap, ◌∙◌}
use mathlib.Core.Bool.{beq}
use Rattle.std.specs.Prelude.{slice_get}
use Rattle.std.proofs.lemmas.Bool.{true≢false}
use Rattle.petri_atom.proofs.Sets.{has-or}
use Rattle.priority_filter.specs.Members.{has_bit}
use Rattle.step_core.specs.Leaves.{is_none}
use Rattle.step_core.proofs.changes.Changes.tell.Goals as goal
use Rattle.step_core.proofs.changes.Changes.tell.Goals.{then-flips_off, else-flips_off}

-- two truth values of which none is the negation of the other are the same
same : (x y : Bool) → not (beq x y) ≡ false → x ≡ y
same true true none = refl
same true false none = absurd (true≢false none)
same false true none = absurd (true≢false none)
same false false none = refl

pub returns-then-flips_off-before-clause-heavy : goal.returns-then-flips_off-before-clause-heavy
returns-then-flips_off-before-clause-heavy c k =
    elim c.if-flips_off.branch [
      | then-flips_off w ↦ ap (λ (s : _). has_bit s.heavy k) w.self-is ∙ has-or _ _ k
      | else-flips_off w ↦ ap (λ (s : _). has_bit s.heavy k) w.self-is ∙ has-or _ _ k
    ]

pub returns-then-flips_off-before-clause-dirty : goal.returns-then-flips_off-before-clause-dirty
returns-then-flips_off-before-clause-dirty c differ k =
    elim c.if-flips_off.branch [
      | then-flips_off w ↦ ap (λ (s : _). has_bit s.dirty k) w.self-is ∙ has-or _ _ k
      | else-flips_off w ↦ absurd (differ (sym (same (is_none c.args.before) (is_none c.args.after) w.if-flips_off.false)))
    ]

pub returns-then-flips_off-before-clause-others_off :
    goal.returns-then-flips_off-before-clause-others_off
returns-then-flips_off-before-clause-others_off c k leaf none = c.set_all.ensures.others_off k leaf (λ n l there. none n l (ap (λ xs. slice_get xs n) (sym c.deref.ensures.value) ∙ there))

pub returns-then-flips_off-before-clause-others_many :
    goal.returns-then-flips_off-before-clause-others_many
returns-then-flips_off-before-clause-others_many c k leaf none = c.set_all.ensures.others_many k leaf (λ n l there. none n l (ap (λ xs. slice_get xs n) (sym c.deref.ensures.value) ∙ there))

pub returns-else-flips_off-before-clause-heavy : goal.returns-else-flips_off-before-clause-heavy
returns-else-flips_off-before-clause-heavy c k =
    elim c.if-flips_off.branch [
      | then-flips_off w ↦ ap (λ (s : _). has_bit s.heavy k) w.self-is ∙ has-or _ _ k
      | else-flips_off w ↦ ap (λ (s : _). has_bit s.heavy k) w.self-is ∙ has-or _ _ k
    ]
