use Rattle.std.proofs.Common.{◌≡◌, ◌<◌, ◌≤◌, ℕ, map, length, get_or}
use Rattle.std.specs.Prelude.{Some, slice_get}
use Rattle.petri_atom.specs.Atom.{definition_of}
use Rattle.petri_atom.specs.Behind.{movable_set}
use Rattle.petri_atom.specs.Local.{Local}
use Rattle.petri_atom.specs.Definition.{AtomDefinition, enabled, offered_set}
use Rattle.petri_atom.specs.declared.parts.TheConstants.{MAX_TRANSITIONS}
use Rattle.plant_model.specs.declared.limits.TheConstants.{MAX_ATOMS}
use Rattle.step_core.specs.EnabledTransitions.{count_at}
use Rattle.step_core.proofs.enabled_transitions.EnabledTransitions.of.Given as goal

abbrev pub invariant-loop-number : goal.invariant-loop-number
invariant-loop-number l =
    let atoms = map definition_of l.atoms in
    ((n : ℕ) (a : AtomDefinition) (s : Local) → n < l.number → slice_get atoms n ≡ Some a → slice_get l.states n ≡ Some s → get_or l.sets n 0 ≡ offered_set a s) ×
    ((n : ℕ) (a : AtomDefinition) (s : Local) (port : ℕ) → n < l.number → slice_get atoms n ≡ Some a → get_or l.sets n 0 ≡ offered_set a s → count_at l.counts n port ≡ length (enabled a s port)) ×
    ((n : ℕ) (a : AtomDefinition) (port : ℕ) → n < l.number → slice_get atoms n ≡ Some a → length a.ports ≤ port → count_at l.counts n port ≡ 0) ×
    ((n port : ℕ) → l.number ≤ n → count_at l.counts n port ≡ 0) ×
    ((n port : ℕ) → count_at l.counts n port ≤ MAX_TRANSITIONS) ×
    (length l.sets ≡ MAX_ATOMS) × (length l.counts ≡ MAX_ATOMS) ×
    ((n : ℕ) (a : AtomDefinition) (s : Local) → n < l.number → slice_get atoms n ≡ Some a → slice_get l.states n ≡ Some s → get_or l.movable n 0 ≡ movable_set a s) ×
    (length l.movable ≡ MAX_ATOMS)
