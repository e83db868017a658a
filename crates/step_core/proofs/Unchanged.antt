-- Where the same interactions of two states are kept, and each of these has as many choices, as many choices are; and where the same
-- interactions are possible, and the same rules count, the same are allowed.
use Rattle.std.proofs.Common.{◌≡◌, ℕ, suc, ◌+◌, refl, sym, ◌∙◌, ap, List, [], ◌∷◌, ◌++◌, length, arith, Bool, true, false, cond, ⊎_elim}
use Rattle.std.specs.Prelude.{Some, slice_get}
use Rattle.std.specs.Option.{option_map_or}
use Rattle.std.proofs.lemmas.Bool.{cases_Bool}
use Rattle.std.proofs.lemmas.List.{length-append}
use Rattle.petri_atom.specs.Definition.{AtomDefinition}
use Rattle.petri_atom.specs.Local.{Local}
use Rattle.plant_model.specs.Choice.{Interaction, choices_of, flat_from}
use Rattle.plant_model.specs.Ways.{ways_at}
use Rattle.step_core.specs.ChoicesIn.{choices_in, choices_where}

module _ (atoms : List AtomDefinition) (all : List Interaction) (before after : List Local) (old new : ℕ → Bool)
    (same : (n : ℕ) → new n ≡ old n)
    (ways : (n : ℕ) → new n ≡ true → ways_at atoms after all n ≡ ways_at atoms before all n) where
  as-many : (k : ℕ) (i : Interaction) → (new k ≡ true → length (choices_of atoms after i) ≡ length (choices_of atoms before i)) → length (choices_where atoms after new k i) ≡ length (choices_where atoms before old k i)
  as-many k i alike = ⊎_elim
      (λ yes_.
      ap (λ b. length (cond b (choices_of atoms after i) [])) yes_ ∙ alike yes_ ∙
      sym (ap (λ b. length (cond b (choices_of atoms before i) [])) (sym (same k) ∙ yes_)))
      (λ no.
      ap (λ b. length (cond b (choices_of atoms after i) [])) no ∙
      sym (ap (λ b. length (cond b (choices_of atoms before i) [])) (sym (same k) ∙ no)))
      (cases_Bool (new k))

  from : (k : ℕ) (xs : List Interaction) → ((j : ℕ) (i : Interaction) → slice_get xs j ≡ Some i → new (k + j) ≡ true → length (choices_of atoms after i) ≡ length (choices_of atoms before i)) → length (flat_from (choices_where atoms after new) k xs) ≡ length (flat_from (choices_where atoms before old) k xs)
  from k [] alike = refl
  from k (x ∷ xs) alike =
      length-append (choices_where atoms after new k x) (flat_from (choices_where atoms after new) (suc k) xs) ∙
      ap (λ n. n + length (flat_from (choices_where atoms after new) (suc k) xs)) (as-many k x (λ yes_. alike 0 x refl (ap new (omega arith) ∙ yes_))) ∙
      ap (λ n. length (choices_where atoms before old k x) + n) (from (suc k) xs (λ j i there yes_. alike (suc j) i there (ap new (omega arith) ∙ yes_))) ∙
      sym (length-append (choices_where atoms before old k x) (flat_from (choices_where atoms before old) (suc k) xs))

  pub total-kept : length (choices_in atoms after all new) ≡ length (choices_in atoms before all old)
  total-kept = from 0 all (λ j i there yes_.
      sym (ap (λ o. option_map_or (λ k. length (choices_of atoms after k)) o 0) there) ∙ ways j (ap new (omega arith) ∙ yes_) ∙
      ap (λ o. option_map_or (λ k. length (choices_of atoms before k)) o 0) there)

-- where none is kept there is no choice
module _ (atoms : List AtomDefinition) (states : List Local) (test : ℕ → Bool) (never : (n : ℕ) → test n ≡ false) where
  pub none-kept : (k : ℕ) (xs : List Interaction) → flat_from (choices_where atoms states test) k xs ≡ []
  none-kept k [] = refl
  none-kept k (x ∷ xs) =
      ap (λ b. cond b (choices_of atoms states x) [] ++ flat_from (choices_where atoms states test) (suc k) xs) (never k) ∙ none-kept (suc k) xs
