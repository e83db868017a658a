-- The weight of a connector of which all interactions stand in one word, where each that is kept has one choice.
use Rattle.std.proofs.Common.{◌≡◌, ℕ, ◌+◌, ◌*◌, ◌/◌, ◌%◌, ◌<◌, ◌^◌, sym, ◌∙◌, ap, List, arith, count_ones, Bool, true, false, ⊎_elim}
use Rattle.std.proofs.lemmas.Bool.{and_parts, and_right, cases_Bool, false≢true}
use Rattle.petri_atom.specs.Local.{Local}
use Rattle.priority_filter.specs.Members.{has_bit}
use Rattle.plant_model.specs.Choice.{Interaction}
use Rattle.plant_model.specs.ConnectorRows.{is_of_connector}
use Rattle.plant_model.specs.Plant.{PlantDefinition}
use Rattle.plant_model.specs.Ways.{ways_at}
use Rattle.step_core.specs.ChoicesIn.{AreAllPossible}
use Rattle.step_core.specs.Weights.{is_kept_of, weight_of}
use Rattle.plant_model.proofs.BitsLeft.{no-bit}
use Rattle.step_core.proofs.Counted.{count-all, count-skips}
use Rattle.step_core.proofs.WordChoices as single

module _ (plant : PlantDefinition) (all : List Interaction) (states : List Local) (k place : ℕ) (in_word : (n : ℕ) → is_of_connector all k n ≡ true → n / 64 ≡ place)
    (kept : ℕ → Bool) (possible : AreAllPossible plant.atoms plant.wires states all (is_kept_of all kept k))
    (word : ℕ) (bits : (n : ℕ) → n / 64 ≡ place → has_bit word (n % 64) ≡ is_kept_of all kept k n) where
  abbrev its : ℕ → Bool
  its = is_kept_of all kept k

  -- none of it is kept elsewhere
  elsewhere : (n : ℕ) → (n / 64 ≡ place → ⊥) → its n ≡ false
  elsewhere n away =
      ⊎_elim
      (λ own. absurd (away (in_word n own)))
      (λ apart. and_right (kept n) (is_of_connector all k n) apart)
      (cases_Bool (is_of_connector all k n))

  -- each kept one has one choice where none is
  pub single-none : word ≡ 0 → (n : ℕ) → its n ≡ true → ways_at plant.atoms states all n ≡ 1
  single-none none n yes_ =
      let here = in_word n (and_parts (kept n) (is_of_connector all k n) yes_).1 in
      absurd (false≢true (sym (ap (λ w. has_bit w (n % 64)) none ∙ no-bit (n % 64)) ∙ bits n here ∙ yes_))

  -- the weight is the number of its bits
  pub weight-word : word < 2 ^ 64 → ((n : ℕ) → its n ≡ true → ways_at plant.atoms states all n ≡ 1) → weight_of plant.atoms states all kept k ≡ count_ones word
  weight-word small each =
      omega (
        arith,
        count-skips plant.atoms plant.wires states all its possible 0 (64 * place) (omega arith) (λ m from below. elsewhere m (λ here. omega (arith, here, below))),
        single.counted-word plant.atoms plant.wires states all its possible place word bits each small,
        count-all plant.atoms plant.wires states all its possible (64 * (place + 1)) (λ m from. elsewhere m (λ here. omega (arith, here, from))),
      )
