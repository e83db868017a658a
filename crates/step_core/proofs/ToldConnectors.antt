-- Connectors one after the other, each told where something of it changed.
use Rattle.std.proofs.Common.{◌≡◌, ℕ, ◌*◌, ◌%◌, ◌^◌, ◌<◌, ◌≤◌, sym, ◌∙◌, ap, length, arith, true, false, ⊎_elim}
use Rattle.std.specs.Prelude.{bit_or}
use Rattle.std.specs.FinSet.{FinSet, contains}
use Rattle.std.specs.Ordering.{nat_cmp}
use Rattle.std.proofs.lemmas.Bool.{cases_eq, true≢false}
use Rattle.priority_filter.specs.Members.{has_bit}
use Rattle.plant_model.specs.ConnectorRows.{is_of_connector}
use Rattle.plant_model.specs.System.{interactions_in, plant_of}
use Rattle.plant_model.specs.declared.system.System.{System}
use Rattle.step_core.proofs.OwnBits.{bit-set, bit-unset}
use Rattle.step_core.proofs.Ranked.{of-no-other}
use Rattle.step_core.proofs.SystemConnectors.{few-connectors}

module _ (system : System) (told connector : ℕ) (there : connector < length (plant_of system).wires) (old between new : FinSet nat_cmp)
    (others : (n : ℕ) → is_of_connector (interactions_in system) connector n ≡ false → contains new n ≡ contains between n)
    (so_far : (n k : ℕ) → is_of_connector (interactions_in system) k n ≡ true → has_bit told k ≡ false → contains between n ≡ contains old n) where
  low : connector < 64
  low = omega (arith, there, few-connectors system)

  abbrev more : ℕ
  more = bit_or told (1 * 2 ^ connector % 2 ^ 64)

  -- of another one nothing changed
  pub elsewhere : (n k : ℕ) → is_of_connector (interactions_in system) k n ≡ true → (k ≡ connector → ⊥) → contains new n ≡ contains between n
  elsewhere n k its other = others n (of-no-other system n k connector its other)

  -- it is told
  pub told-more : (n k : ℕ) → is_of_connector (interactions_in system) k n ≡ true → has_bit more k ≡ false → contains new n ≡ contains old n
  told-more n k its out =
      ⊎_elim
      (λ same. absurd (true≢false (sym (bit-set told connector low) ∙ ap (has_bit more) (sym same) ∙ out)))
      (λ other. elsewhere n k its other ∙ so_far n k its (sym (bit-unset told connector k low other) ∙ out))
      (cases_eq k connector)

  pub within-more : ((k : ℕ) → length (plant_of system).wires ≤ k → has_bit told k ≡ false) → (k : ℕ) → length (plant_of system).wires ≤ k → has_bit more k ≡ false
  within-more within k past = bit-unset told connector k low (λ same. absurd (omega (arith, same, there, past))) ∙ within k past

  -- or nothing changed
  pub told-still : ((n : ℕ) → contains new n ≡ contains between n) → (n k : ℕ) → is_of_connector (interactions_in system) k n ≡ true → has_bit told k ≡ false → contains new n ≡ contains old n
  told-still same n k its out = same n ∙ so_far n k its out
