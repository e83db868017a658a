-- One more connector is judged, the lowest that is left: what is so of those that are not left.
use Rattle.std.proofs.Common.{◌≡◌, ℕ, ◌==◌, ◌<◌, ◌≤◌, ◌^◌, sym, ◌∙◌, ap, List, length, Bool, true, false, ⊎_elim, w64}
use Rattle.std.specs.FinSet.{FinSet, contains}
use Rattle.std.specs.Int.{trailing_zeros}
use Rattle.std.specs.Option.{option_map_or}
use Rattle.std.specs.Ordering.{nat_cmp}
use Rattle.std.proofs.lemmas.Bool.{cases_Bool, cases_eq, false≢true}
use Rattle.std.proofs.lemmas.Option.{slice_get_past}
use Rattle.priority_filter.specs.Members.{has_bit}
use Rattle.plant_model.specs.Choice.{Interaction}
use Rattle.plant_model.specs.ConnectorRows.{is_of_connector}
use Rattle.plant_model.specs.System.{interactions_in}
use Rattle.plant_model.specs.declared.system.System.{System}
use Rattle.plant_model.proofs.BitsLeft.{fewer, fewer-in, fewer-out}
use Rattle.step_core.proofs.Ranked.{of-no-other}

module _ (system : System) (can : ℕ → Bool) (left : ℕ) (some : 0 < left) (small : left < 2 ^ 64) (between new : FinSet nat_cmp)
    (judged : (n : ℕ) → is_of_connector (interactions_in system) (trailing_zeros w64 left) n ≡ true → contains new n ≡ can n)
    (apart : (n : ℕ) → is_of_connector (interactions_in system) (trailing_zeros w64 left) n ≡ false → contains new n ≡ contains between n) where
  abbrev all : List Interaction
  all = interactions_in system

  abbrev connector : ℕ
  connector = trailing_zeros w64 left

  pub left-within : (wires : ℕ) → ((k : ℕ) → wires ≤ k → has_bit left k ≡ false) → (k : ℕ) → wires ≤ k → has_bit (fewer left some small) k ≡ false
  left-within wires so_far k past = ⊎_elim (λ inside. absurd (false≢true (sym (so_far k past) ∙ fewer-in left some small k inside))) (λ out. out) (cases_Bool _)

  pub right-next : ((n k : ℕ) → is_of_connector all k n ≡ true → has_bit left k ≡ false → contains between n ≡ can n)
      → (n k : ℕ) → is_of_connector all k n ≡ true → has_bit (fewer left some small) k ≡ false → contains new n ≡ can n
  right-next so_far n k its out =
      ⊎_elim
      (λ same. judged n (ap (λ j. is_of_connector all j n) (sym same) ∙ its))
      (λ other. apart n (of-no-other system n k connector its other) ∙ so_far n k its (fewer-out left some small k other out))
      (cases_eq k connector)

  pub past-next : ((n : ℕ) → length all ≤ n → contains between n ≡ false) → (n : ℕ) → length all ≤ n → contains new n ≡ false
  past-next so_far n past = apart n (ap (λ o. option_map_or (λ (i : Interaction). i.connector == connector) o false) (slice_get_past all n past)) ∙ so_far n past
