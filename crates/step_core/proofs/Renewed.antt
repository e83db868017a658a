-- What is kept after a change is right: what the change did not reach is as it was.
use Rattle.std.proofs.Common.{◌≡◌, ℕ, ◌≤◌, sym, ◌∙◌, ap, List, length, map, Contains, Bool, true, false, not, ◌&&◌, ⊎_elim}
use Rattle.std.specs.FinSet.{FinSet, contains}
use Rattle.std.specs.Ordering.{nat_cmp}
use Rattle.std.proofs.lemmas.Bool.{cases_Bool, cases_lt}
use Rattle.priority_filter.specs.Active.{active}
use Rattle.priority_filter.specs.Decided.{is_overruled}
use Rattle.priority_filter.specs.Members.{has_bit}
use Rattle.priority_filter.specs.declared.rule.Rule.TheVariants.{UnderAt}
use Rattle.priority_filter.specs.declared.rule.Side.{Side}
use Rattle.priority_filter.specs.declared.seen.At.{At}
use Rattle.priority_filter.proofs.Counting.{alike-counted, same-counted}
use Rattle.plant_model.specs.Choice.{Interaction, named}
use Rattle.plant_model.specs.ConnectorRows.{is_of_connector}
use Rattle.plant_model.specs.Plant.{PlantDefinition}
use Rattle.plant_model.specs.System.{interactions_in, plant_of}
use Rattle.plant_model.specs.declared.system.System.{System}
use Rattle.step_core.specs.Renewal.{IsKeptBehind, is_kept_of_possible}
use Rattle.step_core.specs.Standing.{is_always_overruled}
use Rattle.step_core.proofs.Ranked.{connector-of, rivals-alike}

module _ (system : System) (affected : ℕ) (is_seen_new : Bool) (marked : At → Bool) (possible rivals : ℕ → Bool) (kept : FinSet nat_cmp)
    (behind : IsKeptBehind (plant_of system) (interactions_in system) affected is_seen_new marked possible rivals kept)
    (past : (n : ℕ) → length (interactions_in system) ≤ n → possible n ≡ false) where
  abbrev plant : PlantDefinition
  plant = plant_of system

  abbrev all : List Interaction
  all = interactions_in system

  abbrev now : ℕ → Bool
  now = is_kept_of_possible plant all marked possible rivals

  -- past the last interaction nothing is kept, now or before
  past-kept : (n : ℕ) → length all ≤ n → contains kept n ≡ now n
  past-kept n behind_all =
      behind.were_kept n ∙
      ap (λ b. b && not (is_overruled (active behind.marked_before plant.rules) (map named all) behind.rivals_before n)) (behind.none_before n behind_all) ∙
      sym (ap (λ b. b && not (is_overruled (active marked plant.rules) (map named all) rivals n)) (past n behind_all))

  -- each number is past the last interaction, or one of a connector's
  each-number : (P : ℕ → Type 0) → ((n : ℕ) → length all ≤ n → P n) → ((n k : ℕ) → is_of_connector all k n ≡ true → P n) → (n : ℕ) → P n
  each-number P behind_all of_one n =
      ⊎_elim (λ within. let own = connector-of system n within in of_one n own.0 own.2) (behind_all n) (cases_lt n (length all))

  -- what was kept is so of what is possible now, of a connector that is not affected
  were-kept : (n k : ℕ) → is_of_connector all k n ≡ true → has_bit affected k ≡ false → contains kept n ≡ (possible n && not (is_overruled (active behind.marked_before plant.rules) (map named all) behind.rivals_before n))
  were-kept n k its out =
      behind.were_kept n ∙
      ap (λ b. b && not (is_overruled (active behind.marked_before plant.rules) (map named all) behind.rivals_before n)) (sym (behind.possible_alike n k its out))

  -- ---- where nothing changed

  module _ (still : (k : ℕ) → has_bit affected k ≡ false) (unseen : is_seen_new ≡ false) where
    pub all-still : (n : ℕ) → contains kept n ≡ now n
    all-still =
        each-number (λ n. contains kept n ≡ now n) past-kept
        (λ n k its.
        were-kept n k its (still k) ∙
        ap (λ b. possible n && not b)
        (ap (λ rules. is_overruled rules (map named all) behind.rivals_before n) (sym (alike-counted plant.rules marked behind.marked_before (behind.seen_alike unseen))) ∙
        sym (rivals-alike system (active marked plant.rules) behind.rivals_before rivals (λ m j own. behind.rivals_alike m j own (still j)) n)))

  -- ---- connector by connector

  module _ (unasked : (left right : Side) (at : At) → Contains plant.rules (UnderAt left right at) → ⊥)
      (new : FinSet nat_cmp)
      (own : (n k : ℕ) → is_of_connector all k n ≡ true → has_bit affected k ≡ true → contains new n ≡ (possible n && not (is_always_overruled plant all rivals n)))
      (others : (n k : ℕ) → is_of_connector all k n ≡ true → has_bit affected k ≡ false → contains new n ≡ contains kept n)
      (past_all : (n : ℕ) → length all ≤ n → contains new n ≡ contains kept n) where
    -- the rules that count are those without a condition
    by-always : (marks : At → Bool) (by : ℕ → Bool) (n : ℕ) → is_overruled (active marks plant.rules) (map named all) by n ≡ is_always_overruled plant all by n
    by-always marks by n = ap (λ rules. is_overruled rules (map named all) by n) (same-counted plant.rules marks (λ _. false) unasked)

    still-kept : (n k : ℕ) → is_of_connector all k n ≡ true → has_bit affected k ≡ false → contains kept n ≡ now n
    still-kept n k its out =
        were-kept n k its out ∙
        ⊎_elim
        (λ can. ap (λ b. possible n && not b) (by-always behind.marked_before behind.rivals_before n ∙ sym (behind.over_alike n k its out can) ∙ sym (by-always marked rivals n)))
        (λ cannot.
        ap (λ b. b && not (is_overruled (active behind.marked_before plant.rules) (map named all) behind.rivals_before n)) cannot ∙
        sym (ap (λ b. b && not (is_overruled (active marked plant.rules) (map named all) rivals n)) cannot))
        (cases_Bool (possible n))

    pub by-connectors : (n : ℕ) → contains new n ≡ now n
    by-connectors =
        each-number (λ n. contains new n ≡ now n)
        (λ n behind_all. past_all n behind_all ∙ past-kept n behind_all)
        (λ n k its. ⊎_elim
        (λ inside. own n k its inside ∙ ap (λ b. possible n && not b) (sym (by-always marked rivals n)))
        (λ out. others n k its out ∙ still-kept n k its out)
        (cases_Bool (has_bit affected k)))
