-- Choices stand in the order of their connectors.
use Rattle.std.proofs.Common.{◌≡◌, ⊎_elim, ℕ, ◌+◌, ◌==◌, ◌<◌, ◌≤◌, ◌∙◌, ap, sym, subst, List, length, get_or, arith, false, nat_lt}
use Rattle.std.specs.Prelude.{Some, slice_get}
use Rattle.std.specs.Option.{option_map_or}
use Rattle.std.proofs.lemmas.Bool.{and_parts, cases_lt, eqb-true, ltb-true, ne_eqb, or_cases}
use Rattle.std.proofs.lemmas.Bool.Decides.{eqb_tells}
use Rattle.std.proofs.lemmas.List.Folds.{list_any-from_Any, list_any_none}
use Rattle.std.proofs.lemmas.Option.{get_or_from_slice_get, slice_get-get_or, slice_get_within}
use Rattle.petri_atom.specs.Local.{Local}
use Rattle.plant_model.specs.Choice.{ChoiceDefinition, choices}
use Rattle.plant_model.specs.Laws.{IsBefore}
use Rattle.plant_model.specs.Plant.{PlantDefinition}
use Rattle.plant_model.proofs.InOrder.{choices-rise}
use Rattle.plant_drawing.specs.Drawn.{has_choice, is_of_connector}
use Rattle.plant_drawing.specs.Place.{AreEarlier, AreLater, IsFirstFrom}

-- a choice that is before another is of an earlier connector or of the same
connector-before : (c d : ChoiceDefinition) → IsBefore c d → c.connector ≤ d.connector
connector-before c d before =
    ⊎_elim
    (λ lower. omega (arith, ltb-true c.connector d.connector lower))
    (λ same. omega (arith, eqb-true c.connector d.connector (and_parts (c.connector == d.connector) _ same).0))
    (or_cases (nat_lt c.connector d.connector) _ before)

module _ (plant : PlantDefinition) (states : List Local) where
  abbrev cs : List ChoiceDefinition
  cs = choices plant states

  -- so connectors rise along the choices of a state
  connectors-rise : (i j : ℕ) (c d : ChoiceDefinition) → i < j → slice_get cs i ≡ Some c → slice_get cs j ≡ Some d → c.connector ≤ d.connector
  connectors-rise i j c d less first second =
      connector-before c d
      (subst (λ e. IsBefore e d) (get_or_from_slice_get cs i c d first)
      (subst (IsBefore (get_or cs i d)) (get_or_from_slice_get cs j d d second)
      (choices-rise plant states i j d less (slice_get_within cs j d second))))

  -- at one place stands one choice
  same-connector : (i j : ℕ) (c d : ChoiceDefinition) → i ≡ j → slice_get cs i ≡ Some c → slice_get cs j ≡ Some d → c.connector ≡ d.connector
  same-connector i j c d same first second =
      ap (λ o. option_map_or (λ (x : ChoiceDefinition). x.connector) o 0) (sym first ∙ ap (slice_get cs) same ∙ second)

  -- from one place on, or after it
  not-before : (i j : ℕ) (c d : ChoiceDefinition) → i ≤ j → slice_get cs i ≡ Some c → slice_get cs j ≡ Some d → c.connector ≤ d.connector
  not-before i j c d order first second =
      ⊎_elim
      (λ less. connectors-rise i j c d less first second)
      (λ past. let e : i ≡ j = omega (arith, past, order) in omega (arith, same-connector i j c d e first second))
      (cases_lt i j)

  -- up to a choice of an earlier connector all are of earlier ones
  pub earlier-up-to : (number middle : ℕ) (m : ChoiceDefinition) → slice_get cs middle ≡ Some m → m.connector < number → AreEarlier cs number (middle + 1)
  earlier-up-to number middle m here lower i c within at =
      omega (arith, lower, not-before i middle c m (omega (arith, within)) at here)

  -- from a choice of this connector or of a later one on all are
  pub later-from : (number middle : ℕ) (m : ChoiceDefinition) → slice_get cs middle ≡ Some m → number ≤ m.connector → AreLater cs number middle
  later-from number middle m here higher i c past at =
      omega (arith, higher, not-before middle i m c past here at)

  -- where the first choice from a connector on is there, it says whether the connector has one
  pub known_by_first : (number place : ℕ) (c : ChoiceDefinition) → IsFirstFrom cs number place → slice_get cs place ≡ Some c → (c.connector == number) ≡ has_choice cs number
  known_by_first number place c first here =
      ⊎_elim
      (λ yes. yes.0 ∙ sym (list_any-from_Any (is_of_connector number) cs (place, c, slice_get_within cs place c here, get_or_from_slice_get cs place c c here, yes.0)))
      (λ no. no.0 ∙ sym (list_any_none (is_of_connector number) cs (λ k d within. ne_eqb (get_or cs k d).connector number (λ same. no.1 (found k (get_or cs k d) (slice_get-get_or cs k d within) same)))))
      (eqb_tells c.connector number)
    where
      found : (k : ℕ) (x : ChoiceDefinition) → slice_get cs k ≡ Some x → x.connector ≡ number → c.connector ≡ number
      found k x at same =
          ⊎_elim
          (λ less. absurd (omega (arith, same, first.earlier k x less at)))
          (λ past. omega (arith, same, not-before place k c x past here at, first.later place c (omega arith) here))
          (cases_lt k place)

  -- if it is not there, the connector has none
  pub known_past : (number place : ℕ) → IsFirstFrom cs number place → length cs ≤ place → false ≡ has_choice cs number
  known_past number place first past =
      sym (list_any_none (is_of_connector number) cs (λ k d within.
      ne_eqb (get_or cs k d).connector number (λ same.
      omega (arith, same, first.earlier k (get_or cs k d) (omega (arith, within, past)) (slice_get-get_or cs k d within)))))
