-- What each sure choice is.
use Rattle.std.proofs.Common.{◌≡◌, ℕ, ◌+◌, refl, sym, ◌∙◌, ap, subst, List, [], map, Contains, arith, Bool, true, false, cond, not, ◌&&◌}
use Rattle.std.specs.Prelude.{Option}
use Rattle.std.specs.Option.{option_map_or}
use Rattle.std.proofs.lemmas.Bool.{and_parts, and_from, false_from_ne_true, false≢true}
use Rattle.petri_atom.specs.Local.{Local}
use Rattle.priority_filter.specs.Decided.{is_overruled}
use Rattle.priority_filter.proofs.DecidedOrder.{decides_overruled}
use Rattle.plant_model.specs.Choice.{ChoiceDefinition, Interaction, choices_of, combinations, is_possible, moves_of, named, plant_interactions}
use Rattle.plant_model.specs.Laws.{IsTaking}
use Rattle.plant_model.specs.Plant.{PlantDefinition}
use Rattle.plant_model.proofs.Membership.{from-flat_from, to-flat_from, to-map}
use Rattle.plant_model.proofs.OfChoices.{choice_by, none-above, of-interaction}
use Rattle.plant_model.proofs.OfPorts.{row-to-ports}
use Rattle.step_core.specs.Laws.{IsSureChoiceOf, IsSurelyOnTop}
use Rattle.step_core.specs.Parts.{may_count_in, shown_in}
use Rattle.step_core.specs.Sure.{IsSure, is_possible_in, is_sure_at, is_whole, may_come, sure_at}

module _ (plant : PlantDefinition) (parts : List (Option Local)) where
  abbrev all : List Interaction
  all = plant_interactions plant

  abbrev rivals : ℕ → Bool
  rivals = may_come plant.atoms plant.wires parts all

  -- the interaction is whole and possible
  abbrev pub is_ready : Interaction → Bool
  is_ready i = is_whole parts i && is_possible plant.atoms plant.wires (shown_in parts) i

  abbrev is_over : ℕ → Bool
  is_over n = is_overruled (may_count_in plant parts) (map named all) rivals n

  module _ (c : ChoiceDefinition) where
    -- a sure choice takes up an interaction that is sure
    pub taking-sure : IsSure plant parts c → (n : ℕ) × (IsTaking plant (shown_in parts) n c) × (is_sure_at plant parts all n ≡ true)
    taking-sure sure =
        let found = from-flat_from (sure_at plant parts all) 0 all c sure in
        let e : 0 + found.0 ≡ found.0 = omega arith in
        let given : Contains (sure_at plant parts all found.0 found.1) c = subst (λ n. Contains (sure_at plant parts all n found.1) c) e found.3 in
        let told = each found.0 found.1 (is_sure_at plant parts all found.0) refl given in
        (found.0, of-interaction plant (shown_in parts) c found.0 found.1 found.2 told.1, told.0)
      where
        each : (n : ℕ) (i : Interaction) (b : Bool) → is_sure_at plant parts all n ≡ b → Contains (cond b (choices_of plant.atoms (shown_in parts) i) []) c → (is_sure_at plant parts all n ≡ true) × Contains (choices_of plant.atoms (shown_in parts) i) c
        each n i true told at = (told, at)
        each n i false told at = absurd (omega (arith, at.1))

    -- it is a sure choice in the words of the model
    pub sure-choice-of : IsSure plant parts c → IsSureChoiceOf plant parts c
    sure-choice-of sure =
        let told = taking-sure sure in
        let n : ℕ = told.0 in
        let takes = told.1 in
        let passes = and_parts (is_possible_in plant parts all n) (not (is_over n)) told.2 in
        let ready : is_ready takes.interaction ≡ true = sym (ap (λ o. option_map_or is_ready o false) takes.there) ∙ passes.0 in
        let both = and_parts (is_whole parts takes.interaction) (is_possible plant.atoms plant.wires (shown_in parts) takes.interaction) ready in
        record {
          number = n;
          takes = takes;
          whole = both.0;
          possible = both.1;
          on_top = on-top n passes.1;
        }
      where
        on-top : (n : ℕ) → not (is_over n) ≡ true → IsSurelyOnTop plant parts n
        on-top n top above below = none-above (may_count_in plant parts) (map named all) rivals n top above below

    -- and what is such a choice is sure
    pub sure-of : IsSureChoiceOf plant parts c → IsSure plant parts c
    sure-of chosen =
        let takes = chosen.takes in
        let n : ℕ = chosen.number in
        let i : Interaction = takes.interaction in
        let made = to-map (choice_by plant (shown_in parts) i) (combinations (map (moves_of plant.atoms (shown_in parts)) i.ports)) c.moves (row-to-ports plant.atoms (shown_in parts) i.ports c.moves takes.moves) in
        let same : choice_by plant (shown_in parts) i c.moves ≡ c = ap (λ k. record { connector = k; mask = i.mask; moves = c.moves }) (sym takes.connector) ∙ ap (λ m. record { connector = c.connector; mask = m; moves = c.moves }) (sym takes.mask) in
        let at : Contains (choices_of plant.atoms (shown_in parts) i) c = subst (Contains (choices_of plant.atoms (shown_in parts) i)) same made in
        let ready : is_possible_in plant parts all n ≡ true = ap (λ o. option_map_or is_ready o false) takes.there ∙ and_from _ _ chosen.whole chosen.possible in
        let sure : is_sure_at plant parts all n ≡ true = and_from _ _ ready (ap not (not-over n chosen.on_top)) in
        let given : Contains (sure_at plant parts all n i) c = subst (λ b. Contains (cond b (choices_of plant.atoms (shown_in parts) i) []) c) (sym sure) at in
        let e : n ≡ 0 + n = omega arith in
        to-flat_from (sure_at plant parts all) 0 all n i c takes.there (subst (λ k. Contains (sure_at plant parts all k i) c) e given)
      where
        not-over : (n : ℕ) → IsSurelyOnTop plant parts n → is_over n ≡ false
        not-over n top = false_from_ne_true _ (λ over.
            let above = (decides_overruled (may_count_in plant parts) (map named all) rivals n).0 over in
            false≢true (sym (top above.0 above.2) ∙ above.1))
