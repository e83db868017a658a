-- Runs, and the states that they lead to.
use Rattle.std.proofs.Common.{◌≡◌, ◌==◌, ℕ, refl, sym, ◌∙◌, ap, subst, List, [], ◌∷◌, ◌++◌, true}
use Rattle.std.specs.Prelude.{Option, Some, None, slice_get, find, option_map}
use Rattle.std.specs.List.{list_all}
use Rattle.std.specs.Option.{option_map_or}
use Rattle.std.proofs.lemmas.Option.{none-some, same_Some}
use Rattle.petri_atom.specs.Local.{Local, Row}
use Rattle.petri_atom.specs.Definition.{AtomDefinition, Fits, fired, is_well_formed}
use Rattle.petri_atom.proofs.Fitting.{fired-fits}
use Rattle.plant_model.specs.Firing.{FiringDefinition}
use Rattle.plant_model.specs.Fitting.{IsOf, AllFit}
use Rattle.plant_model.specs.Plant.{PlantDefinition}
use Rattle.plant_model.specs.Runs.{IsRun, fold}
use Rattle.plant_model.specs.Step.{moved_by, next, stepped, transfer}
use Rattle.plant_model.specs.declared.choice.Move.{Move}
use Rattle.plant_model.proofs.ByAtom.{next-entry}
use Rattle.plant_model.proofs.Membership.{all-in, entry-in}
use Rattle.plant_model.proofs.Stepping.{length-stepped}

module _ (plant : PlantDefinition) where
  -- a run leads to the state that its choices lead to
  pub run-folds : (cs : List FiringDefinition) (start end : List Local) → IsRun plant start cs end → fold plant start cs ≡ end
  run-folds [] start end run = run
  run-folds (c ∷ cs) start end run = run-folds cs (next plant start c) end run.1

  -- runs one after the other are a run
  pub runs-join : (xs ys : List FiringDefinition) (start between end : List Local) → IsRun plant start xs between → IsRun plant between ys end → IsRun plant start (xs ++ ys) end
  runs-join [] ys start between end first second = subst (λ s. IsRun plant s ys end) (sym first) second
  runs-join (x ∷ xs) ys start between end first second = (first.0, runs-join xs ys (next plant start x) between end first.1 second)

  -- and a run is cut anywhere into two
  pub runs-cut : (xs ys : List FiringDefinition) (start end : List Local) → IsRun plant start (xs ++ ys) end → IsRun plant start xs (fold plant start xs) × IsRun plant (fold plant start xs) ys end
  runs-cut [] ys start end run = (refl, run)
  runs-cut (x ∷ xs) ys start end run =
      let parts = runs-cut xs ys (next plant start x) end run.1 in
      ((run.0, parts.0), parts.1)

  -- a step leaves a state of the plant
  next-is-of : (states : List Local) (c : FiringDefinition) → IsOf plant states → IsOf plant (next plant states c)
  next-is-of states c long = length-stepped plant.atoms c.moves (transfer plant states c) 0 states ∙ long

  module _ (formed : list_all is_well_formed plant.atoms ≡ true) where
    -- and one that fits
    pub stepped-fits : (a : AtomDefinition) (moves : List Move) (d : Row) (n : ℕ) (s : Local) → is_well_formed a ≡ true → Fits a s → Fits a (moved_by a moves d n s)
    stepped-fits a moves d n s well fits = each (find (λ m. m.atom == n) moves)
      where
        each : (o : Option Move) → Fits a (option_map_or (λ m. fired a m.transition d s) o s)
        each None = fits
        each (Some m) = fired-fits a m.transition d s well fits

    next-fits : (states : List Local) (c : FiringDefinition) → AllFit plant states → AllFit plant (next plant states c)
    next-fits states c fits n a s its_atom its_state =
        each (slice_get states n) refl (sym (next-entry plant.atoms c.moves (transfer plant states c) n states) ∙ its_state)
      where
        each : (o : Option Local) → slice_get states n ≡ o → option_map (stepped plant.atoms c.moves (transfer plant states c) n) o ≡ Some s → Fits a s
        each None there made = absurd (none-some s made)
        each (Some old) there made =
            let well = all-in is_well_formed plant.atoms formed a (entry-in plant.atoms n a its_atom) in
            let moved : moved_by a c.moves (transfer plant states c n) n old ≡ s =
            sym (ap (λ o. option_map_or (λ b. moved_by b c.moves (transfer plant states c n) n old) o old) its_atom) ∙ same_Some (stepped plant.atoms c.moves (transfer plant states c) n old) s made in
            subst (Fits a) moved (stepped-fits a c.moves (transfer plant states c n) n old well (fits n a old its_atom there))

    -- so each state that choices lead to is of the plant and fits
    pub fold-fits : (cs : List FiringDefinition) (start : List Local) → IsOf plant start → AllFit plant start → IsOf plant (fold plant start cs) × AllFit plant (fold plant start cs)
    fold-fits [] start long fits = (long, fits)
    fold-fits (c ∷ cs) start long fits = fold-fits cs (next plant start c) (next-is-of start c long) (next-fits start c fits)

    pub run-fits : (cs : List FiringDefinition) (start end : List Local) → IsOf plant start → AllFit plant start → IsRun plant start cs end → IsOf plant end × AllFit plant end
    run-fits cs start end long fits run =
        let whole = fold-fits cs start long fits in
        let same = run-folds cs start end run in
        (subst (IsOf plant) same whole.0, subst (AllFit plant) same whole.1)
