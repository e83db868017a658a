-- What is saved of a session.
use Rattle.std.specs.Prelude.{◌≡◌, ℕ, Bool, List, [], ◌∷◌, flat_map}
use Rattle.plant_model.specs.Plant.{PlantDefinition}
use Rattle.run_text.specs.Steps.{saved_line}
use Rattle.step_session.specs.Session.{SessionDefinition, fired_in}

-- the choices that were fired, in order, each as a line
abbrev pub saved_text : PlantDefinition → SessionDefinition → List ℕ
saved_text plant session = flat_map (saved_line plant) (fired_in plant session)

-- what a saver was asked to save, where, and what it said: whether it could
pub record Saving : Type 0 where
  pub path : List ℕ
  pub text : List ℕ
  pub said : Bool

-- a saver was asked for savings, one after another; `saves` is what one call may be
abbrev pub AreSaved : {S : Type 0} → (S → List ℕ → List ℕ → Bool → S → Type 0) → S → List Saving → S → Type 0
AreSaved saves before [] after = before ≡ after
AreSaved {S} saves before (saving ∷ savings) after =
    (between : S) × saves before saving.path saving.text saving.said between × AreSaved saves between savings after
