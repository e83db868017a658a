-- A session: from empty hands, between its first lines and its last ones.
use Rattle.std.proofs.Common.{◌≡◌, ◌∙◌, ap, subst, ℕ, Bool, List, length, map, codes, Option}
use Rattle.std.specs.Prelude.{IfSome}
use Rattle.std.specs.Io.KnownBytes.{Appends}
use Rattle.std.proofs.KnownBytes.{Appends-trans}
use Rattle.std.proofs.lemmas.Option.{IfSome_then}
use Rattle.disk_model.specs.DiskState.{DiskState}
use Rattle.petri_atom.specs.Atom.{definition_of}
use Rattle.petri_atom.specs.declared.atom.Atom.{Atom}
use Rattle.plant_model.specs.Plant.{PlantDefinition}
use Rattle.plant_core.specs.Hands.{HandFields, empty_hands}
use Rattle.plant_core.specs.View.{View}
use Rattle.script_lines.specs.Answers.{standing_text}
use Rattle.plant_service.specs.Serving.{AreLinesServed, HasBeenDriven, HasBeenServed, IsSession, closing_text}
use Rattle.plant_service.proofs.Atoms.{as-many}
use Rattle.plant_service.proofs.Driving.{StandsNow, none-driven}

-- as many hands as the plant has atoms
pub empty-of : {x plant : PlantDefinition} {hands : HandFields} (atoms : List Atom) → map definition_of atoms ≡ x.atoms → x ≡ plant → hands ≡ empty_hands (length atoms) → hands ≡ empty_hands (length plant.atoms)
empty-of atoms of_x same empty = empty ∙ ap empty_hands (as-many atoms of_x same)

-- nothing was asked
pub none-served : (plant : PlantDefinition) (digest : List ℕ) (v : View) (s : DiskState) → StandsNow plant digest v s → HasBeenServed plant digest v s v s
none-served plant digest v s stands = record { held = empty_hands (length plant.atoms); by = none-driven plant digest v s (empty_hands (length plant.atoms)) stands }

-- some events were
pub served-by : {plant : PlantDefinition} {digest : List ℕ} {v u : View} {s m : DiskState} {hands held : HandFields} → hands ≡ empty_hands (length plant.atoms)
    → HasBeenDriven plant digest v s hands u m held → HasBeenServed plant digest v s u m
served-by {plant = plant} {digest = digest} {v = v} {u = u} {s = s} {m = m} {held = held} empty driven =
    record { held = held; by = subst (λ (at : HandFields). HasBeenDriven plant digest v s at u m held) empty driven }

module _ (plant : PlantDefinition) (digest : List ℕ) (v u : View) (s m : DiskState) (hands held : HandFields) (empty : hands ≡ empty_hands (length plant.atoms)) where
  -- all of a session
  pub session-of : (rules : List ℕ) (given : Option (List ℕ)) (failed : Bool) (old stood opened closed new : Option (List ℕ)) → Appends old stood (standing_text plant v) → Appends stood opened (codes "end\n")
      → IfSome given (λ bytes. AreLinesServed plant digest rules v s hands bytes failed u m held opened closed) → Appends closed new (closing_text failed u)
      → IfSome given (λ bytes. IsSession plant digest rules v s bytes failed u m old new)
  session-of rules given failed old stood opened closed new standing ended served closes =
      IfSome_then given served
      (λ bytes lines. record {
        held = held;
        opened = opened;
        closed = closed;
        stood = Appends-trans old stood opened (standing_text plant v) (codes "end\n") standing ended;
        lines = subst (λ (at : HandFields). AreLinesServed plant digest rules v s at bytes failed u m held opened closed) empty lines;
        closes = closes;
      })
