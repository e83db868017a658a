-- Whatever a stop leaves of a plant's device stands for what is acknowledged.
use Rattle.std.proofs.Common.{◌≡◌, ◌∙◌, ◌++◌, ap, sym, subst, arith, codes, ℕ, Bool, true, false, List, Option}
use Rattle.std.proofs.lemmas.List.{length-map}
use Rattle.std.specs.Prelude.{◌+◌, length, map}
use Rattle.disk_model.specs.DiskState.{DiskState, size_of}
use Rattle.disk_model.specs.Cells.{seen_cells}
use Rattle.disk_model.specs.declared.cells.TheConstants.{BODY}
use Rattle.petri_atom.specs.Atom.{definition_of}
use Rattle.petri_atom.specs.Local.{Local}
use Rattle.petri_atom.specs.declared.atom.Atom.{Atom}
use Rattle.plant_model.specs.Plant.{PlantDefinition}
use Rattle.plant_image.specs.Contents.{Contents, contents_of, last_number, states_of}
use Rattle.plant_image.specs.Standing.{StandsFor}
use Rattle.plant_core.specs.Hands.{HandFields, empty_hands}
use Rattle.plant_core.specs.View.{View, fired_number}
use Rattle.plant_core.specs.declared.events.Event.{Event}
use Rattle.recovery.specs.Booting.{IsBooted}
use Rattle.run_text.specs.Line.{states_text}
use Rattle.script_lines.specs.Answers.{front_line, standing_text}
use Rattle.script_lines.specs.Runs.{IsRunOf}
use Rattle.script_lines.specs.Strict.{IsStrictRun}
use Rattle.script_lines.specs.declared.strict.Stop.{Stop}
use Rattle.image_commands.specs.Printed.{recovered_text}
use Rattle.image_commands.specs.Runs.{HasRunOn, IsBootedFrom, IsRunOn, StandsAsRead, StandsForAllAcked}
use Rattle.image_commands.specs.Strict.{HasRunStrictlyOn}
use Rattle.plant_core.proofs.EventByEvent.{events-sound}

-- A plant on a device, by names of its own: what it says of the device holds of the same device, plant and text by other names.
stands_by_name : (p q : PlantDefinition) (d e : List ℕ) (mid new : DiskState) (v : View) → p ≡ q → d ≡ e → new ≡ mid →
    StandsForAllAcked p d mid v → StandsForAllAcked q e new v
stands_by_name p q d e mid new v same_plant same_digest same_device stands =
    subst (λ s. StandsForAllAcked q e s v) (sym same_device)
    (subst (λ digest. StandsForAllAcked q digest mid v) same_digest (subst (λ plant. StandsForAllAcked plant d mid v) same_plant stands))

-- where the plant is as it was booted, that is what its device read for
stands_as_read : (plant : PlantDefinition) (digest : List ℕ) (old new : DiskState) (v : View) →
    IsBooted plant digest (size_of old) (seen_cells (BODY + 1) old) v → StandsForAllAcked plant digest new v → StandsAsRead plant digest old new
stands_as_read plant digest old new v booted stands cells may =
    subst (λ states. StandsFor plant digest (size_of new) cells states (last_number (contents_of (length plant.atoms) (seen_cells (BODY + 1) old)))) booted.acked
    (subst (λ number. StandsFor plant digest (size_of new) cells v.acked number) booted.number (stands cells may))

-- a plant that is let go as it was booted leaves an image that stands for what was read
pub recovered_stands : (p q : PlantDefinition) (d e : List ℕ) (old mid new : DiskState) (v : View) → p ≡ q → d ≡ e → new ≡ mid →
    mid.keeps ≡ old.keeps → IsBootedFrom q e old v → (mid.keeps ≡ true → v.broken ≡ false → StandsForAllAcked p d mid v) →
    old.keeps ≡ true → StandsAsRead q e old new
recovered_stands p q d e old mid new v same_plant same_digest same_device kept booted stands keeps =
    stands_as_read q e old new v (booted keeps)
    (stands_by_name p q d e mid new v same_plant same_digest same_device (stands (kept ∙ keeps) (booted keeps).broken))

-- where a plant stands that was booted is what its image leads to
pub booted-text : (plant : PlantDefinition) (digest : List ℕ) (old : DiskState) (v : View) → IsBooted plant digest (size_of old) (seen_cells (BODY + 1) old) v →
    standing_text plant v ≡ recovered_text plant (seen_cells (BODY + 1) old)
booted-text plant digest old v booted =
    let held : Contents = contents_of (length plant.atoms) (seen_cells (BODY + 1) old) in
    let fired : fired_number v ≡ last_number held = omega (arith, booted.number, ap length booted.tail) in
    ap (λ (states : List Local). states_text plant states ++ front_line (record { fired = fired_number v; acked = v.number; base = v.base }) ++ codes "\n") (booted.present ∙ booted.acked) ∙
    ap (λ (n : ℕ). states_text plant (states_of plant held) ++ front_line (record { fired = n; acked = v.number; base = v.base }) ++ codes "\n") fired ∙
    ap (λ (n : ℕ). states_text plant (states_of plant held) ++ front_line (record { fired = last_number held; acked = n; base = v.base }) ++ codes "\n") booted.number ∙
    ap (λ (n : ℕ). states_text plant (states_of plant held) ++ front_line (record { fired = last_number held; acked = last_number held; base = n }) ++ codes "\n") booted.base

-- a run from the empty hands of a plant's atoms, with the same plant and text by other names
pub ran_on : (r q : PlantDefinition) (d e : List ℕ) (old began image : DiskState) (events : List Event) (failed : Bool) (before after : View) (hands hands_after : HandFields)
    (from to : Option (List ℕ)) (atoms : List Atom) → r ≡ q → d ≡ e → IsBootedFrom q e old before → began.keeps ≡ old.keeps → map definition_of atoms ≡ q.atoms → hands ≡ empty_hands (length atoms) →
    IsRunOf r d before began hands events failed after image hands_after from to → IsRunOn q e old events failed after image from to
ran_on r q d e old began image events failed before after hands hands_after from to atoms same_plant same_digest booted kept of_plant empty ran = record {
  before = before;
  began = began;
  hands = hands_after;
  booted = booted;
  kept = kept;
  ran = subst (λ held. IsRunOf q e before began held events failed after image hands_after from to) (empty ∙ ap empty_hands (sym (length-map atoms definition_of) ∙ ap length of_plant))
      (subst (λ (text : List ℕ). IsRunOf q text before began hands events failed after image hands_after from to) same_digest
      (subst (λ plant. IsRunOf plant d before began hands events failed after image hands_after from to) same_plant ran));
}

-- a run in which the device did not fail leaves an image that stands for all that it acknowledged
pub run_stands : (p q : PlantDefinition) (d e : List ℕ) (old mid new : DiskState) (events : List Event) (failed : Bool) (after : View)
    (from to : Option (List ℕ)) → p ≡ q → d ≡ e → new ≡ mid → failed ≡ false → IsRunOn q e old events failed after mid from to →
    (mid.keeps ≡ true → after.broken ≡ false → StandsForAllAcked p d mid after) → HasRunOn q e old events new from to
run_stands p q d e old mid new events failed after from to same_plant same_digest same_device sound run stands =
    let silent : IsRunOn q e old events false after mid from to = subst (λ (f : Bool). IsRunOn q e old events f after mid from to) sound run in
    record {
      after = after;
      run = subst (λ (s : DiskState). IsRunOn q e old events false after s from to) (sym same_device) silent;
      stands = λ keeps.
          stands_by_name p q d e mid new after same_plant same_digest same_device
          (stands (silent.ran.driven.keeps ∙ silent.kept ∙ keeps)
          (events-sound q silent.ran.happened silent.before after silent.ran.driven.run (sym silent.ran.told) ∙ (silent.booted keeps).broken));
    }

-- a strict run from the empty hands of a plant's atoms, with the same plant and text by other names, leaves an image that stands for all that is acknowledged
pub strict_run_stands : (r p q : PlantDefinition) (d t e : List ℕ) (old began mid new : DiskState) (events : List Event) (stop : Option Stop) (before after : View) (hands hands_after : HandFields)
    (from to : Option (List ℕ)) (atoms : List Atom) → r ≡ q → d ≡ e → p ≡ q → t ≡ e → new ≡ mid → IsBootedFrom q e old before → began.keeps ≡ old.keeps → map definition_of atoms ≡ q.atoms → hands ≡ empty_hands (length atoms) →
    IsStrictRun r d before began hands events stop after mid hands_after from to → (mid.keeps ≡ true → after.broken ≡ false → StandsForAllAcked p t mid after) →
    HasRunStrictlyOn q e old events stop new from to
strict_run_stands r p q d t e old began mid new events stop before after hands hands_after from to atoms run_plant run_digest same_plant same_digest same_device booted kept of_plant empty ran stands = record {
  before = before;
  began = began;
  after = after;
  hands = hands_after;
  booted = booted;
  kept = kept;
  ran = subst (λ (s : DiskState). IsStrictRun q e before began (empty_hands (length q.atoms)) events stop after s hands_after from to) (sym same_device)
      (subst (λ held. IsStrictRun q e before began held events stop after mid hands_after from to) (empty ∙ ap empty_hands (sym (length-map atoms definition_of) ∙ ap length of_plant))
      (subst (λ (text : List ℕ). IsStrictRun q text before began hands events stop after mid hands_after from to) run_digest
      (subst (λ plant. IsStrictRun plant d before began hands events stop after mid hands_after from to) run_plant ran)));
  stands = λ keeps sound.
      stands_by_name p q t e mid new after same_plant same_digest same_device (stands (ran.run.driven.keeps ∙ kept ∙ keeps) sound);
}
