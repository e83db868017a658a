-- A plant that was served on its image leaves an image that stands for all that it acknowledged.
use Rattle.std.proofs.Common.{◌≡◌, ◌∙◌, sym, subst, ℕ, Bool, true, false, List, Option}
use Rattle.std.specs.Prelude.{IfSome, Some, None, flat_map}
use Rattle.disk_model.specs.DiskState.{DiskState}
use Rattle.plant_model.specs.Plant.{PlantDefinition}
use Rattle.plant_core.specs.View.{View}
use Rattle.plant_core.proofs.EventByEvent.{events-sound}
use Rattle.image_commands.specs.Runs.{IsBootedFrom, StandsForAllAcked}
use Rattle.plant_service.specs.Served.{HasServedOn, IsServedOn}
use Rattle.plant_service.specs.Serving.{Exchange, IsSession}

-- what a plant on a device says of it holds of the same device, plant and text by other names
stands-by-name : (p q : PlantDefinition) (d e : List ℕ) (mid new : DiskState) (v : View) → p ≡ q → d ≡ e → new ≡ mid → StandsForAllAcked p d mid v → StandsForAllAcked q e new v
stands-by-name p q d e mid new v same_plant same_digest same_device stands =
    subst (λ (s : DiskState). StandsForAllAcked q e s v) (sym same_device)
    (subst (λ (text : List ℕ). StandsForAllAcked q text mid v) same_digest (subst (λ (x : PlantDefinition). StandsForAllAcked x d mid v) same_plant stands))

module _ (r q : PlantDefinition) (d e rules : List ℕ) (old began mid : DiskState) (failed : Bool) (before after : View) (from to : Option (List ℕ))
    (same_plant : r ≡ q) (same_digest : d ≡ e) (booted : IsBootedFrom q e old before) (kept : began.keeps ≡ old.keeps) where
  -- a session of a plant that was booted
  pub served-on : (bytes : List ℕ) → IsSession r d rules before began bytes failed after mid from to → IsServedOn q e rules old bytes failed after mid from to
  served-on bytes session = record {
    before = before;
    began = began;
    booted = booted;
    kept = kept;
    session = subst (λ (text : List ℕ). IsSession q text rules before began bytes failed after mid from to) same_digest
        (subst (λ (x : PlantDefinition). IsSession x d rules before began bytes failed after mid from to) same_plant session);
  }

  -- the device failed in a call
  pub fails-on : failed ≡ true → (given : Option (List ℕ)) → IfSome given (λ bytes. IsSession r d rules before began bytes failed after mid from to)
      → IfSome given (λ bytes. (u : View) × ((image : DiskState) × IsServedOn q e rules old bytes true u image from to))
  fails-on broke None session = tt
  fails-on broke (Some bytes) session = (after, (mid, subst (λ (b : Bool). IsServedOn q e rules old bytes b after mid from to) broke (served-on bytes session)))

  -- it failed in none
  pub serves-on : (p : PlantDefinition) (t : List ℕ) (new : DiskState) → p ≡ q → t ≡ e → new ≡ mid → failed ≡ false → (mid.keeps ≡ true → after.broken ≡ false → StandsForAllAcked p t mid after)
      → (given : Option (List ℕ)) → IfSome given (λ bytes. IsSession r d rules before began bytes failed after mid from to) → IfSome given (λ bytes. HasServedOn q e rules old bytes new from to)
  serves-on p t new own_plant own_digest own_device sound stands None session = tt
  serves-on p t new own_plant own_digest own_device sound stands (Some bytes) session =
      let silent : IsServedOn q e rules old bytes false after mid from to = subst (λ (b : Bool). IsServedOn q e rules old bytes b after mid from to) sound (served-on bytes session) in
      let served = silent.session.lines.served in
      record {
        after = after;
        served = subst (λ (s : DiskState). IsServedOn q e rules old bytes false after s from to) (sym own_device) silent;
        stands = λ keeps.
            stands-by-name p q t e mid new after own_plant own_digest own_device
            (stands (served.driven.keeps ∙ silent.kept ∙ keeps)
            (events-sound q (flat_map (λ (x : Exchange). x.happened) served.exchanges) silent.before after served.driven.run (sym served.told) ∙ (silent.booted keeps).broken));
      }
