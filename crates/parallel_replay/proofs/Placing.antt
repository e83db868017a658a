-- The places of a share: they are filled one after another, and each has what was found of its atom.
use Rattle.std.proofs.Common.{◌≡◌, ◌<◌, ◌≤◌, ◌+◌, ◌%◌, ℕ, None, refl, sym, ◌∙◌, ap, subst, List, [], ◌∷◌, ◌++◌, length, get_or, arith, ⊎_elim, Result, Ok}
use Rattle.std.specs.Prelude.{Option, Some, slice_get}
use Rattle.std.specs.declared.alloc.AllocError.{AllocError}
use Rattle.std.proofs.Math.ListN.{get_or-append}
use Rattle.std.proofs.Math.Nat.{mod-lt}
use Rattle.std.proofs.lemmas.Bool.{cases_eq}
use Rattle.std.proofs.lemmas.List.{get_or_default, get_or_push}
use Rattle.std.proofs.lemmas.Option.{slice_get_within}
use Rattle.petri_atom.specs.Definition.{AtomDefinition}
use Rattle.plant_model.specs.Plant.{PlantDefinition}
use Rattle.plant_image.specs.Contents.{Contents}
use Rattle.plant_image.specs.declared.fault.ImageFault.{ImageFault}
use Rattle.plant_image.specs.declared.replaying.Reached.{Reached}
use Rattle.parallel_replay.specs.Shares.{AreShares, IsPlaced, IsShare, IsShareOf}
use Rattle.parallel_replay.specs.declared.share.Share.{Share}

-- one place more
pub one_more : (c : Contents) (atoms : List AtomDefinition) (workers worker k : ℕ) (places : List (Option (Result Reached ImageFault))) (place : Option (Result Reached ImageFault)) → length places ≡ k
    → ((n : ℕ) (a : AtomDefinition) → n < k → slice_get atoms n ≡ Some a → n % workers ≡ worker → IsPlaced c n a (get_or places n None))
    → ((a : AtomDefinition) → slice_get atoms k ≡ Some a → k % workers ≡ worker → IsPlaced c k a place)
    → (n : ℕ) (a : AtomDefinition) → n < k + 1 → slice_get atoms n ≡ Some a → n % workers ≡ worker → IsPlaced c n a (get_or (places ++ place ∷ []) n None)
one_more c atoms workers worker k places place long so_far its n a below at own = ⊎_elim
    (λ same.
    let here : get_or (places ++ place ∷ []) n None ≡ place = get_or_push places place None n (long ∙ sym same) in
    let there : slice_get atoms k ≡ Some a = ap (slice_get atoms) (sym same) ∙ at in
    let mine : k % workers ≡ worker = ap (λ (m : ℕ). m % workers) (sym same) ∙ own in
    subst (IsPlaced c n a) (sym here) (subst (λ (m : ℕ). IsPlaced c m a place) (sym same) (its a there mine)))
    (λ other.
    let before : n < k = omega (arith, below, other) in
    let within : n < length places = omega (arith, before, long) in
    subst (IsPlaced c n a) (sym (get_or-append places (place ∷ []) None n within)) (so_far n a before at own))
    (cases_eq n k)

-- the place of an atom in the share of its worker has what was found of it
pub found_at : (plant : PlantDefinition) (c : Contents) (workers n : ℕ) (shares : List (Result Share AllocError)) (given : Result Share AllocError) (share : Share) (place : Option (Result Reached ImageFault)) (a : AtomDefinition) → 1 ≤ workers → AreShares plant c workers shares
    → given ≡ get_or shares (n % workers) given → given ≡ Ok share → place ≡ get_or share.places.items n place → slice_get plant.atoms n ≡ Some a → IsPlaced c n a place
found_at plant c workers n shares given share place a some are from is read at =
    let own : IsShareOf plant c workers (n % workers) share = subst (IsShare plant c workers (n % workers)) (sym from ∙ is) (are.each (n % workers) given (mod-lt n some)) in
    let within : n < length share.places.items = omega (arith, own.places, slice_get_within plant.atoms n a at) in
    subst (IsPlaced c n a) (get_or_default share.places.items n None place within ∙ sym read) (own.placed n a at refl)
