-- Interactions that are within others, as they are kept and as they are defined.
use Rattle.std.proofs.Common.{◌≡◌, ◌∙◌, refl, ap, ℕ, Bool, ◌==◌, ◌&&◌, ◌||◌, List, [], ◌∷◌, map}
use Rattle.std.specs.List.{list_any}
use Rattle.priority_filter.specs.Decided.{is_proper_subset}
use Rattle.plant_model.specs.Interaction.{interaction_of}
use Rattle.plant_model.specs.declared.interaction.Interaction.{Interaction}
use Rattle.plant_warnings.specs.Rules.{has_one_within, is_within_one}
use Rattle.plant_warnings.proofs.Mapped.{any_mapped}

-- some interaction that is kept is of the connector and has all leaves of the mask and more
abbrev is_in_one : List Interaction → ℕ → ℕ → Bool
is_in_one all connector mask = list_any (λ large. large.connector == connector && is_proper_subset mask large.mask) all

-- the same of those from some on
some-within : (connector : ℕ) (all some : List Interaction)
    → list_any (λ small. small.connector == connector && is_within_one (map interaction_of all) connector small.mask) (map interaction_of some)
    ≡ list_any (λ small. small.connector == connector && is_in_one all connector small.mask) some
some-within connector all [] = refl
some-within connector all (i ∷ is) =
    ap (λ b. (i.connector == connector && b) || list_any (λ small. small.connector == connector && is_within_one (map interaction_of all) connector small.mask) (map interaction_of is))
    (any_mapped (λ large. large.connector == connector && is_proper_subset i.mask large.mask) interaction_of all)
    ∙ ap (λ b. (i.connector == connector && is_in_one all connector i.mask) || b) (some-within connector all is)

-- some interaction of the connector is within another one of it, as they are kept
pub one-within : (connector : ℕ) (all : List Interaction)
    → has_one_within (map interaction_of all) connector ≡ list_any (λ small. small.connector == connector && is_in_one all connector small.mask) all
one-within connector all = some-within connector all all
