-- Targets of transfers.
use Rattle.std.proofs.Common.{◌≡◌, ◌∙◌, ap, ◌==◌, ◌&&◌, Bool, true, false, if◌then◌else◌, List, [], ◌∷◌, ◌++◌, map}
use Rattle.std.specs.List.{list_any}
use Rattle.std.proofs.lemmas.List.{map-append}
use Rattle.petri_atom.specs.Definition.{is_each_once}
use Rattle.petri_atom.proofs.Lists.{list_any-map}
use Rattle.plant_model.specs.Plant.{TransferDefinition}
use Rattle.plant_model.specs.Rules.{is_same_export}
use Rattle.plant_model.specs.Wire.{transfer_of}
use Rattle.plant_model.specs.declared.wire.Export.{Export}
use Rattle.plant_model.specs.declared.wire.Transfer.{Transfer}
use Rattle.plant_words.proofs.Once.{once_more, same_number-either_way}
use Rattle.connector_lines.specs.Rows.{has_target, has_targets_once}

-- the targets of transfers are those of what they are in memory
pub has_target_of : (transfers : List Transfer) (target : Export) → has_target (map transfer_of transfers) target ≡ list_any (λ t. is_same_export t.target target) transfers
has_target_of transfers target = list_any-map (λ t. is_same_export t.target target) transfer_of transfers

-- one is the same as another exactly where the other is the same as it
pub same_both_ways : (one other : Export) → is_same_export one other ≡ is_same_export other one
same_both_ways one other =
    ap (λ same. same && (one.export == other.export)) (same_number-either_way one.leaf other.leaf)
    ∙ ap (λ same. (other.leaf == one.leaf) && same) (same_number-either_way one.export other.export)

-- the targets of transfers are all different, and another one has none of them
pub targets_once_with_another : (transfers : List TransferDefinition) (another : TransferDefinition) → has_targets_once transfers ≡ true → has_target transfers another.target ≡ false → has_targets_once (transfers ++ another ∷ []) ≡ true
targets_once_with_another transfers another once new =
    ap (is_each_once is_same_export) (map-append (λ t. t.target) transfers (another ∷ [])) ∙
    once_more is_same_export (map (λ t. t.target) transfers) another.target once
    (list_any-map (is_same_export another.target) (λ t. t.target) transfers ∙ (λ i. list_any (λ t. same_both_ways another.target t.target i) transfers) ∙ new)

-- the same, of transfers to which another one was added or not
pub targets_once_after : (added : Bool) (before : List Transfer) (another : Transfer) (after : List Transfer) →
    after ≡ (if added then before ++ another ∷ [] else before) →
    has_targets_once (map transfer_of before) ≡ true → has_target (map transfer_of before) another.target ≡ false →
    has_targets_once (map transfer_of after) ≡ true
targets_once_after true before another after is once new =
    ap has_targets_once (ap (map transfer_of) is ∙ map-append transfer_of before (another ∷ [])) ∙
    targets_once_with_another (map transfer_of before) (transfer_of another) once new
targets_once_after false before another after is once new = ap (λ transfers. has_targets_once (map transfer_of transfers)) is ∙ once
