-- What is seen of a state's atoms makes the rules count that count in the state.
use Rattle.std.proofs.Common.{◌≡◌, ◌<◌, List, map, None, sym, ◌∙◌, subst}
use Rattle.std.proofs.lemmas.List.{get_or_default}
use Rattle.petri_atom.specs.Local.{Local}
use Rattle.priority_filter.specs.Active.{active, may_be_marked}
use Rattle.priority_filter.specs.Order.{AreKnown, IsKnown, rule_at}
use Rattle.priority_filter.specs.declared.rule.Rule.TheVariants.{Under, UnderAt}
use Rattle.priority_filter.specs.declared.rule.Side.TheVariants.{Whole}
use Rattle.priority_filter.specs.declared.seen.At.{At}
use Rattle.priority_filter.specs.declared.seen.Seen.{Seen}
use Rattle.priority_filter.specs.declared.seen.TheConstants.{SEEN_ATOMS}
use Rattle.priority_filter.proofs.Counting.{alike-counted}
use Rattle.priority_filter.proofs.DecidedOrder.{decides_no_fault}
use Rattle.plant_model.specs.Choice.{active_in, is_marked_at, named, plant_interactions}
use Rattle.plant_model.specs.Plant.{PlantDefinition}
use Rattle.plant_model.specs.Rules.{fault_of}
use Rattle.plant_model.proofs.NoDeadlock.{order-sound}

-- the rules of a plant that breaks no rule of plants ask for places that a row can show
pub seen-counts : (plant : PlantDefinition) (states : List Local) (seen : List Seen) → fault_of plant ≡ None
    → ((at : At) → at.atom < SEEN_ATOMS → may_be_marked seen at ≡ is_marked_at states at)
    → active (may_be_marked seen) plant.rules ≡ active_in plant states
seen-counts plant states seen valid shown =
    let interactions = map named (plant_interactions plant) in
    let known : AreKnown plant.rules interactions = ((decides_no_fault plant.rules interactions).0 (order-sound plant valid)).0 in
    alike-counted plant.rules (may_be_marked seen) (is_marked_at states) (λ left right at there.
    let is : rule_at plant.rules there.0 ≡ UnderAt left right at = sym (get_or_default plant.rules there.0 (UnderAt left right at) (Under (Whole 0) (Whole 0)) there.1) ∙ there.2 in
    let own : IsKnown interactions (UnderAt left right at) = subst (IsKnown interactions) is (known there.0 there.1) in
    shown at own.2.0)
