-- Worked choices and runs of a plant whose rule has a condition, as computed facts of the definitions.
use Rattle.std.proofs.Common.{◌≡◌, ℕ, pos, refl, true, false, List, [], ◌∷◌, map, codes, None, Some}
use Rattle.std.specs.List.{list_all}
use Rattle.petri_atom.specs.Expression.{number}
use Rattle.petri_atom.specs.Local.{Local, set_below, moved}
use Rattle.petri_atom.specs.Definition.{AtomDefinition, TransitionDefinition, is_well_formed}
use Rattle.connector_tree.specs.Tree.{no_child, child, leaf}
use Rattle.priority_filter.specs.Decided.{is_below, is_overruled, order_fault}
use Rattle.priority_filter.specs.declared.fault.OrderFault.TheVariants.{Cycle}
use Rattle.priority_filter.specs.declared.rule.Side.TheVariants.{Whole}
use Rattle.priority_filter.specs.declared.rule.Rule.{Rule}
use Rattle.priority_filter.specs.declared.rule.Rule.TheVariants.{UnderAt}
use Rattle.priority_filter.specs.declared.seen.At.{At}
use Rattle.plant_model.specs.Choice.{ChoiceDefinition, choices}
use Rattle.plant_model.specs.Firing.{firing_by}
use Rattle.plant_model.specs.Plant.{PlantDefinition, WireDefinition}
use Rattle.plant_model.specs.Rules.{fault_of}
use Rattle.plant_model.specs.Runs.{fold}
use Rattle.plant_model.specs.Step.{initial_states}
use Rattle.plant_model.specs.declared.fault.SystemFault.TheVariants.{Order}

-- from one place to another, by port 0
abbrev leads : ℕ → ℕ → TransitionDefinition
leads source target = record { port = 0; sources = source ∷ []; targets = target ∷ []; guard = number (pos 1); updates = [] }

-- A switches between `on`, where it begins, and `off`; O stays where it is
abbrev switch : AtomDefinition
switch = record {
  name = codes "A";
  places = record { name = codes "on"; marked = true } ∷ record { name = codes "off"; marked = false } ∷ [];
  variables = [];
  ports = record { name = codes "t"; exports = [] } ∷ [];
  transitions = leads 0 1 ∷ leads 1 0 ∷ [];
}

abbrev other_atom : AtomDefinition
other_atom = record {
  name = codes "O";
  places = record { name = codes "s"; marked = true } ∷ [];
  variables = [];
  ports = record { name = codes "o"; exports = [] } ∷ [];
  transitions = leads 0 0 ∷ [];
}

abbrev wire : List ℕ → ℕ → WireDefinition
wire name atom = record { name = name; connector = child false (leaf atom 0) no_child; guards = []; transfers = []; inputs = [] }

-- `connector tick A.t` and `connector other O.o`, under some rules
abbrev pub plant : List Rule → PlantDefinition
plant rules = record { atoms = switch ∷ other_atom ∷ []; wires = wire (codes "tick") 0 ∷ wire (codes "other") 1 ∷ []; rules = rules }

abbrev place : ℕ → ℕ → At
place atom k = record { atom = atom; place = k }

-- `prio other < tick when A at on`
abbrev pub while_on : List Rule
while_on = UnderAt (Whole 1) (Whole 0) (place 0 0) ∷ []

abbrev pub marked : ℕ → Local
marked marking = record { marking = marking; values = [] }

abbrev on : List Local
on = marked 1 ∷ marked 1 ∷ []

abbrev off : List Local
off = marked 2 ∷ marked 1 ∷ []

abbrev pub tick : ℕ → ChoiceDefinition
tick transition = record { connector = 0; mask = 1; moves = record { atom = 0; transition = transition } ∷ [] }

abbrev pub other : ChoiceDefinition
other = record { connector = 1; mask = 1; moves = record { atom = 1; transition = 0 } ∷ [] }

-- it is a plant, of well-formed atoms, and begins with A at on
breaks_no_rule : fault_of (plant while_on) ≡ None
unfolding order_fault is_below
breaks_no_rule = refl

is_well_formed_too : list_all is_well_formed (plant while_on).atoms ≡ true
is_well_formed_too = refl

begins_on : initial_states (plant while_on) ≡ on
unfolding set_below
begins_on = refl

-- while A is at on the rule counts, and tick alone is left; while A is at off it does not
on_leaves_tick : choices (plant while_on) on ≡ tick 0 ∷ []
unfolding is_overruled is_below
on_leaves_tick = refl

off_leaves_both : choices (plant while_on) off ≡ tick 1 ∷ other ∷ []
unfolding is_overruled is_below
off_leaves_both = refl

-- without the rule both are left
no_rule_leaves_both : choices (plant []) on ≡ tick 0 ∷ other ∷ []
unfolding is_overruled is_below
no_rule_leaves_both = refl

-- the picks 0 1 0 0 fire tick, other, tick and tick, and end at off
four_picks : fold (plant while_on) on (map (λ c. firing_by c []) (tick 0 ∷ other ∷ tick 1 ∷ tick 0 ∷ [])) ≡ off
unfolding moved set_below
four_picks = refl

-- the other way round while A is at off: the two never count together, and are refused
never_together : fault_of (plant (UnderAt (Whole 1) (Whole 0) (place 0 0) ∷ UnderAt (Whole 0) (Whole 1) (place 0 1) ∷ [])) ≡ Some (Order (Cycle 0))
unfolding order_fault is_below
never_together = refl
