-- Which records can be of a plant.
use Rattle.std.specs.Prelude.{ℕ, ◌==◌, ◌&&◌, Bool, true, false, List, [], ◌∷◌, length, drop, is_none}
use Rattle.std.specs.List.{list_all, list_any}
use Rattle.petri_atom.specs.Local.{Row}
use Rattle.petri_atom.specs.Definition.{AtomDefinition, exports_of}
use Rattle.connector_tree.specs.declared.tree.Port.{Port}
use Rattle.record_codec.specs.Fired.{FiredFields}
use Rattle.record_codec.specs.declared.entry.Entry.{Entry}
use Rattle.plant_model.specs.Choice.{Interaction, plant_interactions}
use Rattle.plant_model.specs.Laws.{is_of_port}
use Rattle.plant_model.specs.Plant.{PlantDefinition}
use Rattle.std.specs.Option.{option_map_or}
use Rattle.std.specs.Prelude.{slice_get}

-- nothing is delivered past so many exported variables
abbrev pub has_none_past : ℕ → Row → Bool
has_none_past exports row = list_all is_none (drop exports row)

-- the entry is of the port: its atom's, by a transition of the port, and it gets nothing past what the port exports
abbrev pub is_part_at : List AtomDefinition → Port → Entry → Bool
is_part_at atoms p e =
    e.atom == p.atom &&
    option_map_or (λ a. is_of_port a p.port e.transition && has_none_past (length (exports_of a p.port)) e.delivered) (slice_get atoms p.atom) false

-- there are as many entries as ports, and by place each is of the port
abbrev pub are_parts_at : List AtomDefinition → List Port → List Entry → Bool
are_parts_at atoms [] [] = true
are_parts_at atoms [] (e ∷ es) = false
are_parts_at atoms (p ∷ ps) [] = false
are_parts_at atoms (p ∷ ps) (e ∷ es) = is_part_at atoms p e && are_parts_at atoms ps es

-- the record is one of an interaction: it has its connector, and an entry of each of its ports, in their order
abbrev pub is_of_interaction : List AtomDefinition → FiredFields → Interaction → Bool
is_of_interaction atoms r i = r.connector == i.connector && are_parts_at atoms i.ports r.entries

-- the record can be of a plant: it is one of an interaction of the plant
abbrev pub is_record_of : PlantDefinition → FiredFields → Bool
is_record_of plant r = list_any (is_of_interaction plant.atoms r) (plant_interactions plant)
