-- The lines of what happened to a durable plant, and of where it stands.
use Rattle.std.specs.Prelude.{ℕ, List, [], ◌++◌, Option, None, Some, Result, Ok, Err, codes, decimal, if◌then◌else◌}
use Rattle.petri_atom.specs.Definition.{AtomDefinition}
use Rattle.petri_atom.specs.Local.{has}
use Rattle.plant_model.specs.Choice.{ChoiceDefinition}
use Rattle.plant_model.specs.Chosen.{choice_of}
use Rattle.plant_model.specs.Plant.{PlantDefinition}
use Rattle.text_io.specs.Numbered.{numbered}
use Rattle.run_text.specs.Line.{fired_line, states_text}
use Rattle.plant_core.specs.Refusals.{number_of}
use Rattle.plant_core.specs.View.{View, fired_number}
use Rattle.plant_core.specs.declared.events.FiredAs.{FiredAs}
use Rattle.plant_core.specs.declared.events.Happened.{Happened}
use Rattle.plant_core.specs.declared.events.Happened.TheVariants.{Fire, FireChoice, Flush, Ask, Put, Empty, Save, Trim, Begin, Back, Idle}
use Rattle.plant_core.specs.declared.events.SavedTo.{SavedTo}
use Rattle.plant_core.specs.declared.front.Front.{Front}
use Rattle.plant_core.specs.declared.refused.Refused.{Refused}
use Rattle.plant_core.specs.declared.refused.Refused.TheVariants.{Stuck, Busy, TailFull, RingFull, Spent, Away, Ahead, Stranger, NothingNew, Disk, Broken, Values}
use Rattle.script_lines.specs.Atoms.{atom_name}

-- the name of a refusal
abbrev pub name_of : Refused → List ℕ
name_of Stuck = codes "Stuck"
name_of Busy = codes "Busy"
name_of TailFull = codes "TailFull"
name_of RingFull = codes "RingFull"
name_of Spent = codes "Spent"
name_of (Away atom) = codes "Away"
name_of (Ahead atom) = codes "Ahead"
name_of Stranger = codes "Stranger"
name_of NothingNew = codes "NothingNew"
name_of Disk = codes "Disk"
name_of Broken = codes "Broken"
name_of Values = codes "Values"

-- the number of the atom that a refusal speaks of
abbrev pub atom_in : Refused → Option ℕ
atom_in (Away atom) = Some atom
atom_in (Ahead atom) = Some atom
atom_in other = None

-- the number of an atom, in parentheses
abbrev pub atom_said : Option ℕ → List ℕ
atom_said None = []
atom_said (Some atom) = codes "(" ++ decimal atom ++ codes ")"

-- a refusal: its number, its name, and the atom that it speaks of
abbrev pub refused_line : Refused → List ℕ
refused_line refused = codes "refused " ++ decimal (number_of refused) ++ codes " " ++ name_of refused ++ atom_said (atom_in refused)

-- a choice that was fired, as a trace prints it, or why none was
abbrev pub fire_line : PlantDefinition → Result FiredAs Refused → List ℕ
fire_line plant (Ok fired) = fired_line plant fired.number (choice_of fired.choice)
fire_line plant (Err refused) = refused_line refused

-- the plant did not have the choice that was to be fired
abbrev pub not_now_line : List ℕ
not_now_line = codes "refused 12 NotNow"

-- a flush: up to which number all is acknowledged
abbrev pub flushed_line : ℕ → List ℕ
flushed_line number = codes "flushed " ++ decimal number

-- a state that was copied: the name of its atom, and how often the atom has taken part
abbrev pub asked_line : List ℕ → ℕ → List ℕ
asked_line name count = codes "asked " ++ name ++ codes " " ++ decimal count

-- the same of one that was stored
abbrev pub stored_line : List ℕ → ℕ → List ℕ
stored_line name count = codes "stored " ++ name ++ codes " " ++ decimal count

-- a choice whose participants went away, with its number
abbrev pub begun_line : PlantDefinition → ℕ → ChoiceDefinition → List ℕ
begun_line plant number choice = fired_line plant number choice ++ codes " begun"

-- the atom with the name is present again
abbrev pub back_line : List ℕ → List ℕ
back_line name = codes "back " ++ name

-- no state or no job of the atom with the name was at hand
abbrev pub nothing_line : List ℕ → List ℕ
nothing_line name = codes "nothing " ++ name

-- the name of an atom behind a space, if the set has its number
abbrev pub name_if_in : ℕ → ℕ → AtomDefinition → List ℕ
name_if_in set number a = if has set number then codes " " ++ a.name else []

-- a save: the last number that is acknowledged, and the names of the atoms whose states were stored
abbrev pub saved_line : PlantDefinition → SavedTo → List ℕ
saved_line plant saved = codes "saved " ++ decimal saved.number ++ numbered (name_if_in saved.atoms) 0 plant.atoms

-- a trim: the first record that is kept
abbrev pub base_line : ℕ → List ℕ
base_line number = codes "base " ++ decimal number

-- What happened: a choice that was fired as a trace prints it, and told where its participants went away, up to where all was acknowledged, which state
-- was copied or stored, of which atoms the acknowledged states were, which atom is present again, from where on records are kept, or why the plant refused.
abbrev pub happened_line : PlantDefinition → Happened → List ℕ
happened_line plant (Fire pick values answer) = fire_line plant answer
happened_line plant (FireChoice choice values (Some answer)) = fire_line plant answer
happened_line plant (FireChoice choice values None) = not_now_line
happened_line plant (Flush (Ok number)) = flushed_line number
happened_line plant (Flush (Err refused)) = refused_line refused
happened_line plant (Ask atom (Ok copy)) = asked_line (atom_name plant atom) copy.count
happened_line plant (Ask atom (Err refused)) = refused_line refused
happened_line plant (Put handed (Ok count)) = stored_line (atom_name plant handed.atom) count
happened_line plant (Put handed (Err refused)) = refused_line refused
happened_line plant (Empty atom) = nothing_line (atom_name plant atom)
happened_line plant (Save (Ok saved)) = saved_line plant saved
happened_line plant (Save (Err refused)) = refused_line refused
happened_line plant (Trim (Ok base)) = base_line base
happened_line plant (Trim (Err refused)) = refused_line refused
happened_line plant (Begin pick values (Ok fired)) = begun_line plant fired.number (choice_of fired.choice)
happened_line plant (Begin pick values (Err refused)) = refused_line refused
happened_line plant (Back returned (Ok done)) = back_line (atom_name plant returned.atom)
happened_line plant (Back returned (Err refused)) = refused_line refused
happened_line plant (Idle atom) = nothing_line (atom_name plant atom)

-- how far a plant is: the last that was fired, the last that is acknowledged, and the first record that is kept
abbrev pub front_line : Front → List ℕ
front_line front = codes "front " ++ decimal front.fired ++ codes " " ++ decimal front.acked ++ codes " " ++ decimal front.base

-- how far a plant is that shows this
abbrev pub front_of : View → Front
front_of v = record { fired = fired_number v; acked = v.number; base = v.base }

-- Where a plant stands: a line for each atom in its present state, and how far it is.
abbrev pub standing_text : PlantDefinition → View → List ℕ
standing_text plant v = states_text plant v.present ++ front_line (front_of v) ++ codes "\n"
