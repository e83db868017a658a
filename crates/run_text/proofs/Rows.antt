-- Worked lines, as computed facts of the definitions.
use Rattle.std.proofs.Common.{◌≡◌, ℕ, ◌∷◌, [], List, pos, negsuc, true, refl, codes, ◌^◌, ◌-◌}
use Rattle.std.specs.Fmt.{digits}
use Rattle.std.specs.Prelude.{None, Some}
use Rattle.petri_atom.specs.Expression.{number}
use Rattle.petri_atom.specs.Local.{set_below}
use Rattle.petri_atom.specs.Definition.{AtomDefinition}
use Rattle.petri_atom.specs.declared.parts.Place.{Place}
use Rattle.petri_atom.specs.declared.parts.Variable.{Variable}
use Rattle.connector_tree.specs.Tree as connectors
use Rattle.plant_model.specs.Plant.{PlantDefinition}
use Rattle.run_text.specs.Line.{participant, fired_line, state_line}
use Rattle.run_text.specs.Word.{separated_by}
use Rattle.run_text.specs.Csv.{state_row}
use Rattle.run_text.specs.Delivered.{delivered_words}
use Rattle.run_text.specs.Jsonl.{atom_object, state_object}
use Rattle.run_text.specs.Message.{refused_message}
use Rattle.run_text.specs.Picks.{counted_picks, numbered_picks}
use Rattle.run_text.specs.Runs.{refusal_of}
use Rattle.run_text.specs.Trace.{trace_in, trace_text}
use Rattle.run_text.specs.declared.fault.RefusedPick.TheVariants.{PastList}
use Rattle.text_io.specs.declared.format.Format.TheVariants.{Lines, Csv, Jsonl}

-- no word, and two
no_words : separated_by (codes " ") [] ≡ []
no_words = refl

two_words : separated_by (codes " ") (codes "p" ∷ codes "q" ∷ []) ≡ codes "p q"
two_words = refl

abbrev place : List ℕ → Place
place name = record { name = name; marked = true }

abbrev variable : List ℕ → Variable
variable name = record { name = name; first = pos 0 }

-- an atom with three places, two variables, two ports, and transition 1 of port 1 from place 0 to place 1
wide : AtomDefinition
wide = record {
  name = codes "W";
  places = place (codes "p") ∷ place (codes "q") ∷ place (codes "r") ∷ [];
  variables = variable (codes "n") ∷ variable (codes "m") ∷ [];
  ports = record { name = codes "a"; exports = [] } ∷ record { name = codes "b"; exports = [] } ∷ [];
  transitions = record { port = 0; sources = 0 ∷ []; targets = 0 ∷ []; guard = number (pos 1); updates = [] } ∷ record { port = 1; sources = 0 ∷ []; targets = 1 ∷ []; guard = number (pos 1); updates = [] } ∷ [];
}

-- its states: the places are given by the marking, whatever is marked at first
marked_at_the_ends : state_line wide (record { marking = 5; values = pos 10 ∷ negsuc 1 ∷ [] }) ≡ codes "state W [p r] n=10 m=-2"
unfolding wide digits
marked_at_the_ends = refl

nothing_marked : state_line wide (record { marking = 0; values = pos 0 ∷ negsuc (2 ^ 63 - 1) ∷ [] }) ≡ codes "state W [] n=0 m=-9223372036854775808"
unfolding wide digits
nothing_marked = refl

-- a participant by the port of its transition; one that is not there is not printed
told_by_its_port : participant (wide ∷ []) (record { atom = 0; transition = 1 }) ≡ codes "W.b/1"
unfolding wide digits
told_by_its_port = refl

not_there : participant (wide ∷ []) (record { atom = 1; transition = 0 }) ≡ []
unfolding wide digits
not_there = refl

-- a plant with a connector of this atom
abbrev plant_by : connectors.Tree → PlantDefinition
plant_by connector = record { atoms = wide ∷ []; wires = record { name = codes "go"; connector = connector; guards = []; transfers = []; inputs = [] } ∷ []; rules = [] }

fired_of_a_wire : (connector : connectors.Tree) → fired_line (plant_by connector) 12 (record { connector = 0; mask = 1; moves = record { atom = 0; transition = 1 } ∷ [] }) ≡ codes "12 go W.b/1"
unfolding wide digits
fired_of_a_wire connector = refl

-- where no connector is there, each run is stuck at once, and one without picks tells the states alone
abbrev alone : PlantDefinition
alone = record { atoms = wide ∷ []; wires = []; rules = [] }

stuck_at_once : trace_text alone (3 ∷ 0 ∷ []) ≡ codes "stuck\nstate W [p q r] n=0 m=0\n"
unfolding wide digits set_below
stuck_at_once = refl

no_picks : trace_text alone [] ≡ codes "state W [p q r] n=0 m=0\n"
unfolding wide digits set_below
no_picks = refl

-- the same as rows and as objects, with what stands before the run
rows_stuck_at_once : trace_in Csv alone (counted_picks (3 ∷ 0 ∷ [])) ≡ codes "kind,number,name,parts,values\nstuck,,,,\nstate,,W,p q r,n=0 m=0\n"
unfolding wide digits set_below
rows_stuck_at_once = refl

objects_stuck_at_once : trace_in Jsonl alone (counted_picks (3 ∷ 0 ∷ [])) ≡ codes "{\"kind\":\"stuck\"}\n{\"kind\":\"state\",\"atom\":\"W\",\"places\":[\"p\",\"q\",\"r\"],\"variables\":{\"n\":0,\"m\":0}}\n"
unfolding wide digits set_below
objects_stuck_at_once = refl

-- a stuck run is not refused; but any number that is taken as it is, is past an empty list, and nothing is printed
stuck_and_not_refused : refusal_of alone (counted_picks (3 ∷ 0 ∷ [])) ≡ None
unfolding wide set_below
stuck_and_not_refused = refl

past_an_empty_list : (refusal_of alone (numbered_picks (0 ∷ [])) ≡ Some (record { place = 1; why = PastList 0 0 })) × (trace_in Lines alone (numbered_picks (0 ∷ [])) ≡ [])
unfolding wide set_below
past_an_empty_list = (refl, refl)

-- a number past lists of none, of one and of five choices
past_none : refused_message (PastList 7 0) ≡ codes "pick 7, but there is no choice"
unfolding digits
past_none = refl

past_one : refused_message (PastList 7 1) ≡ codes "pick 7, but there is 1 choice (0)"
unfolding digits
past_one = refl

past_five : refused_message (PastList 7 5) ≡ codes "pick 7, but there are 5 choices (0 to 4)"
unfolding digits
past_five = refl

-- its states in a row and in an object
ends_in_a_row : state_row wide (record { marking = 5; values = pos 10 ∷ negsuc 1 ∷ [] }) ≡ codes "state,,W,p r,n=10 m=-2"
unfolding wide digits
ends_in_a_row = refl

nothing_in_an_object : state_object (record { name = codes "E"; places = place (codes "p") ∷ []; variables = []; ports = []; transitions = [] }) (record { marking = 0; values = [] }) ≡ codes "{\"kind\":\"state\",\"atom\":\"E\",\"places\":[],\"variables\":{}}"
nothing_in_an_object = refl

-- an atom whose port exports its two variables the other way round, with 7 delivered to the first exported one alone, and with 7 and -8
turned : AtomDefinition
turned = record {
  name = codes "T";
  places = [];
  variables = variable (codes "n") ∷ variable (codes "m") ∷ [];
  ports = record { name = codes "a"; exports = 1 ∷ 0 ∷ [] } ∷ [];
  transitions = record { port = 0; sources = []; targets = []; guard = number (pos 1); updates = [] } ∷ [];
}

one_delivered : delivered_words Csv turned 0 (Some (pos 7) ∷ None ∷ None ∷ None ∷ []) ≡ codes "T.m=7" ∷ []
unfolding turned digits set_below
one_delivered = refl

two_delivered : atom_object turned 0 (Some (pos 7) ∷ Some (negsuc 7) ∷ None ∷ None ∷ []) ≡ codes "{\"atom\":\"T\",\"port\":\"a\",\"transition\":0,\"delivered\":{\"m\":7,\"n\":-8}}"
unfolding turned digits set_below
two_delivered = refl
