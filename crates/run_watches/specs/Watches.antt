-- What a run is watched for: what its words say, and when it holds.
use Rattle.std.specs.Prelude.{ℕ, Bool, ◌==◌, if◌then◌else◌, List, [], ◌∷◌, codes, drop, length, Option, Result, Ok, Err, position}
use Rattle.petri_atom.specs.Expression.{Tree, is_true, tree_of, value_of}
use Rattle.petri_atom.specs.Local.{Local}
use Rattle.plant_model.specs.Choice.{choices}
use Rattle.plant_model.specs.Plant.{PlantDefinition}
use Rattle.plant_words.specs.Expressions.{expression_in}
use Rattle.plant_words.specs.Reading.{leads}
use Rattle.plant_words.specs.Words.{words_of}
use Rattle.plant_words.specs.declared.expression_fault.ExpressionFault.{ExpressionFault}
use Rattle.run_watches.specs.Joined.{joined_text}
use Rattle.run_watches.specs.Operands.{operand_named, operand_value}
use Rattle.run_watches.specs.declared.fault.WatchFault.{WatchFault}
use Rattle.run_watches.specs.declared.fault.WatchFault.TheVariants.{Expression, MoreWords}
use Rattle.run_watches.specs.declared.operand.Operand.{Operand}
use Rattle.run_watches.specs.declared.watch.Watch.{Watch}
use Rattle.run_watches.specs.declared.watch.Watch.TheVariants.{Stuck, Holds}

-- that there is no choice, or that an expression has another value than 0
pub data WatchTree : Type 0 where
  stuck : WatchTree
  holds : Tree Operand → WatchTree

-- the watch that a value of the program is
abbrev pub watch_of : Watch → WatchTree
watch_of Stuck = stuck
watch_of (Holds expression) = holds (tree_of expression)

-- it holds in a state of a plant
abbrev pub holds_in : PlantDefinition → List Local → WatchTree → Bool
holds_in plant states stuck = length (choices plant states) == 0
holds_in plant states (holds expression) = is_true (value_of (operand_value states) expression)

-- the place of the first of several that holds
abbrev pub first_of : List Watch → PlantDefinition → List Local → Option ℕ
first_of watches plant states = position (λ watch. holds_in plant states (watch_of watch)) watches

-- this watch, if no word is left
abbrev pub if_ended : WatchTree → List (List ℕ) → Result WatchTree WatchFault
if_ended watch [] = Ok watch
if_ended watch (word ∷ words) = Err MoreWords

-- the expression that was read, if no word is left, or its fault
abbrev pub of_expression : Result (Tree Operand × List (List ℕ)) ExpressionFault → Result WatchTree WatchFault
of_expression (Ok read) = if_ended (holds read.0) read.1
of_expression (Err fault) = Err (Expression fault)

-- the watch that words are: `stuck` alone, or an expression
abbrev pub watch_of_words : PlantDefinition → List (List ℕ) → Result WatchTree WatchFault
watch_of_words plant words =
    if leads (codes "stuck") words then if_ended stuck (drop 1 words) else of_expression (expression_in (operand_named plant) words)

-- The watch that a text is, in which `at ATOM PLACE` is one operand.
abbrev pub watch_in : PlantDefinition → List ℕ → Result WatchTree WatchFault
watch_in plant text = watch_of_words plant (words_of (joined_text (words_of text)))
