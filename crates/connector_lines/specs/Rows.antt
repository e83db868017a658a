-- What each line says of a connector, or the fault of its first word that is at fault. The words are those after
-- the line's first one. Where the connector has as many parts of the line's kind as it may, the line's first word
-- is at fault, before all others.
use Rattle.std.specs.Prelude.{ℕ, Bool, not, List, [], ◌∷◌, ◌++◌, length, drop, map, nat_lt, Option, Result, Ok, codes}
use Rattle.std.specs.List.{list_any}
use Rattle.std.specs.Option.{ok_or}
use Rattle.petri_atom.specs.Definition.{is_each_once}
use Rattle.petri_atom.specs.Expression.{Tree}
use Rattle.connector_tree.specs.Tree.{leaves}
use Rattle.connector_tree.specs.declared.tree.Port.{Port}
use Rattle.plant_model.specs.Plant.{TransferDefinition, WireDefinition}
use Rattle.plant_model.specs.Rules.{is_same_export}
use Rattle.plant_model.specs.declared.limits.TheConstants.{MAX_GUARDS, MAX_TRANSFERS}
use Rattle.plant_model.specs.declared.wire.Export.{Export}
use Rattle.plant_words.specs.Expressions.{expression_in}
use Rattle.plant_words.specs.declared.line_fault.LineFault.{LineFault}
use Rattle.plant_words.specs.declared.line_fault.LineFault.TheVariants.{Twice, UnknownName, Limit}
use Rattle.plant_words.specs.Reading.{◌>>=◌, check, first_word, first_keyword, at_end, on_line}
use Rattle.connector_lines.specs.Exports.{variable_in}

-- which exported variable a word names
abbrev pub Named : Type 0
Named = List ℕ → Option Export

-- the expression that the words are, with no word after it
abbrev pub whole_expression : Named → List (List ℕ) → Result (Tree Export) LineFault
whole_expression named words = do
  read ← on_line (expression_in named words)
  _ ← at_end read.1
  Ok read.0

-- one of the transfers has the target
abbrev pub has_target : List TransferDefinition → Export → Bool
has_target transfers target = list_any (λ t. is_same_export t.target target) transfers

-- no two transfers have the same target
abbrev pub has_targets_once : List TransferDefinition → Bool
has_targets_once transfers = is_each_once is_same_export (map (λ t. t.target) transfers)

-- the variable that the first word names, which must be no target yet
abbrev pub target_in : Named → List TransferDefinition → List (List ℕ) → Result Export LineFault
target_in named before words = do
  word ← first_word words
  target ← ok_or (named word) UnknownName
  _ ← check (not (has_target before target)) Twice
  Ok target

-- `ATOM.VAR := EXPR`: a transfer after these, to a variable that is no target yet
abbrev pub transfer_in : Named → List TransferDefinition → List (List ℕ) → Result TransferDefinition LineFault
transfer_in named before words = do
  target ← target_in named before words
  _ ← first_keyword (codes ":=") (drop 1 words)
  value ← whole_expression named (drop 1 (drop 1 words))
  Ok (record { target = target; value = value })

-- the guard clauses of a connector, and after them the one that the words are
abbrev pub guards_with : Named → List (List ℕ) → List (Tree Export) → Result (List (Tree Export)) LineFault
guards_with named words guards = do
  _ ← check (nat_lt (length guards) MAX_GUARDS) Limit
  guard ← whole_expression named words
  Ok (guards ++ guard ∷ [])

-- the transfers of a connector, and after them the one that the words are
abbrev pub transfers_with : Named → List (List ℕ) → List TransferDefinition → Result (List TransferDefinition) LineFault
transfers_with named words transfers = do
  _ ← check (nat_lt (length transfers) MAX_TRANSFERS) Limit
  transfer ← transfer_in named transfers words
  Ok (transfers ++ transfer ∷ [])

-- which exported variable of the connector's leaves a word names
abbrev pub named_on : (List ℕ → Option ℕ) → (Port → List ℕ → Option ℕ) → WireDefinition → Named
named_on atom_named export_named w = variable_in atom_named export_named (leaves w.connector)

-- the connector with the guard clause that the words are, by what they name
abbrev pub guard_added : Named → List (List ℕ) → WireDefinition → Result WireDefinition LineFault
guard_added named words w = do
  guards ← guards_with named words w.guards
  Ok (record w { guards = guards })

-- the connector with the transfer that the words are, by what they name
abbrev pub transfer_added : Named → List (List ℕ) → WireDefinition → Result WireDefinition LineFault
transfer_added named words w = do
  transfers ← transfers_with named words w.transfers
  Ok (record w { transfers = transfers })

-- `guard EXPR`: a guard clause over exported variables of the connector's leaves
abbrev pub guard_row : (List ℕ → Option ℕ) → (Port → List ℕ → Option ℕ) → List (List ℕ) → WireDefinition → Result WireDefinition LineFault
guard_row atom_named export_named words w = guard_added (named_on atom_named export_named w) words w

-- `move ATOM.VAR := EXPR`: a transfer over exported variables of the connector's leaves
abbrev pub transfer_row : (List ℕ → Option ℕ) → (Port → List ℕ → Option ℕ) → List (List ℕ) → WireDefinition → Result WireDefinition LineFault
transfer_row atom_named export_named words w = transfer_added (named_on atom_named export_named w) words w
