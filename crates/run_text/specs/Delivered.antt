-- The values that a firing delivers, as words.
use Rattle.std.specs.Prelude.{ℕ, ℤ, List, [], ◌∷◌, ◌++◌, slice_get, codes, Option}
use Rattle.std.specs.Option.{option_map_or}
use Rattle.petri_atom.specs.Local.{delivered_value}
use Rattle.petri_atom.specs.Definition.{AtomDefinition, exports_of, variable_name}
use Rattle.petri_atom.specs.Local.{Row}
use Rattle.text_io.specs.Numbered.{numbered}
use Rattle.text_io.specs.declared.format.Format.{Format}
use Rattle.text_io.specs.declared.format.Format.TheVariants.{Lines, Csv, Jsonl}
use Rattle.run_text.specs.Word.{assigned_text}

-- the variables that the port of a transition exports
abbrev pub exports_by : AtomDefinition → ℕ → List ℕ
exports_by a transition = option_map_or (λ t. exports_of a t.port) (slice_get a.transitions transition) []

-- what stands before the variable: in JSON nothing, and else its atom's name
abbrev pub owner_text : Format → List ℕ → List ℕ
owner_text Lines name = name ++ codes "."
owner_text Csv name = name ++ codes "."
owner_text Jsonl name = []

-- a value that a variable of an atom gets
abbrev pub export_text : Format → AtomDefinition → ℕ → ℤ → List ℕ
export_text format a variable value = owner_text format a.name ++ assigned_text format (variable_name a variable) value

-- the word of a variable that gets this value, if any
abbrev pub export_words : Format → AtomDefinition → ℕ → Option ℤ → List (List ℕ)
export_words format a variable value = option_map_or (λ v. export_text format a variable v ∷ []) value []

-- the word of the variable that is export k of a port, if a value is delivered to it
abbrev pub delivered_word : Format → AtomDefinition → Row → ℕ → ℕ → List (List ℕ)
delivered_word format a d k variable = export_words format a variable (delivered_value d k)

-- the words of what is delivered to an atom that fires a transition, in the order of what its port exports
abbrev pub delivered_words : Format → AtomDefinition → ℕ → Row → List (List ℕ)
delivered_words format a transition d = numbered (delivered_word format a d) 0 (exports_by a transition)
