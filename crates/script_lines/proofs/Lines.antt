-- The lines of a script, read one by one.
use Rattle.std.proofs.Common.{◌≡◌, ◌∙◌, ap, sym, refl, ℕ, ◌+◌, ◌≤◌, cond, List, [], ◌∷◌, ◌++◌, length, append_assoc, Option, Result, Ok, Err}
use Rattle.std.specs.Prelude.{flat_map, if◌then◌else◌, IfOk, IsOkAnd}
use Rattle.std.specs.List.{position_from}
use Rattle.std.specs.Option.{option_map_or}
use Rattle.std.proofs.lemmas.Bool.{le-ltb}
use Rattle.plant_words.specs.Lines.{lines_of}
use Rattle.plant_model.specs.Plant.{PlantDefinition}
use Rattle.text_io.specs.declared.reading.TheConstants.{MAX_TEXT}
use Rattle.plant_core.specs.declared.events.Event.{Event}
use Rattle.script_lines.specs.Script.{asked_by_line, events_of, is_refused, is_mistaken, line_in, script_meaning}
use Rattle.script_lines.specs.declared.line.ScriptLine.{ScriptLine}
use Rattle.script_lines.specs.declared.line.ScriptLine.TheVariants.{Nothing, Asks, Mistaken}

-- what lines mean after events that were read, where the first of the lines has this number
abbrev pub meant_behind : PlantDefinition → ℕ → List Event → List (List ℕ) → Result (List Event) ℕ
meant_behind plant number before lines = option_map_or Err (position_from (is_refused plant) number lines) (Ok (before ++ flat_map (events_of plant) lines))

-- all lines of a script that is not too long are left at first
pub all_left : (plant : PlantDefinition) (text : List ℕ) → length text ≤ MAX_TEXT → meant_behind plant 1 [] (lines_of text) ≡ script_meaning plant text
all_left plant text short =
    sym (ap (λ long. if long then Err 0 else meant_behind plant 1 [] (lines_of text)) (le-ltb MAX_TEXT (length text) short))

-- the first line that is left says something, and the others are left
first_said : (number : ℕ) (before more : List Event) (refused : Option ℕ) (said : ScriptLine)
    → option_map_or Err (cond (is_mistaken said) (Option.Some number) refused) (Ok (before ++ (asked_by_line said ++ more)))
    ≡ cond (is_mistaken said) (Err number) (option_map_or Err refused (Ok ((before ++ asked_by_line said) ++ more)))
first_said number before more refused Nothing = ap (λ events. option_map_or Err refused (Ok events)) (sym (append_assoc before [] more))
first_said number before more refused (Asks event) = ap (λ events. option_map_or Err refused (Ok events)) (sym (append_assoc before (event ∷ []) more))
first_said number before more refused (Mistaken mistake) = refl

pub line_left : (plant : PlantDefinition) (number : ℕ) (before : List Event) (lines rest : List (List ℕ)) (line : List ℕ) (said : ScriptLine)
    → lines ≡ line ∷ rest → said ≡ line_in plant line
    → meant_behind plant number before lines ≡ cond (is_mistaken said) (Err number) (meant_behind plant (number + 1) (before ++ asked_by_line said) rest)
line_left plant number before lines rest line said taken is =
    ap (meant_behind plant number before) taken ∙
    first_said number before (flat_map (events_of plant) rest) (position_from (is_refused plant) (number + 1) rest) (line_in plant line) ∙
    ap (λ s. cond (is_mistaken s) (Err number) (meant_behind plant (number + 1) (before ++ asked_by_line s) rest)) (sym is)

-- the events with one more, where there was memory for them
pub kept_more : {X E : Type 0} (items : X → List Event) (events more : Result X E) (before : List Event) (event : Event)
    → IfOk events (λ x. items x ≡ before) → IfOk more (λ y. IsOkAnd events (λ x. items y ≡ items x ++ event ∷ []))
    → IfOk more (λ y. items y ≡ before ++ event ∷ [])
kept_more items events (Err e) before event kept pushed = tt
kept_more items (Err e) (Ok y) before event kept pushed = absurd pushed
kept_more items (Ok x) (Ok y) before event kept pushed = pushed ∙ ap (λ es. es ++ event ∷ []) kept
