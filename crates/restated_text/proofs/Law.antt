-- A restated text means the plant in its states.
use Rattle.std.proofs.Common.{◌≡◌, ◌∙◌, refl, sym, ap, subst, ℕ, ◌≤◌, ◌<◌, Bool, true, false, if◌then◌else◌, ◌==◌, List, [], ◌∷◌, length, Option, Some, None, Result, Ok, Err}
use Rattle.std.specs.Prelude.{nat_lt}
use Rattle.std.specs.List.{list_all, slice_split}
use Rattle.std.specs.Option.{option_map_or}
use Rattle.std.proofs.lemmas.Bool.{le-ltb}
use Rattle.petri_atom.specs.Local.{Local}
use Rattle.priority_filter.specs.Decided.{order_fault}
use Rattle.priority_filter.specs.declared.fault.OrderFault.{OrderFault}
use Rattle.text_io.specs.declared.reading.TheConstants.{MAX_TEXT}
use Rattle.plant_words.specs.Lines.{is_legal_line, lines_of}
use Rattle.plant_words.specs.Reading.{◌>>=◌}
use Rattle.plant_words.proofs.Steps.{led_on, same_end, either_way}
use Rattle.plant_text.specs.Fault.{of_no_line}
use Rattle.plant_text.specs.Interactions.{interactions_of}
use Rattle.plant_text.specs.Meaning.{lines_row, with_an_atom, with_an_order, nothing, written_in, meaning}
use Rattle.plant_text.specs.Text.{PlantText}
use Rattle.plant_text.specs.declared.fault.Fault.{Fault}
use Rattle.plant_text.specs.declared.fault.Fault.TheVariants.{TooLong, NoAtom, Order}
use Rattle.plant_text.specs.declared.fault.PlantFault.{PlantFault}
use Rattle.restated_text.specs.Counts.{no_parts}
use Rattle.restated_text.specs.Plants.{atom_with, each_numbered, with_first_states, has_ranged_values}
use Rattle.restated_text.specs.Text.{is_line_feed, restated_text}
use Rattle.restated_text.proofs.LineSteps.{lines_in_states}
use Rattle.restated_text.proofs.Numbered.{length_numbered}
use Rattle.restated_text.proofs.PartSteps.{go_on}
use Rattle.restated_text.proofs.TextLines.{restated_lines, lines_restated}

-- a plant that has an atom has one in its states
atom_stays : (states : List Local) (plant next : PlantText) → with_an_atom plant ≡ Ok next → with_an_atom (with_first_states states plant) ≡ Ok (with_first_states states next)
atom_stays states plant next told =
    ap (λ (n : ℕ). by (nat_lt 0 n) (with_first_states states plant)) (length_numbered (atom_with states) 0 plant.atoms) ∙ each (nat_lt 0 (length plant.atoms)) told
  where
    by : Bool → PlantText → Result PlantText PlantFault
    by some p = if some then Ok p else Err (of_no_line NoAtom)

    each : (some : Bool) → by some plant ≡ Ok next → by some (with_first_states states plant) ≡ Ok (with_first_states states next)
    each true told = ap (λ (p : PlantText). Ok (with_first_states states p)) (same_end plant next told)
    each false told = absurd (cc)

-- its rules put the same order on its interactions
order_stays : (states : List Local) (plant next : PlantText) → with_an_order plant ≡ Ok next → with_an_order (with_first_states states plant) ≡ Ok (with_first_states states next)
order_stays states plant next = each (order_fault plant.rules (interactions_of plant.wires))
  where
    each : (o : Option OrderFault) → option_map_or (λ fault. Err (of_no_line (Order fault))) o (Ok plant) ≡ Ok next →
        option_map_or (λ fault. Err (of_no_line (Order fault))) o (Ok (with_first_states states plant)) ≡ Ok (with_first_states states next)
    each None told = ap (λ (p : PlantText). Ok (with_first_states states p)) (same_end plant next told)
    each (Some fault) told = absurd (cc)

pub text_in_states : (states : List Local) (text : List ℕ) (plant : PlantText) → list_all has_ranged_values states ≡ true → list_all is_legal_line (lines_of text) ≡ true →
    length (restated_text states text) ≤ MAX_TEXT → meaning text ≡ Ok plant → meaning (restated_text states text) ≡ Ok (with_first_states states plant)
text_in_states states text plant fit legal short told =
    let written = led_on (written_in text) with_an_order plant told in
    let all : (lines_row 1 (lines_of text) nothing >>= with_an_atom) ≡ Ok written.0 =
    either_way (nat_lt MAX_TEXT (length text)) (Err (of_no_line TooLong)) (lines_row 1 (lines_of text) nothing >>= with_an_atom) written.0 ((lines_row 1 (lines_of text) nothing >>= with_an_atom) ≡ Ok written.0)
    (λ long. absurd (cc)) (λ lines. lines) written.1 in
    let lines = led_on (lines_row 1 (lines_of text) nothing) with_an_atom written.0 all in
    let restated : List ℕ = restated_text states text in
    let are : lines_of restated ≡ restated_lines states no_parts (lines_of text) = lines_restated states fit (slice_split is_line_feed text) no_parts legal in
    let rows : lines_row 1 (lines_of restated) nothing ≡ Ok (with_first_states states lines.0) =
    ap (λ (ls : List (List ℕ)). lines_row 1 ls nothing) are ∙ lines_in_states states fit 1 (lines_of text) nothing lines.0 lines.1 in
    let whole : written_in restated ≡ Ok (with_first_states states written.0) =
    ap (λ (long : Bool). if long then Err (of_no_line TooLong) else (lines_row 1 (lines_of restated) nothing >>= with_an_atom)) (le-ltb MAX_TEXT (length restated) short) ∙
    go_on (lines_row 1 (lines_of restated) nothing) with_an_atom (with_first_states states lines.0) (with_first_states states written.0) rows (atom_stays states lines.0 written.0 lines.2) in
    go_on (written_in restated) with_an_order (with_first_states states written.0) (with_first_states states plant) whole (order_stays states written.0 plant written.2)
