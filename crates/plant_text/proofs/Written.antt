-- What the lines of a text write, where it is not too long.
use Rattle.std.proofs.Common.{◌≡◌, ◌∙◌, ap, ℕ, ◌<◌, ◌≤◌, List, length, Ok, Err}
use Rattle.std.specs.Prelude.{if◌then◌else◌}
use Rattle.std.proofs.lemmas.Bool.{le-ltb, lt-ltb}
use Rattle.plant_words.specs.Lines.{lines_of}
use Rattle.text_io.specs.declared.reading.TheConstants.{MAX_TEXT}
use Rattle.plant_text.specs.Fault.{of_no_line}
use Rattle.plant_text.specs.Meaning.{lines_row, nothing, with_an_atom, written_in}
use Rattle.plant_words.specs.Reading.{◌>>=◌}
use Rattle.plant_text.specs.Text.{PlantText}
use Rattle.plant_text.specs.declared.fault.Fault.TheVariants.{NoAtom, TooLong}

-- the plant that the lines write
module _ (text : List ℕ) (plant : PlantText) (short : length text ≤ MAX_TEXT) (says : lines_row 1 (lines_of text) nothing ≡ Ok plant) where
  by_lines : written_in text ≡ with_an_atom plant
  by_lines =
      ap (λ long. if long then Err (of_no_line TooLong) else (lines_row 1 (lines_of text) nothing >>= with_an_atom)) (le-ltb MAX_TEXT (length text) short)
      ∙ ap (λ read. read >>= with_an_atom) says

  -- with an atom it is what the text writes
  pub written_with_an_atom : 0 < length plant.atoms → written_in text ≡ Ok plant
  written_with_an_atom some = by_lines ∙ ap (λ there. if there then Ok plant else Err (of_no_line NoAtom)) (lt-ltb 0 (length plant.atoms) some)

  -- and with none the text is at fault
  pub written_without_an_atom : length plant.atoms ≤ 0 → written_in text ≡ Err (of_no_line NoAtom)
  written_without_an_atom none = by_lines ∙ ap (λ there. if there then Ok plant else Err (of_no_line NoAtom)) (le-ltb 0 (length plant.atoms) none)
