-- What the steps of reading an update gave.
use Rattle.std.proofs.Common.{◌≡◌, codes, List, ℕ, drop, Result, Ok}
use Rattle.std.specs.Option.{ok_or}
use Rattle.petri_atom.specs.Expression.{Tree}
use Rattle.petri_atom.specs.Definition.{AtomDefinition, UpdateDefinition}
use Rattle.plant_words.specs.declared.line_fault.LineFault.{LineFault}
use Rattle.plant_words.specs.declared.line_fault.LineFault.TheVariants.{UnknownName}
use Rattle.plant_words.specs.Reading.{◌>>=◌, first_word, first_keyword}
use Rattle.plant_words.proofs.Steps.{led_on, same_end}
use Rattle.atom_lines.specs.Lookup.{variable_number}
use Rattle.atom_lines.specs.Transitions.{expression_on, update_in}

-- the word and the variable that it names, the sign, and the value with the words after it, which are the update
pub record UpdateRead (a : AtomDefinition) (words : List (List ℕ)) (read : UpdateDefinition × List (List ℕ)) : Type 0 where
  pub word : List ℕ
  pub worded : first_word words ≡ Ok word
  pub variable : ℕ
  pub named : ok_or (variable_number a word) UnknownName ≡ Ok variable
  pub assigns : Unit {0}
  pub assigned : first_keyword (codes ":=") (drop 1 words) ≡ Ok assigns
  pub value : Tree ℕ × List (List ℕ)
  pub valued : expression_on a (drop 1 (drop 1 words)) ≡ Ok value
  pub is : ◌≡◌ {A = UpdateDefinition × List (List ℕ)} (record { variable = variable; value = value.0 }, value.1) read

pub update_read : (a : AtomDefinition) (words : List (List ℕ)) (read : UpdateDefinition × List (List ℕ)) → update_in a words ≡ Ok read → UpdateRead a words read
update_read a words read told =
    let made : ℕ → Tree ℕ × List (List ℕ) → Result (UpdateDefinition × List (List ℕ)) LineFault = λ v e. Ok (record { variable = v; value = e.0 }, e.1) in
    let valued : ℕ → Result (UpdateDefinition × List (List ℕ)) LineFault = λ v. first_keyword (codes ":=") (drop 1 words) >>= (λ _. expression_on a (drop 1 (drop 1 words)) >>= made v) in
    let word = led_on (first_word words) (λ w. ok_or (variable_number a w) UnknownName >>= valued) read told in
    let variable = led_on (ok_or (variable_number a word.0) UnknownName) valued read word.2 in
    let assigns = led_on (first_keyword (codes ":=") (drop 1 words)) (λ _. expression_on a (drop 1 (drop 1 words)) >>= made variable.0) read variable.2 in
    let value = led_on (expression_on a (drop 1 (drop 1 words))) (made variable.0) read assigns.2 in
    record {
      word = word.0;
      worded = word.1;
      variable = variable.0;
      named = variable.1;
      assigns = assigns.0;
      assigned = assigns.1;
      value = value.0;
      valued = value.1;
      is = same_end _ _ value.2;
    }
