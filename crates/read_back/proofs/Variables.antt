-- Expressions over the variables of an atom.
use Rattle.std.proofs.Common.{◌≡◌, ◌∙◌, refl, sym, ap, ℕ, true, ◌&&◌, List, [], ◌∷◌, ◌++◌, append-nil, append_assoc, length, codes, Option, Some, Ok, slice_get, nat_lt, ltb-true, leb-true}
use Rattle.std.specs.Option.{option_map_or}
use Rattle.std.proofs.lemmas.Bool.{and_parts}
use Rattle.petri_atom.specs.Definition.{AtomDefinition, variable_name}
use Rattle.petri_atom.specs.Expression.{Tree, number, variable, negation, operation, word_count, all_variables, has_variables_below}
use Rattle.petri_atom.specs.declared.parts.TheConstants.{MAX_WORDS}
use Rattle.petri_atom.specs.declared.parts.Variable.{Variable}
use Rattle.plant_words.specs.ExpressionWords.{variable_found, word_in}
use Rattle.plant_words.specs.Expressions.{expression_in}
use Rattle.plant_words.specs.Words.{words_of}
use Rattle.atom_lines.specs.Lookup.{variable_number}
use Rattle.part_text.specs.Expression.{expression_text}
use Rattle.read_back.specs.Expressions.{is_over_atom}
use Rattle.read_back.specs.Names.{are_named}
use Rattle.read_back.specs.ReadBack.{IsFoundInAtom, IsReadInAtom}
use Rattle.read_back.proofs.Words.{is_one_word, IsBehind, nothing_after, space_after}
use Rattle.read_back.proofs.Bytes.{name_is_one_word}
use Rattle.read_back.proofs.ExpressionWords.{variable_reads}
use Rattle.read_back.proofs.Expressions.{text_read}
use Rattle.read_back.proofs.Found.{there_at, named_at, found_by_name}
use Rattle.read_back.proofs.Dotted.{plain_name}

-- variables below a bound are those of which each passes the test of it
below_all : (bound : ℕ) (e : Tree ℕ) → has_variables_below bound e ≡ all_variables (λ v. nat_lt v bound) e
below_all bound (number n) = refl
below_all bound (variable v) = refl
below_all bound (negation e) = below_all bound e
below_all bound (operation op e f) = λ i. below_all bound e i && below_all bound f i

module _ (a : AtomDefinition) (named : are_named (λ v. v.name) a.variables ≡ true) where
  abbrev name_of : Variable → List ℕ
  name_of v = v.name

  name_is : (v : ℕ) (x : Variable) → slice_get a.variables v ≡ Some x → variable_name a v ≡ x.name
  name_is v x there = ap (λ (o : Option Variable). option_map_or name_of o []) there

  -- a variable of the atom is read by its name
  variable_read : (v : ℕ) → nat_lt v (length a.variables) ≡ true → word_in (variable_number a) (variable_name a v) ≡ variable_found true (Some v)
  variable_read v known =
      let found = there_at a.variables v (ltb-true v (length a.variables) known) in
      ap (word_in (variable_number a)) (name_is v found.0 found.1)
      ∙ variable_reads (variable_number a) found.0.name v (plain_name found.0.name (named_at name_of a.variables named v found.0 found.1)) (found_by_name name_of a.variables named v found.0 found.1)

  pub found : (v : ℕ) → nat_lt v (length a.variables) ≡ true → IsFoundInAtom a v
  found v known =
      let there = there_at a.variables v (ltb-true v (length a.variables) known) in
      ap (variable_number a) (name_is v there.0 there.1) ∙ found_by_name name_of a.variables named v there.0 there.1

  -- which is one word
  variable_is_one_word : (v : ℕ) → nat_lt v (length a.variables) ≡ true → is_one_word (variable_name a v) ≡ true
  variable_is_one_word v known =
      let found = there_at a.variables v (ltb-true v (length a.variables) known) in
      ap is_one_word (name_is v found.0 found.1) ∙ name_is_one_word found.0.name (named_at name_of a.variables named v found.0 found.1)

  -- an expression over the variables is read back, and the words after it are left
  expression_read : (e : Tree ℕ) → is_over_atom a e ≡ true → (text : List ℕ) (words : List (List ℕ)) → IsBehind text words →
      expression_in (variable_number a) (words_of (expression_text (variable_name a) e ++ text)) ≡ Ok (e, words)
  expression_read e held text words behind =
      let over = and_parts _ _ held in
      let limits = and_parts _ _ over.1 in
      text_read (variable_name a) (variable_number a) (λ v. nat_lt v (length a.variables)) variable_read variable_is_one_word e
      (leb-true (word_count e) MAX_WORDS limits.0) limits.1 (sym (below_all (length a.variables) e) ∙ over.0) text words behind

  pub read_alone : (e : Tree ℕ) → is_over_atom a e ≡ true → IsReadInAtom a e
  read_alone e held =
      ap (λ text. expression_in (variable_number a) (words_of text)) (sym (append-nil (expression_text (variable_name a) e)))
      ∙ expression_read e held [] [] nothing_after

  pub read_before : (e : Tree ℕ) (behind : List ℕ) → is_over_atom a e ≡ true →
      expression_in (variable_number a) (words_of (expression_text (variable_name a) e ++ codes " " ++ behind)) ≡ Ok (e, words_of behind)
  read_before e behind held =
      ap (λ text. expression_in (variable_number a) (words_of text)) (append_assoc (expression_text (variable_name a) e) (codes " ") behind)
      ∙ expression_read e held (32 ∷ behind) (words_of behind) (space_after behind)
