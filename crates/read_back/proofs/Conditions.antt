-- The condition of a rule, and the words that it is, read.
use Rattle.std.proofs.Common.{◌≡◌, ◌∙◌, refl, sym, ap, ℕ, Bool, true, false, if◌then◌else◌, List, [], ◌∷◌, ◌++◌, append_assoc, length, codes, Option, Some, Ok, Err, Result, slice_get, nat_lt, ltb-true}
use Rattle.std.specs.Option.{ok_or, option_and_then, option_map_or}
use Rattle.petri_atom.specs.Definition.{AtomDefinition}
use Rattle.petri_atom.specs.declared.parts.Place.{Place}
use Rattle.priority_filter.specs.declared.seen.At.{At}
use Rattle.plant_model.specs.Plant.{PlantDefinition}
use Rattle.plant_model.specs.Rules.{is_known_place}
use Rattle.plant_words.specs.Lines.{is_legal_line}
use Rattle.plant_words.specs.Reading.{◌>>=◌, first_word, first_keyword, at_end}
use Rattle.plant_words.specs.Words.{words_of}
use Rattle.plant_words.specs.declared.line_fault.LineFault.{LineFault}
use Rattle.plant_words.specs.declared.line_fault.LineFault.TheVariants as line
use Rattle.plant_words.proofs.Exits.{passes}
use Rattle.atom_lines.specs.Lookup.{place_number}
use Rattle.connector_lines.specs.Conditions.{condition_in, condition_after}
use Rattle.plant_text.specs.Names.{atom_number, place_named}
use Rattle.part_text.specs.Rule.{atom_name, place_name, name_of_place, condition_text}
use Rattle.read_back.specs.Names.{are_named}
use Rattle.read_back.proofs.Bytes.{name_is_one_word, name_is_legal}
use Rattle.read_back.proofs.Found.{there_at, passing, named_at, found_by_name}
use Rattle.read_back.proofs.Words.{IsBehind, is_one_word, word_alone, word_before}

-- the first word, where it may stand in a text
pub first_legal : (word : List ℕ) (rest : List (List ℕ)) → is_legal_line word ≡ true → first_word (word ∷ rest) ≡ Ok word
first_legal word rest legal = ap (λ (b : Bool). if b then Ok word else Err line.NotAscii) legal

-- a place that is there, of atoms whose names differ, and so the places of its atom
pub record IsPlaced (atoms : List AtomDefinition) (at : At) : Type 0 where
  pub atom : AtomDefinition
  pub there : slice_get atoms at.atom ≡ Some atom
  pub atoms_apart : are_named (λ a. a.name) atoms ≡ true
  pub place : Place
  pub in_it : slice_get atom.places at.place ≡ Some place
  pub places_apart : are_named (λ p. p.name) atom.places ≡ true

pub placed : (atoms : List AtomDefinition) (at : At) → is_known_place atoms at ≡ true → are_named (λ a. a.name) atoms ≡ true →
    option_map_or (λ a. are_named (λ p. p.name) a.places) (slice_get atoms at.atom) false ≡ true → IsPlaced atoms at
placed atoms at known apart named =
    let a = passing (λ b. nat_lt at.place (length b.places)) (slice_get atoms at.atom) known in
    let place = there_at a.0.places at.place (ltb-true at.place (length a.0.places) a.2) in
    record {
      atom = a.0;
      there = a.1;
      atoms_apart = apart;
      place = place.0;
      in_it = place.1;
      places_apart = sym (ap (λ o. option_map_or (λ b. are_named (λ p. p.name) b.places) o false) a.1) ∙ named;
    }

module _ (plant : PlantDefinition) (at : At) (is : IsPlaced plant.atoms at) where
  abbrev atom : List ℕ
  atom = atom_name plant.atoms at.atom

  abbrev place : List ℕ
  place = name_of_place plant.atoms at.atom at.place

  -- ---- the names as they are written

  atom_is : atom ≡ is.atom.name
  atom_is = ap (λ (o : Option AtomDefinition). option_map_or (λ a. a.name) o []) is.there

  place_is : place ≡ is.place.name
  place_is =
      ap (λ (o : Option AtomDefinition). option_map_or (λ a. place_name a at.place) o []) is.there
      ∙ ap (λ (o : Option Place). option_map_or (λ p. p.name) o []) is.in_it

  atom_alone : is_one_word atom ≡ true
  atom_alone = ap is_one_word atom_is ∙ name_is_one_word is.atom.name (named_at (λ a. a.name) plant.atoms is.atoms_apart at.atom is.atom is.there)

  place_alone : is_one_word place ≡ true
  place_alone = ap is_one_word place_is ∙ name_is_one_word is.place.name (named_at (λ p. p.name) is.atom.places is.places_apart at.place is.place is.in_it)

  atom_legal : is_legal_line atom ≡ true
  atom_legal = ap is_legal_line atom_is ∙ name_is_legal is.atom.name (named_at (λ a. a.name) plant.atoms is.atoms_apart at.atom is.atom is.there)

  place_legal : is_legal_line place ≡ true
  place_legal = ap is_legal_line place_is ∙ name_is_legal is.place.name (named_at (λ p. p.name) is.atom.places is.places_apart at.place is.place is.in_it)

  -- ---- what they name

  atom_found : atom_number plant.atoms atom ≡ Some at.atom
  atom_found = ap (atom_number plant.atoms) atom_is ∙ found_by_name (λ a. a.name) plant.atoms is.atoms_apart at.atom is.atom is.there

  place_found : place_named plant.atoms at.atom place ≡ Some at.place
  place_found =
      ap (place_named plant.atoms at.atom) place_is
      ∙ ap (λ (o : Option AtomDefinition). option_and_then (λ a. place_number a is.place.name) o) is.there
      ∙ found_by_name (λ p. p.name) is.atom.places is.places_apart at.place is.place is.in_it

  -- ---- words

  abbrev words : List (List ℕ)
  words = atom ∷ codes "at" ∷ place ∷ []

  -- the condition may stand after a word
  pub words_after : IsBehind (condition_text plant at) (codes "when" ∷ words)
  words_after word one =
      word_before word (codes "when " ++ atom ++ codes " at " ++ place) one
      ∙ ap (λ (rest : List (List ℕ)). word ∷ rest) (word_before (codes "when") (atom ++ codes " at " ++ place) refl)
      ∙ ap (λ (text : List ℕ). word ∷ codes "when" ∷ words_of text) (append_assoc atom (codes " at ") place)
      ∙ ap (λ (rest : List (List ℕ)). word ∷ codes "when" ∷ rest) (word_before atom (codes "at " ++ place) atom_alone)
      ∙ ap (λ (rest : List (List ℕ)). word ∷ codes "when" ∷ atom ∷ rest) (word_before (codes "at") place refl)
      ∙ ap (λ (rest : List (List ℕ)). word ∷ codes "when" ∷ atom ∷ codes "at" ∷ rest) (word_alone place place_alone)

  -- its words are read as the place
  place_read : condition_in (atom_number plant.atoms) (place_named plant.atoms) words ≡ Ok at
  place_read =
      let made : ℕ → ℕ → Unit {0} → Result At LineFault = λ a p end. Ok (record { atom = a; place = p }) in
      let ended : ℕ → ℕ → Result At LineFault = λ a p. at_end [] >>= made a p in
      let known : ℕ → List ℕ → Result At LineFault = λ a name. ok_or (place_named plant.atoms a name) line.UnknownName >>= ended a in
      let behind_at : ℕ → Unit {0} → Result At LineFault = λ a between. first_word (place ∷ []) >>= known a in
      let between : ℕ → Result At LineFault = λ a. first_keyword (codes "at") (codes "at" ∷ place ∷ []) >>= behind_at a in
      let named : List ℕ → Result At LineFault = λ name. ok_or (atom_number plant.atoms name) line.UnknownName >>= between in
      passes named (first_legal atom (codes "at" ∷ place ∷ []) atom_legal)
      (passes between (ap (λ (found : Option ℕ). ok_or found line.UnknownName) atom_found)
      (passes (known at.atom) (first_legal place [] place_legal)
      (passes (ended at.atom) (ap (λ (found : Option ℕ). ok_or found line.UnknownName) place_found) refl)))

  pub condition_read : condition_after (atom_number plant.atoms) (place_named plant.atoms) (codes "when" ∷ words) ≡ Ok at
  condition_read = place_read
