-- What each word of a connector's tree says that is written: a port or a bracket.
use Rattle.std.proofs.Common.{◌≡◌, ◌∙◌, refl, sym, ap, ℕ, ◌+◌, ◌-◌, ◌<◌, Bool, true, false, not, if◌then◌else◌, List, [], ◌∷◌, ◌++◌, append-nil, length, take, slice_index, codes, Option, Some, None, Ok, Err, option_map, option_and_then, slice_get, nat_lt, eq-eqb, ltb-true, arith}
use Rattle.std.specs.List.{list_all}
use Rattle.std.specs.Option.{option_map_or}
use Rattle.std.proofs.lemmas.Bool.{and_parts, and_from, false≢true}
use Rattle.std.proofs.lemmas.List.Folds.{list_all-append}
use Rattle.std.proofs.lemmas.List.{length_push, get_or_push, take_at}
use Rattle.std.proofs.lemmas.List.Sums.{AllPass-from_list_all}
use Rattle.petri_atom.specs.Definition.{AtomDefinition, PortDefinition, port_name}
use Rattle.petri_atom.specs.Name.{is_letter, is_same_text}
use Rattle.petri_atom.proofs.Fitting.{all_get}
use Rattle.connector_tree.specs.declared.token.Token.{Token}
use Rattle.connector_tree.specs.declared.token.Token.TheVariants.{Leaf, Open, Close}
use Rattle.connector_tree.specs.declared.tree.Port.{Port}
use Rattle.plant_model.specs.Rules.{is_known_port}
use Rattle.plant_words.specs.Lines.{is_legal_byte, is_legal_line}
use Rattle.plant_words.specs.Splits.{PortParts, sides_in, is_quoted, port_parts}
use Rattle.plant_words.specs.Words.{is_blank, is_filled}
use Rattle.atom_lines.specs.Lookup.{port_number}
use Rattle.connector_lines.specs.Tokens.{bracket_in, leaf_of, leaf_in, legal_token_in, token_in}
use Rattle.connector_lines.specs.declared.tree_words_fault.TreeWordsFault.TheVariants.{NotAscii}
use Rattle.plant_text.specs.Names.{port_at, port_named}
use Rattle.part_text.specs.Words.{leaf_word, trigger_mark, token_word}
use Rattle.read_back.specs.Names.{are_named, names_its_parts, are_named_atoms}
use Rattle.read_back.proofs.Words.{is_one_word, one_word_more}
use Rattle.read_back.proofs.Bytes.{other_byte, begins_by, begins_filled, begins_more, other_first, IsOfName}
use Rattle.read_back.proofs.ExpressionWords.{passed_by}
use Rattle.read_back.proofs.Found.{there_at, passing, named_at, found_by_name}
use Rattle.read_back.proofs.Dotted.{dotted, is_dotted_byte, dotted_bytes, dotted_begins, dotted_is_one_word, dotted_is_legal, dotted_sides}

-- ---- words with a mark

-- a word that begins with a letter is no bracket
no_bracket : (word : List ℕ) → begins_by is_letter word ≡ true → bracket_in word ≡ None
no_bracket word begins =
    passed_by (is_same_text word (codes "[")) Open _ (other_first is_letter word 91 [] begins refl)
    (passed_by (is_same_text word (codes "]")) (Close false) _ (other_first is_letter word 93 [] begins refl)
    (passed_by (is_same_text word (codes "]'")) (Close true) None (other_first is_letter word 93 (codes "'") begins refl) refl))

last_within : (word : List ℕ) → is_filled word ≡ true → length word - 1 < length word
last_within [] some = absurd (false≢true some)
last_within (byte ∷ bytes) some = omega arith

-- the parts of a port's word, by whether it is quoted, and by its sides
abbrev parts_of : Bool → List ℕ × List ℕ → PortParts
parts_of quoted sides = record { atom = sides.0; port = sides.1; quoted = quoted }

module _ (first second : List ℕ) (one : IsOfName first) (other : IsOfName second) where
  abbrev word : List ℕ
  word = dotted first second

  begins : begins_by is_letter word ≡ true
  begins = dotted_begins first second one other

  sides : sides_in 46 word ≡ Some (first, second)
  sides = dotted_sides first second one other

  unquoted : is_quoted word ≡ false
  unquoted =
      let last : is_dotted_byte (slice_index word (length word - 1)) ≡ true =
      AllPass-from_list_all is_dotted_byte word (dotted_bytes first second one other) (length word - 1) 0 (last_within word (begins_filled is_letter word begins)) in
      other_byte is_dotted_byte (slice_index word (length word - 1)) 39 last refl

  -- without a quote
  plain_parts : port_parts word ≡ Some (parts_of false (first, second))
  plain_parts =
      ap (λ (quoted : Bool). option_map (parts_of quoted) (sides_in 46 (if quoted then take (length word - 1) word else word))) unquoted
      ∙ ap (option_map (parts_of false)) sides

  -- with one
  abbrev marked : List ℕ
  marked = word ++ 39 ∷ []

  place : length marked - 1 ≡ length word
  place = let long : length marked ≡ length word + 1 = length_push word 39 in omega (arith, long)

  quoted : is_quoted marked ≡ true
  quoted = eq-eqb (slice_index marked (length marked - 1)) 39 (ap (slice_index marked) place ∙ get_or_push word 39 0 (length word) refl)

  front : take (length marked - 1) marked ≡ word
  front = take_at word (39 ∷ []) (length marked - 1) (sym place)

  marked_parts : port_parts marked ≡ Some (parts_of true (first, second))
  marked_parts =
      ap (λ (q : Bool). option_map (parts_of q) (sides_in 46 (if q then take (length marked - 1) marked else marked))) quoted
      ∙ ap (λ (text : List ℕ). option_map (parts_of true) (sides_in 46 text)) front
      ∙ ap (option_map (parts_of true)) sides

  pub parts_by_mark : (trigger : Bool) → port_parts (word ++ trigger_mark trigger) ≡ Some (parts_of trigger (first, second))
  parts_by_mark true = marked_parts
  parts_by_mark false = ap port_parts (append-nil word) ∙ plain_parts

  -- either is one word, and no bracket
  mark_is_no_blank : (trigger : Bool) → list_all (λ byte. not (is_blank byte)) (trigger_mark trigger) ≡ true
  mark_is_no_blank true = refl
  mark_is_no_blank false = refl

  pub marked_is_one_word : (trigger : Bool) → is_one_word (word ++ trigger_mark trigger) ≡ true
  marked_is_one_word trigger = one_word_more word (trigger_mark trigger) (dotted_is_one_word first second one other) (mark_is_no_blank trigger)

  -- and may stand in a text
  mark_is_legal : (trigger : Bool) → is_legal_line (trigger_mark trigger) ≡ true
  mark_is_legal true = refl
  mark_is_legal false = refl

  pub marked_is_legal : (trigger : Bool) → is_legal_line (word ++ trigger_mark trigger) ≡ true
  marked_is_legal trigger = list_all-append is_legal_byte word (trigger_mark trigger) ∙ and_from _ _ (dotted_is_legal first second one other) (mark_is_legal trigger)

  pub marked_is_no_bracket : (trigger : Bool) → bracket_in (word ++ trigger_mark trigger) ≡ None
  marked_is_no_bracket trigger = no_bracket (word ++ trigger_mark trigger) (begins_more is_letter word (trigger_mark trigger) begins)

-- ---- ports

-- the parts that a port is written and found by
record IsAt (atoms : List AtomDefinition) (p : Port) : Type 0 where
  atom : AtomDefinition
  port : PortDefinition
  there : slice_get atoms p.atom ≡ Some atom
  is : slice_get atom.ports p.port ≡ Some port

-- a token whose port, where it is one, is there
abbrev pub is_known_token : List AtomDefinition → Token → Bool
is_known_token atoms (Leaf port trigger) = is_known_port atoms port
is_known_token atoms Open = true
is_known_token atoms (Close trigger) = true

module _ (atoms : List AtomDefinition) (named : are_named_atoms atoms ≡ true) where
  found_at : (p : Port) → is_known_port atoms p ≡ true → IsAt atoms p
  found_at p known =
      let there = passing (λ a. nat_lt p.port (length a.ports)) (slice_get atoms p.atom) known in
      let port = there_at there.0.ports p.port (ltb-true p.port (length there.0.ports) there.2) in
      record { atom = there.0; port = port.0; there = there.1; is = port.1 }

  module _ (p : Port) (at : IsAt atoms p) where
    atoms_named : are_named (λ a. a.name) atoms ≡ true
    atoms_named = (and_parts _ _ named).0

    ports_named : are_named (λ q. q.name) at.atom.ports ≡ true
    ports_named = (and_parts _ _ (all_get names_its_parts atoms p.atom at.atom (and_parts _ _ named).1 at.there)).1

    atom_name : IsOfName at.atom.name
    atom_name = named_at (λ a. a.name) atoms atoms_named p.atom at.atom at.there

    own_name : IsOfName at.port.name
    own_name = named_at (λ q. q.name) at.atom.ports ports_named p.port at.port at.is

    -- it is written by the names of its atom and its own
    told : leaf_word atoms p ≡ dotted at.atom.name at.port.name
    told =
        ap (λ (o : Option AtomDefinition). option_map_or (λ a. a.name ++ codes "." ++ port_name a p.port) o []) at.there
        ∙ ap (λ (o : Option PortDefinition). at.atom.name ++ codes "." ++ option_map_or (λ q. q.name) o []) at.is

    -- and found by them
    port_is_found : port_named atoms at.atom.name at.port.name ≡ Some p
    port_is_found =
        let make : ℕ → Port = λ port. record { atom = p.atom; port = port } in
        ap (option_and_then (port_at atoms at.port.name)) (found_by_name (λ a. a.name) atoms atoms_named p.atom at.atom at.there)
        ∙ ap (option_and_then (λ a. option_map make (port_number a at.port.name))) at.there
        ∙ ap (option_map make) (found_by_name (λ q. q.name) at.atom.ports ports_named p.port at.port at.is)

    -- so its word says it
    leaf_read : (trigger : Bool) → token_in (port_named atoms) (leaf_word atoms p ++ trigger_mark trigger) ≡ Ok (Leaf p trigger)
    leaf_read trigger =
        let name : List ℕ = at.atom.name in
        let own : List ℕ = at.port.name in
        let marked : List ℕ = dotted name own ++ trigger_mark trigger in
        ap (λ (text : List ℕ). token_in (port_named atoms) (text ++ trigger_mark trigger)) told
        ∙ ap (λ (legal : Bool). if legal then legal_token_in (port_named atoms) marked else Err NotAscii) (marked_is_legal name own atom_name own_name trigger)
        ∙ ap (λ (bracket : Option Token). option_map_or (λ b. Ok b) bracket (leaf_in (port_named atoms) (port_parts marked))) (marked_is_no_bracket name own atom_name own_name trigger)
        ∙ ap (leaf_in (port_named atoms)) (parts_by_mark name own atom_name own_name trigger)
        ∙ ap (leaf_of trigger) port_is_found

    leaf_is_one_word : (trigger : Bool) → is_one_word (leaf_word atoms p ++ trigger_mark trigger) ≡ true
    leaf_is_one_word trigger =
        ap (λ (text : List ℕ). is_one_word (text ++ trigger_mark trigger)) told ∙ marked_is_one_word at.atom.name at.port.name atom_name own_name trigger

  -- each token is read by its word
  pub token_read : (token : Token) → is_known_token atoms token ≡ true → token_in (port_named atoms) (token_word atoms token) ≡ Ok token
  token_read (Leaf port trigger) known = leaf_read port (found_at port known) trigger
  token_read Open known = refl
  token_read (Close true) known = refl
  token_read (Close false) known = refl

  -- which is one word
  pub token_is_one_word : (token : Token) → is_known_token atoms token ≡ true → is_one_word (token_word atoms token) ≡ true
  token_is_one_word (Leaf port trigger) known = leaf_is_one_word port (found_at port known) trigger
  token_is_one_word Open known = refl
  token_is_one_word (Close true) known = refl
  token_is_one_word (Close false) known = refl
