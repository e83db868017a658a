-- The sides of a rule, and the words of its line, read.
use Rattle.std.proofs.Common.{◌≡◌, ◌∙◌, refl, sym, ap, ℕ, ◌^◌, ◌<◌, Bool, true, false, ◌&&◌, List, [], ◌∷◌, ◌++◌, append_assoc, length, drop, codes, decimal, Option, Some, None, Ok, Result, option_map, slice_get, nat_lt, ltb-true, lt-ltb, ◌==◌, arith}
use Rattle.std.specs.List.{list_any}
use Rattle.std.specs.Option.{ok_or, option_map_or}
use Rattle.std.proofs.lemmas.Bool.{and_parts, and_from, false≢true}
use Rattle.std.proofs.lemmas.List.Folds.{list_all-append}
use Rattle.std.proofs.lemmas.Option.{slice_get-map}
use Rattle.petri_atom.specs.Name.{is_letter, is_letter_or_digit, is_same_text}
use Rattle.connector_tree.specs.TokenMeaning.{interactions_in}
use Rattle.priority_filter.specs.declared.rule.Rule.{Rule}
use Rattle.priority_filter.specs.declared.rule.Rule.TheVariants.{Under, UnderAt, Maximal}
use Rattle.priority_filter.specs.declared.rule.Side.{Side}
use Rattle.priority_filter.specs.declared.rule.Side.TheVariants.{Whole, One}
use Rattle.priority_filter.specs.declared.seen.At.{At}
use Rattle.plant_model.specs.Plant.{PlantDefinition, WireDefinition, wire_name}
use Rattle.plant_model.specs.Rules.{is_known_place}
use Rattle.plant_model.specs.declared.limits.TheConstants.{MAX_RULES}
use Rattle.plant_words.specs.Lines.{is_legal_byte, is_legal_line}
use Rattle.plant_words.specs.Numbers.{is_digit, pick_in}
use Rattle.plant_words.specs.Reading.{◌>>=◌, check, first_keyword, at_end}
use Rattle.plant_words.specs.Splits.{named_mask_in}
use Rattle.plant_words.specs.Words.{words_of}
use Rattle.plant_words.specs.declared.line_fault.LineFault.{LineFault}
use Rattle.plant_words.specs.declared.line_fault.LineFault.TheVariants as line
use Rattle.plant_words.proofs.Exits.{passes}
use Rattle.plant_words.proofs.Positions.{position_of_mapped}
use Rattle.connector_lines.specs.Conditions.{AtomsNamed, PlacesNamed, rule_after}
use Rattle.connector_lines.specs.Rules.{priority_in, maximal_in}
use Rattle.connector_lines.specs.Sides.{whole_of, one_of, side_of, side_in}
use Rattle.plant_text.specs.Interactions.{has_interaction}
use Rattle.plant_text.specs.Names.{atom_number, place_named, wire_number}
use Rattle.plant_text.specs.Rows.{told, words_row}
use Rattle.plant_text.specs.Text.{WireText, PlantText, wire_text_of, text_of}
use Rattle.plant_text.specs.declared.fault.Fault.{Fault}
use Rattle.plant_text.specs.declared.fault.Fault.TheVariants as fault
use Rattle.part_text.specs.Rule.{atom_name, name_of_place, condition_text, side_word, sides_text, rule_text}
use Rattle.read_back.specs.Names.{are_named}
use Rattle.read_back.specs.Rules.{is_side_of, is_rule_of, has_named_condition, with_rules}
use Rattle.read_back.proofs.Conditions.{first_legal, IsPlaced, placed, words_after, condition_read}
use Rattle.read_back.proofs.Words.{is_one_word, one_word_more, no_sides, two_sides, word_alone, word_before}
use Rattle.read_back.proofs.Bytes.{none_is, none_blank, begins_filled, digits_are_legal, IsOfName, name_is_one_word, name_is_legal}
use Rattle.read_back.proofs.Decimals.{all_digits, some_digit, pick_read}
use Rattle.read_back.proofs.Found.{there_at, named_at, found_by_name}

-- what passes a test after a map is there before it
unmapped : {X Y : Type 0} (f : X → Y) (test : Y → Bool) (found : Option X) → option_map_or test (option_map f found) false ≡ true → (x : X) × (found ≡ Some x)
unmapped f test None passes = absurd (false≢true passes)
unmapped f test (Some x) passes = (x, refl)

module _ (plant : PlantDefinition) (named : are_named (λ w. w.name) plant.wires ≡ true) where
  abbrev by_name : List ℕ → Option ℕ
  by_name = wire_number (text_of plant).wires

  abbrev by_mask : ℕ → ℕ → Bool
  by_mask = has_interaction (text_of plant).wires

  abbrev by_atom : AtomsNamed
  by_atom = atom_number plant.atoms

  abbrev by_place : PlacesNamed
  by_place = place_named plant.atoms

  -- ---- connectors

  module _ (k : ℕ) (w : WireDefinition) (there : slice_get plant.wires k ≡ Some w) where
    name_is : wire_name plant k ≡ w.name
    name_is = ap (λ (o : Option WireDefinition). option_map_or (λ v. v.name) o []) there

    own_name : IsOfName w.name
    own_name = named_at (λ v. v.name) plant.wires named k w there

    -- a connector is found by its name
    wire_found : by_name w.name ≡ Some k
    wire_found =
        sym (position_of_mapped wire_text_of (λ v. is_same_text v.name w.name) plant.wires)
        ∙ found_by_name (λ v. v.name) plant.wires named k w there

    name_alone : is_one_word (wire_name plant k) ≡ true
    name_alone = ap is_one_word name_is ∙ name_is_one_word w.name own_name

    name_legal : is_legal_line (wire_name plant k) ≡ true
    name_legal = ap is_legal_line name_is ∙ name_is_legal w.name own_name

    -- its name is read as all of it
    whole_read : side_of by_name by_mask (wire_name plant k) ≡ Ok (Whole k)
    whole_read =
        let made : ℕ → Result Side LineFault = λ connector. Ok (Whole connector) in
        ap (side_of by_name by_mask) name_is
        ∙ ap (λ (parts : Option (List ℕ × List ℕ)). option_map_or (one_of by_name by_mask) parts (whole_of by_name w.name)) (no_sides 58 w.name (none_is is_letter_or_digit 58 w.name own_name.bytes refl))
        ∙ passes made (ap (λ (found : Option ℕ). ok_or found line.UnknownName) wire_found) refl

    maximal_read : maximal_in by_name (wire_name plant k ∷ []) ≡ Ok (Maximal k)
    maximal_read =
        let made : ℕ → Unit {0} → Result Rule LineFault = λ connector end. Ok (Maximal connector) in
        let ended : ℕ → Result Rule LineFault = λ connector. at_end [] >>= made connector in
        let known : List ℕ → Result Rule LineFault = λ name. ok_or (by_name name) line.UnknownName >>= ended in
        ap (λ (name : List ℕ). maximal_in by_name (name ∷ [])) name_is
        ∙ passes known (first_legal w.name [] (name_is_legal w.name own_name))
        (passes ended (ap (λ (found : Option ℕ). ok_or found line.UnknownName) wire_found) refl)

    -- with a mask after it, it is read as one interaction
    module _ (mask : ℕ) (small : nat_lt mask (2 ^ 16) ≡ true) where
      within : mask < 2 ^ 64
      within = let low : mask < 2 ^ 16 = ltb-true mask (2 ^ 16) small in omega (arith, low)

      abbrev word : List ℕ
      word = w.name ++ codes ":" ++ decimal mask

      one_name_is : side_word plant (One k mask) ≡ word
      one_name_is = ap (λ (name : List ℕ). name ++ codes ":" ++ decimal mask) name_is

      parts_are : named_mask_in word ≡ Some (w.name, decimal mask)
      parts_are =
          ap named_mask_in (append_assoc w.name (codes ":") (decimal mask))
          ∙ two_sides 58 w.name (decimal mask) (none_is is_letter_or_digit 58 w.name own_name.bytes refl) (none_is is_digit 58 (decimal mask) (all_digits mask within) refl)
          (begins_filled is_letter w.name own_name.begins) (some_digit mask within)

      masked_alone : is_one_word (side_word plant (One k mask)) ≡ true
      masked_alone =
          ap is_one_word (one_name_is ∙ append_assoc w.name (codes ":") (decimal mask))
          ∙ one_word_more w.name (58 ∷ decimal mask) (name_is_one_word w.name own_name) (none_blank is_digit (decimal mask) (all_digits mask within) refl refl)

      masked_legal : is_legal_line (side_word plant (One k mask)) ≡ true
      masked_legal =
          ap is_legal_line (one_name_is ∙ append_assoc w.name (codes ":") (decimal mask))
          ∙ list_all-append is_legal_byte w.name (58 ∷ decimal mask)
          ∙ and_from (is_legal_line w.name) (is_legal_line (58 ∷ decimal mask)) (name_is_legal w.name own_name) (digits_are_legal (decimal mask) (all_digits mask within))

      one_read : by_mask k mask ≡ true → side_of by_name by_mask (side_word plant (One k mask)) ≡ Ok (One k mask)
      one_read held =
          let made : ℕ → ℕ → Unit {0} → Result Side LineFault = λ connector m known. Ok (One connector m) in
          let known : ℕ → ℕ → Unit {0} → Result Side LineFault = λ connector m short. check (by_mask connector m) line.UnknownName >>= made connector m in
          let short : ℕ → ℕ → Result Side LineFault = λ connector m. check (nat_lt m (2 ^ 16)) line.UnknownName >>= known connector m in
          let numbered : ℕ → Result Side LineFault = λ connector. ok_or (pick_in (decimal mask)) line.BadNumber >>= short connector in
          ap (side_of by_name by_mask) one_name_is
          ∙ ap (λ (parts : Option (List ℕ × List ℕ)). option_map_or (one_of by_name by_mask) parts (whole_of by_name word)) parts_are
          ∙ passes numbered (ap (λ (found : Option ℕ). ok_or found line.UnknownName) wire_found)
          (passes (short k) (ap (λ (read : Option ℕ). ok_or read line.BadNumber) (pick_read mask within))
          (passes (known k mask) (ap (λ (test : Bool). check test line.UnknownName) small)
          (passes (made k mask) (ap (λ (test : Bool). check test line.UnknownName) held) refl)))

  -- ---- sides

  -- the connector of an interaction is there
  wire_at : (k mask : ℕ) → by_mask k mask ≡ true → (w : WireDefinition) × (slice_get plant.wires k ≡ Some w)
  wire_at k mask held =
      let test : WireText → Bool = λ w. list_any (λ m. m == mask) (interactions_in w.tree) in
      unmapped wire_text_of test (slice_get plant.wires k) (sym (ap (λ (o : Option WireText). option_map_or test o false) (slice_get-map wire_text_of plant.wires k)) ∙ held)

  -- a side is read back
  pub side_read : (side : Side) → is_side_of plant side ≡ true → side_of by_name by_mask (side_word plant side) ≡ Ok side
  side_read (Whole k) held =
      let w = there_at plant.wires k (ltb-true k (length plant.wires) held) in
      whole_read k w.0 w.1
  side_read (One k mask) held =
      let parts = and_parts (nat_lt mask (2 ^ 16)) (by_mask k mask) held in
      let w = wire_at k mask parts.1 in
      one_read k w.0 w.1 mask parts.0 parts.1

  -- it is one word, which may stand in a text
  side_stands : (side : Side) → is_side_of plant side ≡ true → (is_one_word (side_word plant side) ≡ true) × (is_legal_line (side_word plant side) ≡ true)
  side_stands (Whole k) held =
      let w = there_at plant.wires k (ltb-true k (length plant.wires) held) in
      (name_alone k w.0 w.1, name_legal k w.0 w.1)
  side_stands (One k mask) held =
      let parts = and_parts (nat_lt mask (2 ^ 16)) (by_mask k mask) held in
      let w = wire_at k mask parts.1 in
      (masked_alone k w.0 w.1 mask parts.0, masked_legal k w.0 w.1 mask parts.0)

  side_alone : (side : Side) → is_side_of plant side ≡ true → is_one_word (side_word plant side) ≡ true
  side_alone side held = (side_stands side held).0

  -- so it is read as the first word
  side_first : (side : Side) (rest : List (List ℕ)) → is_side_of plant side ≡ true → side_in by_name by_mask (side_word plant side ∷ rest) ≡ Ok side
  side_first side rest held = passes (side_of by_name by_mask) (first_legal (side_word plant side) rest (side_stands side held).1) (side_read side held)

  -- ---- rules

  module _ (left right : Side) (lower : is_side_of plant left ≡ true) (upper : is_side_of plant right ≡ true) where
    abbrev sides : List (List ℕ)
    sides = side_word plant left ∷ codes "<" ∷ side_word plant right ∷ []

    sides_are_words : words_of (rule_text plant (Under left right)) ≡ codes "prio" ∷ sides
    sides_are_words =
        word_before (codes "prio") (sides_text plant left right) refl
        ∙ ap (λ (text : List ℕ). codes "prio" ∷ words_of text) (append_assoc (side_word plant left) (codes " < ") (side_word plant right))
        ∙ ap (λ (rest : List (List ℕ)). codes "prio" ∷ rest) (word_before (side_word plant left) (60 ∷ 32 ∷ side_word plant right) (side_alone left lower))
        ∙ ap (λ (rest : List (List ℕ)). codes "prio" ∷ side_word plant left ∷ rest) (word_before (codes "<") (side_word plant right) refl)
        ∙ ap (λ (rest : List (List ℕ)). codes "prio" ∷ side_word plant left ∷ codes "<" ∷ rest) (word_alone (side_word plant right) (side_alone right upper))

    -- the sides, and what stands after them, are read as what that is after them
    after_read : (rest : List (List ℕ)) (rule : Rule) → rule_after by_atom by_place left right rest ≡ Ok rule →
        priority_in by_name by_mask by_atom by_place (side_word plant left ∷ codes "<" ∷ side_word plant right ∷ rest) ≡ Ok rule
    after_read rest rule told =
        let words : List (List ℕ) = side_word plant left ∷ codes "<" ∷ side_word plant right ∷ rest in
        let ended : Side → Side → Result Rule LineFault = λ one other. rule_after by_atom by_place one other rest in
        let second : Side → Unit {0} → Result Rule LineFault = λ one below. side_in by_name by_mask (drop 2 words) >>= ended one in
        let between : Side → Result Rule LineFault = λ one. first_keyword (codes "<") (drop 1 words) >>= second one in
        passes between (side_first left (codes "<" ∷ side_word plant right ∷ rest) lower) (passes (ended left) (side_first right rest upper) told)

    sides_read : priority_in by_name by_mask by_atom by_place sides ≡ Ok (Under left right)
    sides_read = after_read [] (Under left right) refl

    -- the same with a condition
    module _ (at : At) (is : IsPlaced plant.atoms at) where
      abbrev conditions : List (List ℕ)
      conditions = codes "when" ∷ atom_name plant.atoms at.atom ∷ codes "at" ∷ name_of_place plant.atoms at.atom at.place ∷ []

      abbrev sides_at : List (List ℕ)
      sides_at = side_word plant left ∷ codes "<" ∷ side_word plant right ∷ conditions

      conditional_words : words_of (rule_text plant (UnderAt left right at)) ≡ codes "prio" ∷ sides_at
      conditional_words =
          let lower_side : List ℕ = side_word plant left in
          let upper_side : List ℕ = side_word plant right in
          let condition : List ℕ = condition_text plant at in
          word_before (codes "prio") (sides_text plant left right ++ condition) refl
          ∙ ap (λ (text : List ℕ). codes "prio" ∷ words_of text) (append_assoc (lower_side ++ codes " < ") upper_side condition ∙ append_assoc lower_side (codes " < ") (upper_side ++ condition))
          ∙ ap (λ (rest : List (List ℕ)). codes "prio" ∷ rest) (word_before lower_side (60 ∷ 32 ∷ (upper_side ++ condition)) (side_alone left lower))
          ∙ ap (λ (rest : List (List ℕ)). codes "prio" ∷ lower_side ∷ rest) (word_before (codes "<") (upper_side ++ condition) refl)
          ∙ ap (λ (rest : List (List ℕ)). codes "prio" ∷ lower_side ∷ codes "<" ∷ rest) (words_after plant at is upper_side (side_alone right upper))

      conditional_read : priority_in by_name by_mask by_atom by_place sides_at ≡ Ok (UnderAt left right at)
      conditional_read =
          after_read conditions (UnderAt left right at) (passes (λ place. Ok (UnderAt left right place)) (condition_read plant at is) refl)

  module _ (k : ℕ) (held : is_side_of plant (Whole k) ≡ true) where
    name_is_words : words_of (rule_text plant (Maximal k)) ≡ codes "maximal" ∷ wire_name plant k ∷ []
    name_is_words =
        word_before (codes "maximal") (wire_name plant k) refl
        ∙ ap (λ (rest : List (List ℕ)). codes "maximal" ∷ rest) (word_alone (wire_name plant k) (side_alone (Whole k) held))

    name_is_read : maximal_in by_name (wire_name plant k ∷ []) ≡ Ok (Maximal k)
    name_is_read =
        let w = there_at plant.wires k (ltb-true k (length plant.wires) held) in
        maximal_read k w.0 w.1

  -- the words of a rule's line add the rule
  pub rule_read : (rule : Rule) (rules : List Rule) → is_rule_of plant rule ≡ true → has_named_condition plant rule ≡ true → length rules < MAX_RULES →
      words_row (words_of (rule_text plant rule)) (with_rules plant rules) ≡ Ok (with_rules plant (rules ++ rule ∷ []))
  rule_read (Under left right) rules held known room =
      let parts = and_parts (is_side_of plant left) (is_side_of plant right) held in
      let made : Rule → Result PlantText Fault = λ rule. Ok (with_rules plant (rules ++ rule ∷ [])) in
      let added : Unit {0} → Result PlantText Fault = λ few. told (priority_in by_name by_mask by_atom by_place (sides left right parts.0 parts.1)) >>= made in
      ap (λ (words : List (List ℕ)). words_row words (with_rules plant rules)) (sides_are_words left right parts.0 parts.1)
      ∙ passes added (ap (λ (few : Bool). check few fault.Limit) (lt-ltb (length rules) MAX_RULES room))
      (passes made (ap told (sides_read left right parts.0 parts.1)) refl)
  rule_read (UnderAt left right at) rules held known room =
      let both = and_parts (is_side_of plant left && is_side_of plant right) (is_known_place plant.atoms at) held in
      let parts = and_parts (is_side_of plant left) (is_side_of plant right) both.0 in
      let names = and_parts _ _ known in
      let is = placed plant.atoms at both.1 names.0 names.1 in
      let made : Rule → Result PlantText Fault = λ rule. Ok (with_rules plant (rules ++ rule ∷ [])) in
      let added : Unit {0} → Result PlantText Fault = λ few. told (priority_in by_name by_mask by_atom by_place (sides_at left right parts.0 parts.1 at is)) >>= made in
      ap (λ (words : List (List ℕ)). words_row words (with_rules plant rules)) (conditional_words left right parts.0 parts.1 at is)
      ∙ passes added (ap (λ (few : Bool). check few fault.Limit) (lt-ltb (length rules) MAX_RULES room))
      (passes made (ap told (conditional_read left right parts.0 parts.1 at is)) refl)
  rule_read (Maximal k) rules held known room =
      let made : Rule → Result PlantText Fault = λ rule. Ok (with_rules plant (rules ++ rule ∷ [])) in
      let added : Unit {0} → Result PlantText Fault = λ few. told (maximal_in by_name (wire_name plant k ∷ [])) >>= made in
      ap (λ (words : List (List ℕ)). words_row words (with_rules plant rules)) (name_is_words k held)
      ∙ passes added (ap (λ (few : Bool). check few fault.Limit) (lt-ltb (length rules) MAX_RULES room))
      (passes made (ap told (name_is_read k held)) refl)
