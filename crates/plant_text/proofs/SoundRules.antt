-- The condition of a rule that a line writes names a place that is there.
use Rattle.std.proofs.Common.{◌≡◌, refl, subst, ℕ, true, List, [], ◌∷◌, drop, codes, Some, Result, Ok}
use Rattle.std.specs.Option.{ok_or}
use Rattle.petri_atom.specs.Definition.{AtomDefinition}
use Rattle.priority_filter.specs.declared.rule.Rule.{Rule}
use Rattle.priority_filter.specs.declared.rule.Rule.TheVariants.{Under, UnderAt, Maximal}
use Rattle.priority_filter.specs.declared.seen.At.{At}
use Rattle.priority_filter.specs.declared.rule.Side.{Side}
use Rattle.plant_model.specs.Rules.{is_known_place, is_known_condition}
use Rattle.plant_words.specs.declared.line_fault.LineFault.{LineFault}
use Rattle.plant_words.specs.declared.line_fault.LineFault.TheVariants.{UnknownName}
use Rattle.plant_words.specs.Reading.{◌>>=◌, first_word, first_keyword, at_end}
use Rattle.plant_words.specs.declared.line_kind.RuleKind.{RuleKind}
use Rattle.plant_words.specs.declared.line_kind.RuleKind.TheVariants as kind
use Rattle.plant_words.proofs.Steps.{led_on, was_there, same_end}
use Rattle.connector_lines.specs.Conditions.{condition_in, condition_after, rule_after}
use Rattle.connector_lines.specs.Sides.{side_in}
use Rattle.plant_text.specs.Text.{WireText}
use Rattle.plant_text.specs.Interactions.{has_interaction}
use Rattle.plant_text.specs.Names.{atom_number, wire_number, place_named}
use Rattle.plant_text.specs.Rows.{rule_in}
use Rattle.plant_text.proofs.SoundAtoms.{place_known}

module _ (atoms : List AtomDefinition) where
  -- a place that is named, as what a line came to
  named_there : (atom place : ℕ) (name : List ℕ) (at : At) → place_named atoms atom name ≡ Some place →
      ◌≡◌ {A = Result At LineFault} (Ok (record { atom = atom; place = place })) (Ok at) → is_known_place atoms at ≡ true
  named_there atom place name at named is =
      subst (λ a. is_known_place atoms a ≡ true) (same_end (record { atom = atom; place = place }) at is)
      (place_known atoms (record { atom = atom; place = place }) name named)

  -- `ATOM at PLACE`
  place_there : (words : List (List ℕ)) (at : At) → condition_in (atom_number atoms) (place_named atoms) words ≡ Ok at → is_known_place atoms at ≡ true
  place_there words at told =
      let made : ℕ → ℕ → Unit {0} → Result At LineFault = λ atom place end. Ok (record { atom = atom; place = place }) in
      let ended : ℕ → ℕ → Result At LineFault = λ atom place. at_end (drop 3 words) >>= made atom place in
      let known : ℕ → List ℕ → Result At LineFault = λ atom name. ok_or (place_named atoms atom name) UnknownName >>= ended atom in
      let placed : ℕ → Unit {0} → Result At LineFault = λ atom between. first_word (drop 2 words) >>= known atom in
      let between : ℕ → Result At LineFault = λ atom. first_keyword (codes "at") (drop 1 words) >>= placed atom in
      let named : List ℕ → Result At LineFault = λ name. ok_or (atom_number atoms name) UnknownName >>= between in
      let name = led_on (first_word words) named at told in
      let atom = led_on (ok_or (atom_number atoms name.0) UnknownName) between at name.2 in
      let keyword = led_on (first_keyword (codes "at") (drop 1 words)) (placed atom.0) at atom.2 in
      let second = led_on (first_word (drop 2 words)) (known atom.0) at keyword.2 in
      let place = led_on (ok_or (place_named atoms atom.0 second.0) UnknownName) (ended atom.0) at second.2 in
      let end = led_on (at_end (drop 3 words)) (made atom.0 place.0) at place.2 in
      named_there atom.0 place.0 second.0 at (was_there (place_named atoms atom.0 second.0) UnknownName place.0 place.1) end.2

  after_there : (left right : Side) (words : List (List ℕ)) (rule : Rule) →
      rule_after (atom_number atoms) (place_named atoms) left right words ≡ Ok rule → is_known_condition atoms rule ≡ true
  after_there left right [] rule told = subst (λ r. is_known_condition atoms r ≡ true) (same_end (Under left right) rule told) refl
  after_there left right (word ∷ words) rule told =
      let at = led_on (condition_after (atom_number atoms) (place_named atoms) (word ∷ words)) (λ at. Ok (UnderAt left right at)) rule told in
      let place = led_on (first_keyword (codes "when") (word ∷ words)) (λ _. condition_in (atom_number atoms) (place_named atoms) words) at.0 at.1 in
      subst (λ r. is_known_condition atoms r ≡ true) (same_end (UnderAt left right at.0) rule at.2) (place_there words at.0 place.2)

  -- the condition of a line's rule
  pub rule_known : (kind : RuleKind) (wires : List WireText) (words : List (List ℕ)) (rule : Rule) → rule_in kind atoms wires words ≡ Ok rule → is_known_condition atoms rule ≡ true
  rule_known kind.Priority wires words rule told =
      let ended : Side → Side → Result Rule LineFault = λ left right. rule_after (atom_number atoms) (place_named atoms) left right (drop 3 words) in
      let higher : Side → Unit {0} → Result Rule LineFault = λ left below. side_in (wire_number wires) (has_interaction wires) (drop 2 words) >>= ended left in
      let between : Side → Result Rule LineFault = λ left. first_keyword (codes "<") (drop 1 words) >>= higher left in
      let left = led_on (side_in (wire_number wires) (has_interaction wires) words) between rule told in
      let below = led_on (first_keyword (codes "<") (drop 1 words)) (higher left.0) rule left.2 in
      let right = led_on (side_in (wire_number wires) (has_interaction wires) (drop 2 words)) (ended left.0) rule below.2 in
      after_there left.0 right.0 (drop 3 words) rule right.2
  rule_known kind.Maximal wires words rule told =
      let made : ℕ → Unit {0} → Result Rule LineFault = λ connector end. Ok (Maximal connector) in
      let ended : ℕ → Result Rule LineFault = λ connector. at_end (drop 1 words) >>= made connector in
      let named : List ℕ → Result Rule LineFault = λ word. ok_or (wire_number wires word) UnknownName >>= ended in
      let word = led_on (first_word words) named rule told in
      let connector = led_on (ok_or (wire_number wires word.0) UnknownName) ended rule word.2 in
      let end = led_on (at_end (drop 1 words)) (made connector.0) rule connector.2 in
      subst (λ r. is_known_condition atoms r ≡ true) (same_end (Maximal connector.0) rule end.2) refl
