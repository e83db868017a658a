-- Lines of connectors and of rules without a fault have words of legal bytes alone.
use Rattle.std.proofs.Common.{◌≡◌, ◌∙◌, refl, ap, ℕ, Bool, true, false, not, if◌then◌else◌, codes, List, [], ◌∷◌, ◌++◌, length, drop, Option, Some, None, Result, Ok, Err}
use Rattle.std.specs.Prelude.{nat_lt}
use Rattle.std.specs.Option.{ok_or, option_map_or}
use Rattle.std.proofs.lemmas.Bool.{and_from}
use Rattle.std.proofs.lemmas.List.{drop-drop}
use Rattle.petri_atom.specs.Expression.{Tree}
use Rattle.connector_tree.specs.declared.token.Token.{Token}
use Rattle.connector_tree.specs.Tokens.{level_after}
use Rattle.priority_filter.specs.declared.rule.Rule.{Rule}
use Rattle.priority_filter.specs.declared.rule.Rule.TheVariants.{UnderAt, Maximal}
use Rattle.priority_filter.specs.declared.rule.Side.{Side}
use Rattle.priority_filter.specs.declared.seen.At.{At}
use Rattle.plant_model.specs.Plant.{TransferDefinition}
use Rattle.plant_model.specs.declared.limits.TheConstants.{MAX_GUARDS, MAX_TRANSFERS}
use Rattle.plant_model.specs.declared.wire.Export.{Export}
use Rattle.plant_words.specs.Expressions.{expression_in}
use Rattle.plant_words.specs.Lines.{is_legal_line}
use Rattle.plant_words.specs.Reading.{◌>>=◌, check, first_word, first_keyword, at_end, on_line}
use Rattle.plant_words.specs.declared.line_fault.LineFault.{LineFault}
use Rattle.plant_words.specs.declared.line_fault.LineFault.TheVariants.{Twice, UnknownName, Limit}
use Rattle.plant_words.proofs.Legal.{are_legal, word_is_legal, step_is_legal, keyword_is_legal, end_is_legal, read_is_legal}
use Rattle.plant_words.proofs.Steps.{led_on}
use Rattle.connector_lines.specs.declared.tree_words_fault.TreeWordsFault.{TreeWordsFault}
use Rattle.connector_lines.specs.declared.tree_words_fault.TreeWordsFault.TheVariants.{NotAscii, Shape}
use Rattle.connector_lines.specs.Conditions.{AtomsNamed, PlacesNamed, condition_in, condition_after, rule_after}
use Rattle.connector_lines.specs.Rows.{Named, whole_expression, has_target, target_in, transfer_in, guards_with, transfers_with}
use Rattle.connector_lines.specs.Rules.{priority_in, maximal_in}
use Rattle.connector_lines.specs.Sides.{side_of, side_in}
use Rattle.connector_lines.specs.Tokens.{Names, Reading, legal_token_in, led_by, behind, tokens_in}
use Rattle.connector_lines.specs.Trees.{judged, tree_in}
use Rattle.connector_lines.proofs.TransferSteps.{transfer_read}

-- ---- guard clauses and transfers

whole_is_legal : (named : Named) (words : List (List ℕ)) (tree : Tree Export) → whole_expression named words ≡ Ok tree → are_legal words ≡ true
whole_is_legal named words tree told =
    let read = led_on (on_line (expression_in named words)) (λ r. at_end r.1 >>= (λ _. Ok r.0)) tree told in
    let end = led_on (at_end read.0.1) (λ _. Ok read.0.0) tree read.2 in
    read_is_legal named words read.0 read.1 (end_is_legal read.0.1 end.0 end.1)

target_is_legal : (named : Named) (before : List TransferDefinition) (words : List (List ℕ)) (target : Export) →
    target_in named before words ≡ Ok target → are_legal (drop 1 words) ≡ true → are_legal words ≡ true
target_is_legal named before words target told rest =
    let tested : Export → Result Export LineFault = λ variable. check (not (has_target before variable)) Twice >>= (λ _. Ok variable) in
    step_is_legal words (λ word. ok_or (named word) UnknownName >>= tested) target told rest

transfer_is_legal : (named : Named) (before : List TransferDefinition) (words : List (List ℕ)) (t : TransferDefinition) →
    transfer_in named before words ≡ Ok t → are_legal words ≡ true
transfer_is_legal named before words t told =
    let read = transfer_read named before words t told in
    target_is_legal named before words read.target read.targeted
    (keyword_is_legal (codes ":=") (drop 1 words) read.assigns read.assigned (whole_is_legal named (drop 1 (drop 1 words)) read.value read.valued))

pub guards_are_legal : (named : Named) (words : List (List ℕ)) (guards next : List (Tree Export)) → guards_with named words guards ≡ Ok next → are_legal words ≡ true
guards_are_legal named words guards next told =
    let added : Tree Export → Result (List (Tree Export)) LineFault = λ guard. Ok (guards ++ guard ∷ []) in
    let room = led_on (check (nat_lt (length guards) MAX_GUARDS) Limit) (λ _. whole_expression named words >>= added) next told in
    let guard = led_on (whole_expression named words) added next room.2 in
    whole_is_legal named words guard.0 guard.1

pub transfers_are_legal : (named : Named) (words : List (List ℕ)) (transfers next : List TransferDefinition) → transfers_with named words transfers ≡ Ok next → are_legal words ≡ true
transfers_are_legal named words transfers next told =
    let added : TransferDefinition → Result (List TransferDefinition) LineFault = λ t. Ok (transfers ++ t ∷ []) in
    let room = led_on (check (nat_lt (length transfers) MAX_TRANSFERS) Limit) (λ _. transfer_in named transfers words >>= added) next told in
    let t = led_on (transfer_in named transfers words) added next room.2 in
    transfer_is_legal named transfers words t.0 t.1

-- ---- rules

module _ (connector_named : List ℕ → Option ℕ) (has_interaction : ℕ → ℕ → Bool) (atom_named : AtomsNamed) (place_named : PlacesNamed) where
  side_is_legal : (words : List (List ℕ)) (side : Side) → side_in connector_named has_interaction words ≡ Ok side → are_legal (drop 1 words) ≡ true → are_legal words ≡ true
  side_is_legal words side told rest = step_is_legal words (side_of connector_named has_interaction) side told rest

  place_is_legal : (words : List (List ℕ)) (at : At) → condition_in atom_named place_named words ≡ Ok at → are_legal words ≡ true
  place_is_legal words at told =
      let made : ℕ → ℕ → Unit {0} → Result At LineFault = λ atom place end. Ok (record { atom = atom; place = place }) in
      let ended : ℕ → ℕ → Result At LineFault = λ atom place. at_end (drop 3 words) >>= made atom place in
      let known : ℕ → List ℕ → Result At LineFault = λ atom name. ok_or (place_named atom name) UnknownName >>= ended atom in
      let placed : ℕ → Unit {0} → Result At LineFault = λ atom between. first_word (drop 2 words) >>= known atom in
      let between : ℕ → Result At LineFault = λ atom. first_keyword (codes "at") (drop 1 words) >>= placed atom in
      let named : List ℕ → Result At LineFault = λ name. ok_or (atom_named name) UnknownName >>= between in
      let name = led_on (first_word words) named at told in
      let atom = led_on (ok_or (atom_named name.0) UnknownName) between at name.2 in
      let keyword = led_on (first_keyword (codes "at") (drop 1 words)) (placed atom.0) at atom.2 in
      let second = led_on (first_word (drop 2 words)) (known atom.0) at keyword.2 in
      let place = led_on (ok_or (place_named atom.0 second.0) UnknownName) (ended atom.0) at second.2 in
      let end = led_on (at_end (drop 3 words)) (made atom.0 place.0) at place.2 in
      word_is_legal words name.0 name.1
      (keyword_is_legal (codes "at") (drop 1 words) keyword.0 keyword.1
      (ap are_legal (drop-drop 1 1 words)
      ∙ word_is_legal (drop 2 words) second.0 second.1 (ap are_legal (drop-drop 1 2 words) ∙ end_is_legal (drop 3 words) end.0 end.1)))

  condition_is_legal : (words : List (List ℕ)) (at : At) → condition_after atom_named place_named words ≡ Ok at → are_legal words ≡ true
  condition_is_legal words at told =
      let keyword = led_on (first_keyword (codes "when") words) (λ _. condition_in atom_named place_named (drop 1 words)) at told in
      keyword_is_legal (codes "when") words keyword.0 keyword.1 (place_is_legal (drop 1 words) at keyword.2)

  after_is_legal : (left right : Side) (words : List (List ℕ)) (rule : Rule) → rule_after atom_named place_named left right words ≡ Ok rule → are_legal words ≡ true
  after_is_legal left right [] rule told = refl
  after_is_legal left right (word ∷ words) rule told =
      let at = led_on (condition_after atom_named place_named (word ∷ words)) (λ at. Ok (UnderAt left right at)) rule told in
      condition_is_legal (word ∷ words) at.0 at.1

  pub priority_is_legal : (words : List (List ℕ)) (rule : Rule) → priority_in connector_named has_interaction atom_named place_named words ≡ Ok rule → are_legal words ≡ true
  priority_is_legal words rule told =
      let ended : Side → Side → Result Rule LineFault = λ left right. rule_after atom_named place_named left right (drop 3 words) in
      let higher : Side → Unit {0} → Result Rule LineFault = λ left below. side_in connector_named has_interaction (drop 2 words) >>= ended left in
      let between : Side → Result Rule LineFault = λ left. first_keyword (codes "<") (drop 1 words) >>= higher left in
      let left = led_on (side_in connector_named has_interaction words) between rule told in
      let below = led_on (first_keyword (codes "<") (drop 1 words)) (higher left.0) rule left.2 in
      let right = led_on (side_in connector_named has_interaction (drop 2 words)) (ended left.0) rule below.2 in
      side_is_legal words left.0 left.1
      (keyword_is_legal (codes "<") (drop 1 words) below.0 below.1
      (ap are_legal (drop-drop 1 1 words)
      ∙ side_is_legal (drop 2 words) right.0 right.1 (ap are_legal (drop-drop 1 2 words) ∙ after_is_legal left.0 right.0 (drop 3 words) rule right.2)))

pub maximal_is_legal : (connector_named : List ℕ → Option ℕ) (words : List (List ℕ)) (rule : Rule) → maximal_in connector_named words ≡ Ok rule → are_legal words ≡ true
maximal_is_legal connector_named words rule told =
    let made : ℕ → Unit {0} → Result Rule LineFault = λ connector end. Ok (Maximal connector) in
    let ended : ℕ → Result Rule LineFault = λ connector. at_end (drop 1 words) >>= made connector in
    let named : List ℕ → Result Rule LineFault = λ word. ok_or (connector_named word) UnknownName >>= ended in
    let word = led_on (first_word words) named rule told in
    let connector = led_on (ok_or (connector_named word.0) UnknownName) ended rule word.2 in
    let end = led_on (at_end (drop 1 words)) (made connector.0) rule connector.2 in
    word_is_legal words word.0 word.1 (end_is_legal (drop 1 words) end.0 end.1)

-- ---- trees

led_found : (token : Token) (read : Reading) (tokens : List Token) → led_by token read ≡ Ok tokens → (later : List Token) × (read ≡ Ok later)
led_found token (Ok later) tokens told = (later, refl)
led_found token (Err fault) tokens told = absurd (cc)

level_found : (token : Token) (level : Option ℕ) (read : ℕ → Reading) (tokens : List Token) → option_map_or (λ next. led_by token (read next)) level (Err Shape) ≡ Ok tokens →
    (next : ℕ) × (later : List Token) × (read next ≡ Ok later)
level_found token None read tokens told = absurd (cc)
level_found token (Some next) read tokens told = let later = led_found token (read next) tokens told in (next, later.0, later.1)

after_found : (legal : Bool) (said : Result Token TreeWordsFault) (level : ℕ) (read : ℕ → Reading) (tokens : List Token) →
    behind (if legal then said else Err NotAscii) level read ≡ Ok tokens → (legal ≡ true) × ((next : ℕ) × (later : List Token) × (read next ≡ Ok later))
after_found false said level read tokens told = absurd (cc)
after_found true (Err fault) level read tokens told = absurd (cc)
after_found true (Ok token) level read tokens told = (refl, level_found token (level_after token level) read tokens told)

tokens_are_legal : (named : Names) (level : ℕ) (words : List (List ℕ)) (tokens : List Token) → tokens_in named level words ≡ Ok tokens → are_legal words ≡ true
tokens_are_legal named level [] tokens told = refl
tokens_are_legal named level (word ∷ words) tokens told =
    let found = after_found (is_legal_line word) (legal_token_in named word) level (λ next. tokens_in named next words) tokens told in
    and_from (is_legal_line word) (are_legal words) found.0 (tokens_are_legal named found.1.0 words found.1.1 found.1.2)

unjudged : (read : Reading) (tokens : List Token) → judged read ≡ Ok tokens → (later : List Token) × (read ≡ Ok later)
unjudged (Ok later) tokens told = (later, refl)
unjudged (Err fault) tokens told = absurd (cc)

pub tree_is_legal : (named : Names) (words : List (List ℕ)) (tokens : List Token) → tree_in named words ≡ Ok tokens → are_legal words ≡ true
tree_is_legal named [] tokens told = refl
tree_is_legal named (word ∷ words) tokens told =
    let read = unjudged (tokens_in named 0 (word ∷ words)) tokens told in
    tokens_are_legal named 0 (word ∷ words) read.0 read.1
