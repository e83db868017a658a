-- Steps of reading the line of an atom that take no memory, so that none of them answers want of it.
use Rattle.std.proofs.Common.{Bool, true, false, not, ℕ, zero, suc, List, [], ◌∷◌, ◌++◌, length, drop, Ok, codes}
use Rattle.std.specs.Prelude.{nat_lt, nat_eq}
use Rattle.std.specs.List.{list_any}
use Rattle.petri_atom.specs.Definition.{AtomDefinition, UpdateDefinition}
use Rattle.petri_atom.specs.declared.parts.TheConstants.{MAX_UPDATES}
use Rattle.petri_atom.specs.declared.state.TheConstants.{MAX_EXPORTS}
use Rattle.plant_words.specs.Expressions.{expression_in}
use Rattle.plant_words.specs.Lines.{is_legal_line}
use Rattle.plant_words.specs.Numbers.{int_in}
use Rattle.plant_words.specs.Reading.{◌>>=◌, first_word, at_end}
use Rattle.atom_lines.specs.Reading.{first_number, goes_on, mark_in, value_in}
use Rattle.atom_lines.specs.Lookup.{place_number, variable_number}
use Rattle.atom_lines.specs.Rows.{export_in, exports_in}
use Rattle.atom_lines.specs.Transitions.{ends_places, place_in, places_in, places_after, expression_on, update_in, updates_from, updates_in}
use Rattle.plant_words.specs.declared.line_fault.LineFault.TheVariants.{NotAscii, BadNumber, UnknownName, Shape, Limit, Twice}
use Rattle.plant_words.proofs.Early.{TakesNone, check_takes_none, or_takes_none, then_takes_none, word_takes_none, keyword_takes_none, end_takes_none, line_takes_none, either_takes_none}

going_takes_none : (keyword : List ℕ) (words : List (List ℕ)) → TakesNone (goes_on keyword words)
going_takes_none keyword [] is = absurd (cc)
going_takes_none keyword (word ∷ words) is = then_takes_none _ _ (keyword_takes_none keyword (word ∷ words)) (λ more there. absurd (cc)) is

pub mark_takes_none : (words : List (List ℕ)) → TakesNone (mark_in words)
mark_takes_none words =
    then_takes_none (goes_on (codes "init") words) _ (going_takes_none (codes "init") words)
    (λ marked. then_takes_none (at_end (drop 1 words)) _ (end_takes_none (drop 1 words)) (λ u is. absurd (cc)))

pub value_takes_none : (words : List (List ℕ)) → TakesNone (value_in words)
value_takes_none words =
    then_takes_none (first_number words) _ (then_takes_none (first_word words) _ (word_takes_none words) (λ word. or_takes_none (int_in word) BadNumber (λ is. absurd (cc))))
    (λ first. then_takes_none (at_end (drop 1 words)) _ (end_takes_none (drop 1 words)) (λ u is. absurd (cc)))

-- the numbers of exports
export_takes_none : (a : AtomDefinition) (before word : List ℕ) → TakesNone (export_in a before word)
export_takes_none a before word =
    then_takes_none _ _ (check_takes_none (nat_lt (length before) MAX_EXPORTS) Limit (λ is. absurd (cc)))
    (λ room. then_takes_none _ _ (check_takes_none (is_legal_line word) NotAscii (λ is. absurd (cc)))
    (λ legal. then_takes_none _ _ (or_takes_none (variable_number a word) UnknownName (λ is. absurd (cc)))
    (λ number. then_takes_none _ _ (check_takes_none (not (list_any (λ k. nat_eq k number) before)) Twice (λ is. absurd (cc))) (λ new is. absurd (cc)))))

pub exports_take_none : (a : AtomDefinition) (before : List ℕ) (words : List (List ℕ)) → TakesNone (exports_in a before words)
exports_take_none a before [] is = absurd (cc)
exports_take_none a before (word ∷ words) is = then_takes_none _ _ (export_takes_none a before word) (λ number. exports_take_none a (before ++ number ∷ []) words) is

expression_takes_none : (a : AtomDefinition) (words : List (List ℕ)) → TakesNone (expression_on a words)
expression_takes_none a words = line_takes_none (expression_in (variable_number a) words)

-- the places of a list
place_takes_none : (a : AtomDefinition) (before word : List ℕ) → TakesNone (place_in a before word)
place_takes_none a before word =
    then_takes_none _ _ (check_takes_none (is_legal_line word) NotAscii (λ is. absurd (cc)))
    (λ legal. then_takes_none _ _ (or_takes_none (place_number a word) UnknownName (λ is. absurd (cc)))
    (λ place. then_takes_none _ _ (check_takes_none (not (list_any (λ k. nat_eq k place) before)) Twice (λ is. absurd (cc))) (λ new is. absurd (cc))))

places_take_none : (a : AtomDefinition) (before : List ℕ) (words : List (List ℕ)) → TakesNone (places_in a before words)
places_take_none a before [] is = absurd (cc)
places_take_none a before (word ∷ words) is =
    either_takes_none (ends_places (word ∷ words)) (Ok (before, word ∷ words)) (place_in a before word >>= λ place. places_in a (before ++ place ∷ []) words) (λ is. absurd (cc))
    (then_takes_none _ _ (place_takes_none a before word) (λ place. places_take_none a (before ++ place ∷ []) words)) is

pub places_after_take_none : (keyword : List ℕ) (a : AtomDefinition) (words : List (List ℕ)) → TakesNone (places_after keyword a words)
places_after_take_none keyword a words =
    then_takes_none _ _ (keyword_takes_none keyword words)
    (λ begun. then_takes_none _ _ (places_take_none a [] (drop 1 words))
    (λ listed. then_takes_none _ _ (check_takes_none (nat_lt 0 (length listed.0)) Shape (λ is. absurd (cc))) (λ filled is. absurd (cc))))

-- the updates of a transition
update_takes_none : (a : AtomDefinition) (words : List (List ℕ)) → TakesNone (update_in a words)
update_takes_none a words =
    then_takes_none _ _ (word_takes_none words)
    (λ word. then_takes_none _ _ (or_takes_none (variable_number a word) UnknownName (λ is. absurd (cc)))
    (λ variable. then_takes_none _ _ (keyword_takes_none (codes ":=") (drop 1 words))
    (λ assigns. then_takes_none _ _ (expression_takes_none a (drop 1 (drop 1 words))) (λ value is. absurd (cc)))))

updates_take_none : (a : AtomDefinition) (left : ℕ) (before : List UpdateDefinition) (more : Bool) (words : List (List ℕ)) → TakesNone (updates_from a left before more words)
unfolding updates_from
updates_take_none a zero before false words is = absurd (cc)
updates_take_none a (suc left) before false words is = absurd (cc)
updates_take_none a zero before true words is = absurd (cc)
updates_take_none a (suc left) before true words is =
    then_takes_none _ _ (update_takes_none a words)
    (λ update. then_takes_none _ _ (going_takes_none (codes ";") update.1) (λ more. updates_take_none a left (before ++ update.0 ∷ []) more (drop 1 update.1))) is

pub update_list_takes_none : (a : AtomDefinition) (words : List (List ℕ)) → TakesNone (updates_in a words)
update_list_takes_none a words = then_takes_none _ _ (going_takes_none (codes "do") words) (λ more. updates_take_none a MAX_UPDATES [] more (drop 1 words))
