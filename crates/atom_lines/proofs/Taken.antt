-- What one step of reading the line of an atom makes of the words that were left.
use Rattle.std.proofs.Common.{◌≡◌, ◌∙◌, refl, sym, ap, ℕ, ◌<◌, ◌≤◌, Bool, true, false, ◌||◌, List, [], ◌∷◌, length, get_or, drop, Option, Some, None, MatchOption, codes}
use Rattle.std.specs.Prelude.{slice_get}
use Rattle.std.specs.Option.{option_map_or}
use Rattle.std.proofs.lemmas.Option.{slice_get_read, slice_get_past}
use Rattle.petri_atom.specs.Name.{is_same_text}
use Rattle.petri_atom.specs.declared.parts.Variable.{Variable}
use Rattle.atom_lines.specs.Lookup.{is_named}
use Rattle.atom_lines.specs.Transitions.{ends_places}

second_of : (a b c : Bool) → b ≡ true → (a || b || c) ≡ true
second_of true b c is = refl
second_of false b c is = ap (λ x. x || c) is

third_of : (a b c : Bool) → c ≡ true → (a || b || c) ≡ true
third_of true b c is = refl
third_of false true c is = refl
third_of false false c is = is

none_of : (a b c : Bool) → a ≡ false → b ≡ false → c ≡ false → (a || b || c) ≡ false
none_of true b c first second third = first
none_of false true c first second third = second
none_of false false c first second third = third

-- a list of places ends at `to`, at `when` and at `do`, and at no other word
module _ (word : List ℕ) (words : List (List ℕ)) (taken : words ≡ word ∷ drop 1 words) where
  pub ends_at_to : is_same_text word (codes "to") ≡ true → ends_places words ≡ true
  ends_at_to is = ap ends_places taken ∙ ap (λ b. b || is_same_text word (codes "when") || is_same_text word (codes "do")) is

  pub ends_at_when : is_same_text word (codes "when") ≡ true → ends_places words ≡ true
  ends_at_when is = ap ends_places taken ∙ second_of (is_same_text word (codes "to")) (is_same_text word (codes "when")) (is_same_text word (codes "do")) is

  pub ends_at_do : is_same_text word (codes "do") ≡ true → ends_places words ≡ true
  ends_at_do is = ap ends_places taken ∙ third_of (is_same_text word (codes "to")) (is_same_text word (codes "when")) (is_same_text word (codes "do")) is

  pub ends_at_none : is_same_text word (codes "to") ≡ false → is_same_text word (codes "when") ≡ false → is_same_text word (codes "do") ≡ false → ends_places words ≡ false
  ends_at_none first second third = ap ends_places taken ∙ none_of (is_same_text word (codes "to")) (is_same_text word (codes "when")) (is_same_text word (codes "do")) first second third

-- what holds where nothing is there
pub at_none : {W : Type 0} (first : Option W) (Nothing : Type 0) (Behind : W → Type 0) → first ≡ None → Nothing → MatchOption first Nothing Behind
at_none None Nothing Behind is holds = holds
at_none (Some word) Nothing Behind is holds = absurd (cc)

-- what was taken after a look at the next word is that word
module _ {W : Type 0} (text : W → List ℕ) (before words rest : List (List ℕ)) (word : List ℕ) (kept : before ≡ words) (next : words ≡ word ∷ drop 1 words) where
  pub taken_after : (first : Option W) → MatchOption first (before ≡ []) (λ w. before ≡ text w ∷ rest) → MatchOption first (rest ≡ words) (λ w. words ≡ text w ∷ rest)
  taken_after None none = absurd (cc)
  taken_after (Some w) taken = sym kept ∙ taken

  pub goes_after : (first : Option W) (ends : Bool) → ends ≡ false → MatchOption first (before ≡ []) (λ w. before ≡ text w ∷ rest) → MatchOption first (ends ≡ true) (λ w. ends ≡ false)
  goes_after None ends goes none = absurd (cc)
  goes_after (Some w) ends goes taken = goes

-- the variable with the number has the name where its own is the same
pub named_by : (variables : List Variable) (name : List ℕ) (number place : ℕ) (v : Variable) → place ≡ number → place < length variables → v ≡ get_or variables place v → is_same_text v.name name ≡ is_named variables name number
named_by variables name number place v same inside read =
    sym (ap (λ o. option_map_or (λ w. is_same_text w.name name) o false) (ap (slice_get variables) (sym same) ∙ slice_get_read variables (length variables) place v refl inside read))

-- and none has it past the last
pub named_past : (variables : List Variable) (name : List ℕ) (number place : ℕ) → place ≡ number → length variables ≤ place → false ≡ is_named variables name number
named_past variables name number place same past =
    sym (ap (λ (o : Option Variable). option_map_or (λ w. is_same_text w.name name) o false) (ap (slice_get variables) (sym same) ∙ slice_get_past variables place past))
