-- Names in written order: where one stands, and one more after them.
use Rattle.std.proofs.Common.{◌≡◌, ◌∙◌, refl, sym, ap, arith, ℕ, ◌+◌, ◌≤◌, List, [], ◌∷◌, ◌++◌, map, position, None, Result, Ok, Err, if◌then◌else◌}
use Rattle.std.proofs.lemmas.List.{map-append}
use Rattle.std.proofs.lemmas.Bool.{false≢true}
use Rattle.std.specs.Prelude.{OnErr, IsOk, is_ok}
use Rattle.std.specs.Cmp.Lexicographic.{nat_list_eq_equiv}
use Rattle.indexmap.specs.IndexSet.{insert_key}
use Rattle.petri_atom.specs.Name.{is_same_text}
use Rattle.plant_words.proofs.Positions.{position_of_mapped, none-passes}

-- of keys that hold the bytes of names
module _ {K : Type 0} (bytes : K → List ℕ) where
  -- the first key with the bytes stands where the first name with them does
  pub place_of_key : (name : List ℕ) (keys : List K) → position (λ k. is_same_text name (bytes k)) keys ≡ position (λ known. is_same_text known name) (map bytes keys)
  place_of_key name keys =
      position_of_mapped bytes (λ known. is_same_text name known) keys
      ∙ (λ j. position (λ known. nat_list_eq_equiv.symm name known j) (map bytes keys))

  -- a key goes last, if no name has its bytes
  pub one_key_more : (key : K) (keys : List K) → position (λ known. is_same_text known (bytes key)) (map bytes keys) ≡ None → map bytes (insert_key (λ a b. is_same_text (bytes a) (bytes b)) keys key) ≡ map bytes keys ++ bytes key ∷ []
  one_key_more key keys none =
      ap (λ there. map bytes (if there then keys else keys ++ key ∷ [])) (none-passes (λ k. is_same_text (bytes key) (bytes k)) keys (place_of_key (bytes key) keys ∙ none))
      ∙ map-append bytes keys (key ∷ [])

-- if there is room, nothing fails for want of it
pub not_full : {A E : Type 0} (result : Result A E) (room count : ℕ) → OnErr result (room ≤ count) → count + 1 ≤ room → IsOk result
not_full (Ok done) room count full left = refl
not_full (Err fault) room count full left = absurd (omega (arith, full, left))

-- a part stands where its name does
pub place_by_name : {X : Type 0} (name_of : X → List ℕ) (parts : List X) (names : List (List ℕ)) (name : List ℕ) → names ≡ map name_of parts → position (λ known. is_same_text known name) names ≡ position (λ x. is_same_text (name_of x) name) parts
place_by_name name_of parts names name named =
    ap (λ (list : List (List ℕ)). position (λ known. is_same_text known name) list) named
    ∙ sym (position_of_mapped name_of (λ known. is_same_text known name) parts)

-- after one part more, the names are still those of the parts
pub one_name_more : {X : Type 0} (name_of : X → List ℕ) (parts more : List X) (x : X) (names grown : List (List ℕ)) (bytes : List ℕ) → names ≡ map name_of parts → grown ≡ names ++ bytes ∷ [] → bytes ≡ name_of x → more ≡ parts ++ x ∷ [] → grown ≡ map name_of more
one_name_more name_of parts more x names grown bytes named added same pushed =
    added
    ∙ ap (λ list. list ++ bytes ∷ []) named
    ∙ ap (λ name. map name_of parts ++ name ∷ []) same
    ∙ sym (map-append name_of parts (x ∷ []))
    ∙ ap (map name_of) (sym pushed)

-- a push that did not fail
pub was_pushed : {X A E : Type 0} (result : Result A E) (before after : List X) (x : X) → IsOk result → after ≡ (if is_ok result then before ++ x ∷ [] else before) → after ≡ before ++ x ∷ []
was_pushed (Ok done) before after x well is = is
was_pushed (Err fault) before after x well is = absurd (false≢true well)
