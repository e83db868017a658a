-- Two names with a dot between them.
use Rattle.std.proofs.Common.{◌≡◌, ◌∙◌, refl, sym, ap, subst, ℕ, Bool, true, false, not, ◌||◌, List, ◌∷◌, ◌++◌, append_assoc, codes, Some, ◌==◌}
use Rattle.std.specs.List.{list_all}
use Rattle.std.proofs.lemmas.Bool.{and_from, and_right, or_left, or_parts}
use Rattle.std.proofs.lemmas.List.Folds.{list_all-append}
use Rattle.petri_atom.specs.Name.{is_letter, is_letter_or_digit, is_same_text}
use Rattle.petri_atom.proofs.Fitting.{all_weaker}
use Rattle.plant_words.specs.Lines.{is_legal_byte, is_legal_line}
use Rattle.plant_words.specs.Splits.{sides_in}
use Rattle.plant_words.specs.Words.{is_blank, is_filled}
use Rattle.read_back.proofs.Words.{is_one_word, two_sides}
use Rattle.read_back.proofs.Bytes.{none_is, none_blank, begins_by, begins_filled, begins_more, not_all, byte_or_is_legal, name_is_legal, IsOfName}
use Rattle.read_back.proofs.ExpressionWords.{IsPlain}

-- as it is written
abbrev pub dotted : List ℕ → List ℕ → List ℕ
dotted first second = first ++ codes "." ++ second

-- a byte of such a word
abbrev pub is_dotted_byte : ℕ → Bool
is_dotted_byte byte = is_letter_or_digit byte || byte == 46

-- a name alone is no operator
pub plain_name : (text : List ℕ) → IsOfName text → IsPlain text
plain_name text name =
    let most = or_parts _ (is_same_text text (codes "max")) name.free in
    let least = or_parts _ (is_same_text text (codes "min")) most.0 in
    record { begins = name.begins; least = least.1; most = most.1; legal = name_is_legal text name }

module _ (first second : List ℕ) (one : IsOfName first) (other : IsOfName second) where
  -- with the dot before the second name
  abbrev joined : List ℕ
  joined = first ++ 46 ∷ second

  joined_is : dotted first second ≡ joined
  joined_is = append_assoc first (codes ".") second

  weaker : (bytes : List ℕ) → list_all is_letter_or_digit bytes ≡ true → list_all is_dotted_byte bytes ≡ true
  weaker bytes all = all_weaker is_letter_or_digit is_dotted_byte (λ byte passes. or_left (is_letter_or_digit byte) (byte == 46) passes) bytes all

  joined_bytes : list_all is_dotted_byte joined ≡ true
  joined_bytes =
      list_all-append is_dotted_byte first (46 ∷ second)
      ∙ and_from (list_all is_dotted_byte first) (list_all is_dotted_byte (46 ∷ second)) (weaker first one.bytes) (weaker second other.bytes)

  pub dotted_bytes : list_all is_dotted_byte (dotted first second) ≡ true
  dotted_bytes = ap (list_all is_dotted_byte) joined_is ∙ joined_bytes

  joined_begins : begins_by is_letter joined ≡ true
  joined_begins = begins_more is_letter first (46 ∷ second) one.begins

  pub dotted_begins : begins_by is_letter (dotted first second) ≡ true
  dotted_begins = ap (begins_by is_letter) joined_is ∙ joined_begins

  -- it is one word
  pub dotted_is_one_word : is_one_word (dotted first second) ≡ true
  dotted_is_one_word =
      and_from (is_filled (dotted first second)) (list_all (λ byte. not (is_blank byte)) (dotted first second))
      (begins_filled is_letter (dotted first second) dotted_begins) (none_blank is_dotted_byte (dotted first second) dotted_bytes refl refl)

  -- it may stand in a text
  pub dotted_is_legal : is_legal_line (dotted first second) ≡ true
  dotted_is_legal = all_weaker is_dotted_byte is_legal_byte (byte_or_is_legal 46 refl) (dotted first second) dotted_bytes

  -- and is no operator
  not_a_name : list_all is_letter_or_digit joined ≡ false
  not_a_name = list_all-append is_letter_or_digit first (46 ∷ second) ∙ and_right (list_all is_letter_or_digit first) (list_all is_letter_or_digit (46 ∷ second)) refl

  pub plain_dotted : IsPlain (dotted first second)
  plain_dotted =
      subst IsPlain (sym joined_is)
      (record {
        begins = joined_begins;
        least = not_all is_letter_or_digit joined (codes "min") not_a_name refl;
        most = not_all is_letter_or_digit joined (codes "max") not_a_name refl;
        legal = all_weaker is_dotted_byte is_legal_byte (byte_or_is_legal 46 refl) joined joined_bytes;
      })

  -- its sides are the names
  pub dotted_sides : sides_in 46 (dotted first second) ≡ Some (first, second)
  dotted_sides =
      ap (sides_in 46) joined_is
      ∙ two_sides 46 first second (none_is is_letter_or_digit 46 first one.bytes refl) (none_is is_letter_or_digit 46 second other.bytes refl)
      (begins_filled is_letter first one.begins) (begins_filled is_letter second other.begins)
