-- The parts of an expression that is written as in other languages, where signs and brackets need no spaces.
use Rattle.std.specs.Prelude.{ℕ, Bool, not, ◌&&◌, ◌||◌, ◌==◌, if◌then◌else◌, List, [], ◌∷◌, ◌++◌, map, take, Option, codes}
use Rattle.petri_atom.specs.Name.{is_same_text}
use Rattle.plant_words.specs.Numbers.{is_numeric}
use Rattle.plant_words.specs.Words.{is_filled}
use Rattle.shown_fault.specs.Names.{is_among}
use Rattle.shown_fault.specs.Table.{row_of, text_of}
use Rattle.shown_fault.specs.declared.tokens.Class.{Class}
use Rattle.shown_fault.specs.declared.tokens.Class.TheVariants.{Name, Sign, Bracket}
use Rattle.shown_fault.specs.declared.tokens.TheConstants.{SIGN_BYTES, BRACKETS, PLAIN, LEVELS}

-- a round bracket or a comma
abbrev pub is_bracket : List ℕ → Bool
is_bracket word = is_among (map (λ bracket. bracket.now) BRACKETS) word

-- the first of the bytes is a digit
abbrev pub begins_with_digit : List ℕ → Bool
begins_with_digit bytes = is_numeric (take 1 bytes)

-- the class of a byte that stands before these: a minus (45) before a digit belongs to a number
abbrev pub class_of : ℕ → List ℕ → Class
class_of byte after =
    if is_bracket (byte ∷ []) then Bracket
    else if is_among (map (λ sign. sign.now) SIGN_BYTES) (byte ∷ []) || (byte == 45 && not (begins_with_digit after)) then Sign
    else Name

-- what stands between two bytes of these classes
abbrev pub gap : Class → Class → List ℕ
gap Name Name = codes ""
gap Sign Sign = codes ""
gap before after = codes " "

-- a text after a byte of this class, with spaces round its operators, brackets and commas
abbrev pub widened : Class → List ℕ → List ℕ
widened before [] = []
widened before (byte ∷ bytes) = gap before (class_of byte bytes) ++ byte ∷ widened (class_of byte bytes) bytes

-- the word that plant texts have for this one
unfoldable pub plain : List ℕ → List ℕ
plain word =
    if is_filled (text_of (map (λ row. (row.0.now, row.1.now)) PLAIN) word) then text_of (map (λ row. (row.0.now, row.1.now)) PLAIN) word
    else word

-- the operands of the operator have the other order in plant texts
unfoldable pub is_turned : List ℕ → Bool
is_turned word = is_same_text word (codes ">") || is_same_text word (codes ">=")

-- how tightly the operator binds, if it stands between its operands
unfoldable pub level_of : List ℕ → Option ℕ
level_of word = row_of (map (λ row. (row.0.now, row.1)) LEVELS) (plain word)
