-- What is wrong, beside the mark.
use Rattle.std.specs.Prelude.{ℕ, ◌==◌, Bool, not, ◌&&◌, if◌then◌else◌, List, [], ◌∷◌, length, drop, nat_eq, nat_le, codes}
use Rattle.std.specs.List.{starts_with}
use Rattle.std.specs.Option.{option_map_or}
use Rattle.plant_words.specs.Words.{begins_with, is_filled, words_of}
use Rattle.plant_words.specs.Numbers.{is_numeric}
use Rattle.plant_words.specs.Splits.{named_mask_in}
use Rattle.plant_words.specs.declared.numbers.TheConstants.{MAX_DIGITS}
use Rattle.plant_text.specs.Fault.{message_of}
use Rattle.plant_text.specs.declared.fault.Fault.{Fault}
use Rattle.plant_text.specs.declared.fault.Fault.TheVariants.{NotAscii, BadNumber}
use Rattle.shown_fault.specs.Shown.{shown, joined}
use Rattle.shown_fault.specs.Wanted.{wanted_in}
use Rattle.shown_fault.specs.declared.message.TheConstants.{IMAGE_BEGIN, IMAGE_TEXT}
use Rattle.shown_fault.specs.declared.wanted.Wanted.{Wanted}
use Rattle.shown_fault.specs.declared.wanted.Wanted.TheVariants.{Side}

-- the text begins with the three bytes EF BB BF that some editors put before a text
abbrev pub is_byte_order_mark : ℕ → List ℕ → List ℕ → Bool
is_byte_order_mark number line front =
    number == 1 && (not (is_filled front) && starts_with nat_eq line (239 ∷ 187 ∷ 191 ∷ []))

-- the bytes begin as an image does
abbrev pub begins_as_image : List ℕ → Bool
begins_as_image bytes = starts_with nat_eq bytes IMAGE_BEGIN

-- why a byte may not stand in a text
abbrev pub byte_message : List ℕ → List ℕ
byte_message [] = joined (codes "the byte " ∷ codes "" ∷ codes " is not ASCII" ∷ [])
byte_message (byte ∷ bytes) =
    if byte == 13 then joined (codes "a carriage return may only stand before the end of a line" ∷ [])
    else if nat_le byte 127 then joined (codes "the control byte " ∷ shown (byte ∷ bytes) ∷ codes " may not stand in a text" ∷ [])
    else joined (codes "the byte " ∷ shown (byte ∷ bytes) ∷ codes " is not ASCII" ∷ [])

-- why a word is no mask
abbrev pub mask_text : List ℕ → List ℕ
mask_text mask =
    if is_numeric mask && not (begins_with 45 mask) then codes "a mask is within 64 unsigned bits" else codes "a mask is digits alone"

-- a word has no more digits than a number may have
abbrev pub has_few_digits : List ℕ → Bool
has_few_digits word = nat_le (length (if begins_with 45 word then drop 1 word else word)) MAX_DIGITS

-- why a word is no number of the plant
abbrev pub integer_text : List ℕ → List ℕ
integer_text word =
    if not (is_numeric word) then codes "a number is digits alone, with '-' before a negative one"
    else if has_few_digits word then codes "a number is within 64 signed bits"
    else codes "a number has at most 19 digits"

-- why a word is no number, where this has to stand
abbrev pub number_text : Wanted → List ℕ → List ℕ
number_text Side word = option_map_or (λ parts. mask_text parts.1) (named_mask_in word) (mask_text word)
number_text wanted word = integer_text word

-- what is wrong with a line of this number, after this part of it; of a byte and of a number more is said than by the fault alone
abbrev pub message : Fault → ℕ → List ℕ → List ℕ → List ℕ → List ℕ
message NotAscii number line front word =
    if is_byte_order_mark number line front then joined (codes "the text begins with a byte order mark: save it as plain ASCII" ∷ [])
    else if number == 1 && (not (is_filled front) && begins_as_image line) then joined (IMAGE_TEXT.now ∷ [])
    else byte_message word
message BadNumber number line front word = joined (number_text (wanted_in (words_of front)) word ∷ [])
message fault number line front word = joined (message_of fault ∷ [])
