-- Words as they are shown, by their definition.
use Rattle.std.proofs.Common.{◌≡◌, refl, [], ◌∷◌, ◌++◌, codes, replicate}
use Rattle.run_text.specs.Message.{misread_message}
use Rattle.run_text.specs.ShownWord.{shown_word}
use Rattle.run_text.specs.declared.pick.Misread.TheVariants.{UnknownConnector, UnknownMove}
use Rattle.run_text.specs.declared.shown_word.TheConstants.{MOST_SHOWN}

nothing : shown_word [] ≡ []
nothing = refl

a_name : shown_word (codes "A.t/0") ≡ codes "A.t/0"
a_name = refl

-- the bytes 31, 127, 13 and those of a letter that is no ASCII; the space and `~` are the ends of what is printable
other_bytes : shown_word (31 ∷ codes " ~" ++ 127 ∷ 13 ∷ 195 ∷ 164 ∷ []) ≡ codes "? ~????"
other_bytes = refl

most_bytes_shown : MOST_SHOWN ≡ 72
most_bytes_shown = refl

the_longest_whole : shown_word (replicate 72 97) ≡ replicate 72 97
the_longest_whole = refl

one_byte_more : shown_word (replicate 73 97) ≡ replicate 72 97 ++ codes ".."
one_byte_more = refl

-- ---- what is said of them

no_connector : misread_message (UnknownConnector (shown_word (codes "tock"))) ≡ codes "'tock' is no connector, and no number within 64 bits that stands alone"
no_connector = refl

no_move : misread_message (UnknownMove (shown_word (codes "A.t/1"))) ≡ codes "'A.t/1' is no transition of the plant: ATOM.PORT/NUMBER is wanted"
no_move = refl
