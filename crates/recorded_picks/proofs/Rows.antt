-- Lines and files of picks for the sample plant, by their definitions.
use Rattle.std.proofs.Common.{◌≡◌, refl, [], ◌∷◌, ◌++◌, codes, ℕ, replicate}
use Rattle.std.specs.Prelude.{Some, None}
use Rattle.std.specs.Fmt.{digits}
use Rattle.run_text.specs.Line.{interaction_line}
use Rattle.run_text.specs.Picks.{PickDefinition, TakeDefinition, counted, numbered, named, misread}
use Rattle.run_text.specs.declared.pick.Misread.TheVariants.{TooLong, UnknownConnector, UnknownMove, NoInteraction}
use Rattle.run_text.specs.declared.pick.Numbers.TheVariants.{Modulo, Strict}
use Rattle.run_text.proofs.RunRows.{sample, sent, ticked}
use Rattle.recorded_picks.specs.Files.{picks_in}
use Rattle.recorded_picks.specs.Lines.{said_in}
use Rattle.recorded_picks.specs.declared.kept_line.TheConstants.{MAX_PICK_LINE}

abbrev pick : ℕ → TakeDefinition → PickDefinition
pick place take = record { place = place; take = take }

-- ---- a file

-- a number, a fired line, a comment, a connector that the plant has not, and a participant that is no transition
a_file : picks_in Modulo sample (codes "0\ntick A.t/0\n# a comment\nstop A.t/0\nsend A.t/0 B.u/1\n")
    ≡ pick 1 (counted 0) ∷ pick 2 (named ticked) ∷ pick 4 (misread (UnknownConnector (codes "stop"))) ∷ pick 5 (misread (UnknownMove (codes "B.u/1"))) ∷ []
unfolding sample
a_file = refl

-- lines without words count, and the last line may lack its end
lines_that_count : picks_in Strict sample (codes "\n  \n1\nsend A.t/0 B.u/0") ≡ pick 3 (numbered 1) ∷ pick 4 (named sent) ∷ []
unfolding sample
lines_that_count = refl

no_pick_in_an_empty_file : picks_in Modulo sample [] ≡ []
no_pick_in_an_empty_file = refl

-- a carriage return before a line feed belongs to the line's end, and to the last word where none follows
carriage_returns : picks_in Modulo sample (codes "tick A.t/0" ++ 13 ∷ 10 ∷ codes "tick A.t/0" ++ 13 ∷ []) ≡ pick 1 (named ticked) ∷ pick 2 (misread (UnknownMove (codes "A.t/0?"))) ∷ []
unfolding sample
carriage_returns = refl

-- ---- a line

-- what a trace saves of a choice is read as the choice
a_saved_line : interaction_line sample sent ≡ codes "send A.t/0 B.u/0"
unfolding sample digits
a_saved_line = refl

spaces_and_tabs : said_in Modulo sample (9 ∷ 32 ∷ codes "send  A.t/0" ++ 9 ∷ codes "B.u/0 ") ≡ Some (named sent)
unfolding sample
spaces_and_tabs = refl

zeros_may_stand_first : said_in Strict sample (codes "007") ≡ Some (numbered 7)
zeros_may_stand_first = refl

zeros_of_a_transition : said_in Modulo sample (codes "tick A.t/00") ≡ Some (named ticked)
unfolding sample
zeros_of_a_transition = refl

the_greatest_number : said_in Strict sample (codes "18446744073709551615") ≡ Some (numbered 18446744073709551615)
the_greatest_number = refl

past_the_greatest_number : said_in Strict sample (codes "18446744073709551616") ≡ Some (misread (UnknownConnector (codes "18446744073709551616")))
unfolding sample
past_the_greatest_number = refl

-- a fired line with its number is no pick
a_numbered_line : said_in Modulo sample (codes "1 tick A.t/0") ≡ Some (misread (UnknownConnector (codes "1")))
unfolding sample
a_numbered_line = refl

-- a port that the transition is not of, a transition that is not there, an atom that is not there, and parts that are missing
a_wrong_port : said_in Modulo sample (codes "tick A.u/0") ≡ Some (misread (UnknownMove (codes "A.u/0")))
unfolding sample
a_wrong_port = refl

a_wrong_transition : said_in Modulo sample (codes "tick A.t/1") ≡ Some (misread (UnknownMove (codes "A.t/1")))
unfolding sample
a_wrong_transition = refl

a_wrong_atom : said_in Modulo sample (codes "tick C.t/0") ≡ Some (misread (UnknownMove (codes "C.t/0")))
unfolding sample
a_wrong_atom = refl

no_number : said_in Modulo sample (codes "tick A.t") ≡ Some (misread (UnknownMove (codes "A.t")))
unfolding sample
no_number = refl

two_slashes : said_in Modulo sample (codes "tick A.t/0/0") ≡ Some (misread (UnknownMove (codes "A.t/0/0")))
unfolding sample
two_slashes = refl

-- participants of another connector, in another order, twice, and none
too_few_participants : said_in Modulo sample (codes "send A.t/0") ≡ Some (misread NoInteraction)
unfolding sample
too_few_participants = refl

another_order : said_in Modulo sample (codes "send B.u/0 A.t/0") ≡ Some (misread NoInteraction)
unfolding sample
another_order = refl

one_twice : said_in Modulo sample (codes "tick A.t/0 A.t/0") ≡ Some (misread NoInteraction)
unfolding sample
one_twice = refl

no_participant : said_in Modulo sample (codes "tick") ≡ Some (misread NoInteraction)
unfolding sample
no_participant = refl

-- the first fault from the left is told, and a missing interaction last
first_the_connector : said_in Modulo sample (codes "stop C.t/0") ≡ Some (misread (UnknownConnector (codes "stop")))
unfolding sample
first_the_connector = refl

then_a_participant : said_in Modulo sample (codes "tick B.u/0 C.t/0") ≡ Some (misread (UnknownMove (codes "C.t/0")))
unfolding sample
then_a_participant = refl

-- of two participants that are none the first is told
the_first_participant : said_in Modulo sample (codes "tick X.t/0 C.t/0") ≡ Some (misread (UnknownMove (codes "X.t/0")))
unfolding sample
the_first_participant = refl

-- of a long word the first 72 bytes are told
a_long_word : said_in Modulo sample (replicate 100 122) ≡ Some (misread (UnknownConnector (replicate 72 122 ++ codes "..")))
unfolding sample
a_long_word = refl

-- a line of 2,049 bytes is too long, whatever it says, but a comment is one
most_bytes_of_a_line : MAX_PICK_LINE ≡ 2048
most_bytes_of_a_line = refl

one_byte_more : said_in Modulo sample (codes "0" ++ replicate 2048 32) ≡ Some (misread TooLong)
one_byte_more = refl

one_byte_less : said_in Modulo sample (codes "0" ++ replicate 2047 32) ≡ Some (counted 0)
one_byte_less = refl

a_long_comment : said_in Modulo sample (codes "#" ++ replicate 2048 32) ≡ None
a_long_comment = refl
