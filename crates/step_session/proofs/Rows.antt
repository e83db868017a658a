-- Worked sessions over the sample plant, computed from the definitions.
use Rattle.std.proofs.Common.{◌≡◌, refl, true, [], ◌∷◌, ◌++◌, codes}
use Rattle.std.specs.Fmt.{digits}
use Rattle.std.specs.Int.{int_wrap}
use Rattle.petri_atom.specs.Local.{set_below, moved}
use Rattle.priority_filter.specs.Decided.{is_overruled, is_below}
use Rattle.run_text.specs.Picks.{counted_picks}
use Rattle.run_text.proofs.RunRows.{sample}
use Rattle.step_session.specs.Answers.{no_choice_text, saving_text}
use Rattle.step_session.specs.Behind.{session_behind}
use Rattle.step_session.specs.Command.{command_in, fires_named, fires_random, fires_until, fires, left_over, mistaken, no_awaited, no_command, no_count, no_file, no_fired, no_number, quits, saves_to, shows, takes_back, tells, tells_of}
use Rattle.step_session.specs.Mistakes.{mistake_text, too_long_text}
use Rattle.step_session.specs.Numbers.{several_text}
use Rattle.step_session.specs.Session.{first_session}
use Rattle.step_session.specs.declared.mark.Mark.TheVariants.{Prompt, End, Nothing}
use Rattle.step_session.specs.Transcript.{session_text, transcript_of}

-- ---- what lines ask for

numbers : command_in (codes " 007 ") ≡ fires 7
numbers = refl

past_64_bits : command_in (codes "18446744073709551616") ≡ mistaken (no_number (codes "18446744073709551616"))
past_64_bits = refl

below_0 : command_in (codes "-1") ≡ mistaken (no_number (codes "-1"))
below_0 = refl

nothing_asked : command_in [] ≡ shows
nothing_asked = refl

state_asked : command_in (codes "state") ≡ shows
state_asked = refl

back_asked : command_in (codes "back") ≡ takes_back
back_asked = refl

random_asked : command_in (codes "random 3") ≡ fires_random 3
random_asked = refl

random_of_nothing : command_in (codes "random") ≡ mistaken no_count
random_of_nothing = refl

random_of_a_word : command_in (codes "random x") ≡ mistaken (no_number (codes "x"))
random_of_a_word = refl

fire_asked : command_in (codes "fire tick") ≡ fires_named (codes "tick")
fire_asked = refl

fire_of_nothing : command_in (codes "fire") ≡ mistaken no_fired
fire_of_nothing = refl

fire_of_two : command_in (codes "fire tick send") ≡ mistaken (left_over (codes "send"))
fire_of_two = refl

until_asked : command_in (codes "until tick") ≡ fires_until (codes "tick") 1_000_000
until_asked = refl

until_with_a_limit : command_in (codes "until tick 5") ≡ fires_until (codes "tick") 5
until_with_a_limit = refl

until_of_nothing : command_in (codes "until") ≡ mistaken no_awaited
until_of_nothing = refl

until_of_a_word : command_in (codes "until tick x") ≡ mistaken (no_number (codes "x"))
until_of_a_word = refl

why_all : command_in (codes "why") ≡ tells
why_all = refl

why_one : command_in (codes "why tick") ≡ tells_of (codes "tick")
why_one = refl

why_two : command_in (codes "why tick send") ≡ mistaken (left_over (codes "send"))
why_two = refl

save_asked : command_in (codes "save a.txt") ≡ saves_to (codes "a.txt")
save_asked = refl

save_nowhere : command_in (codes "save") ≡ mistaken no_file
save_nowhere = refl

two_numbers : command_in (codes "0 1") ≡ mistaken (left_over (codes "1"))
two_numbers = refl

no_such_command : command_in (codes "foo") ≡ mistaken (no_command (codes "foo"))
no_such_command = refl

quit_asked : command_in (codes "quit") ≡ quits
quit_asked = refl

-- ---- what is said of them

none_of_one : no_choice_text 7 1 ≡ codes "no choice 7: there is 1 choice (0)\n"
unfolding digits
none_of_one = refl

none_of_none : no_choice_text 0 0 ≡ codes "no choice 0: nothing can be fired\n"
unfolding digits
none_of_none = refl

-- a byte that no terminal is to take for a command is told by its number
shown_by_its_number : mistake_text (no_command (27 ∷ codes "[2J")) ≡ codes "'\\x1b[2J' is no command: help lists them\n"
shown_by_its_number = refl

two_choices : several_text (codes "send") 3 (4 ∷ []) ≡ codes "send has 2 choices: 3, 4\n"
unfolding digits
two_choices = refl

longer : too_long_text ≡ codes "the line has more than 1024 bytes\n"
unfolding digits
longer = refl

three_saved : saving_text 3 true ≡ codes "saved 3 interactions to "
unfolding digits
three_saved = refl

-- ---- sessions

-- a program sends tick, send, back; a number that is not there, and a word that is no command
stepped_by_hand : session_text sample [] End first_session (codes "0" ∷ codes "1" ∷ codes "back" ∷ codes "7" ∷ codes "foo" ∷ []) []
    ≡ codes "state A [s] n=0\nstate B [s] m=0\n0 tick A.t/0\n1 send A.t/0 B.u/0\nend\n" ++
    codes "1 tick A.t/0\nstate A [s] n=1\nstate B [s] m=0\n0 tick A.t/0\n1 send A.t/0 B.u/0\nend\n" ++
    codes "2 send A.t/0 B.u/0\nstate A [s] n=2\nstate B [s] m=1\n0 tick A.t/0\n1 send A.t/0 B.u/0\nend\n" ++
    codes "state A [s] n=1\nstate B [s] m=0\n0 tick A.t/0\n1 send A.t/0 B.u/0\nend\n" ++
    codes "no choice 7: there are 2 choices (0 to 1)\nend\n" ++
    codes "'foo' is no command: help lists them\nend\n"
unfolding sample digits moved set_below int_wrap is_overruled is_below
stepped_by_hand = refl

-- at a terminal: send is fired and saved, and what stands after `quit` is not read
saved_at_a_terminal : transcript_of sample [] Prompt first_session (codes "1" ∷ codes "save a.txt" ∷ codes "quit" ∷ codes "0" ∷ []) (true ∷ [])
    ≡ record {
      text =
          codes "state A [s] n=0\nstate B [s] m=0\n0 tick A.t/0\n1 send A.t/0 B.u/0\n" ++
          codes "> 1 send A.t/0 B.u/0\nstate A [s] n=1\nstate B [s] m=0\n0 tick A.t/0\n1 send A.t/0 B.u/0\n" ++
          codes "> saved 1 interaction to a.txt\n> ";
      savings = record { path = codes "a.txt"; text = codes "send A.t/0 B.u/0\n"; said = true } ∷ [];
    }
unfolding sample digits moved set_below int_wrap is_overruled is_below
saved_at_a_terminal = refl

-- the random picks go on from one command to the next: the first three of the seed 1 are odd, and each takes send; the input ends after a prompt
random_goes_on : session_text sample [] Prompt first_session (codes "random 2" ∷ codes "random 1" ∷ []) []
    ≡ codes "state A [s] n=0\nstate B [s] m=0\n0 tick A.t/0\n1 send A.t/0 B.u/0\n" ++
    codes "> 1 send A.t/0 B.u/0\n2 send A.t/0 B.u/0\nstate A [s] n=2\nstate B [s] m=1\n0 tick A.t/0\n1 send A.t/0 B.u/0\n" ++
    codes "> 3 send A.t/0 B.u/0\nstate A [s] n=3\nstate B [s] m=2\n0 tick A.t/0\n1 send A.t/0 B.u/0\n" ++
    codes "> \n"
unfolding sample digits moved set_below int_wrap is_overruled is_below
random_goes_on = refl

-- nothing is fired yet, and what can be fired
nothing_to_take_back : session_text sample [] Nothing first_session (codes "back" ∷ codes "why send" ∷ codes "why xyz" ∷ []) []
    ≡ codes "state A [s] n=0\nstate B [s] m=0\n0 tick A.t/0\n1 send A.t/0 B.u/0\n" ++
    codes "nothing is fired yet\nsend: can be fired\n'xyz' is no connector of the plant\n"
unfolding sample digits moved set_below int_wrap is_overruled is_below
nothing_to_take_back = refl

-- what a connector's name fires, and until when: send has one choice, and can be fired at once
fired_by_name : session_text sample [] End first_session (codes "fire send" ∷ codes "until send 2" ∷ codes "fire xyz" ∷ codes "quit" ∷ []) []
    ≡ codes "state A [s] n=0\nstate B [s] m=0\n0 tick A.t/0\n1 send A.t/0 B.u/0\nend\n" ++
    codes "1 send A.t/0 B.u/0\nstate A [s] n=1\nstate B [s] m=0\n0 tick A.t/0\n1 send A.t/0 B.u/0\nend\n" ++
    codes "state A [s] n=1\nstate B [s] m=0\n0 tick A.t/0\n1 send A.t/0 B.u/0\nsend: can be fired\nend\n" ++
    codes "'xyz' is no connector of the plant\nend\n" ++
    codes "end\n"
unfolding sample digits moved set_below int_wrap is_overruled is_below
fired_by_name = refl

-- behind the picks 0 and 1: firings are numbered on from theirs, and theirs are taken back too
begun_behind_picks : session_text sample [] End (session_behind sample (counted_picks (0 ∷ 1 ∷ []))) (codes "0" ∷ codes "back" ∷ codes "back" ∷ []) []
    ≡ codes "state A [s] n=2\nstate B [s] m=1\n0 tick A.t/0\n1 send A.t/0 B.u/0\nend\n" ++
    codes "3 tick A.t/0\nstate A [s] n=3\nstate B [s] m=1\n0 tick A.t/0\n1 send A.t/0 B.u/0\nend\n" ++
    codes "state A [s] n=2\nstate B [s] m=1\n0 tick A.t/0\n1 send A.t/0 B.u/0\nend\n" ++
    codes "state A [s] n=1\nstate B [s] m=0\n0 tick A.t/0\n1 send A.t/0 B.u/0\nend\n"
unfolding sample digits moved set_below int_wrap is_overruled is_below
begun_behind_picks = refl
