-- Worked examples of the definitions, as computed facts.
use Rattle.std.proofs.Common.{◌≡◌, refl, ℕ, ℤ, pos, negsuc, true, false, List, [], ◌∷◌, ◌++◌, codes}
use Rattle.std.specs.Fmt.{digits}
use Rattle.petri_atom.specs.Local.{Local}
use Rattle.restated_text.specs.Cuts.{behind_name, up_to_name}
use Rattle.restated_text.specs.Lines.{place_line, variable_line}
use Rattle.restated_text.specs.Text.{restated_text}

-- ---- cuts

behind_the_second_word : behind_name (codes " place  s\tinit ") ≡ codes "\tinit "
behind_the_second_word = refl

up_to_the_second_word : up_to_name (codes " place  s\tinit ") ≡ codes " place  s"
up_to_the_second_word = refl

-- ---- the line of a place

a_mark_comes : place_line true (codes "place s") ≡ codes "place s init"
a_mark_comes = refl

it_comes_behind_the_name : place_line true (codes " place  s  ") ≡ codes " place  s init  "
it_comes_behind_the_name = refl

a_mark_goes_with_the_blanks_before_it : place_line false (codes "place s \tinit  ") ≡ codes "place s  "
a_mark_goes_with_the_blanks_before_it = refl

a_marked_line_stays : place_line true (codes "place\ts   init ") ≡ codes "place\ts   init "
a_marked_line_stays = refl

an_unmarked_line_stays : place_line false (codes "place s\t") ≡ codes "place s\t"
an_unmarked_line_stays = refl

-- ---- the line of a variable

another_value : variable_line (negsuc 2) (codes "var  n \t007 ") ≡ codes "var  n \t-3 "
unfolding digits
another_value = refl

the_same_value_stays : variable_line (pos 7) (codes "var n 007") ≡ codes "var n 007"
unfolding digits
the_same_value_stays = refl

zero_is_zero : variable_line (pos 0) (codes "var n -0") ≡ codes "var n -0"
unfolding digits
zero_is_zero = refl

-- ---- a text

abbrev state : ℕ → List ℤ → Local
state marking values = record { marking = marking; values = values }

-- places are numbered by their atom's lines, whatever stands between, and what says the state stays
two_atoms :
    restated_text (state 1 (negsuc 2 ∷ []) ∷ state 0 (pos 0 ∷ []) ∷ [])
    (codes "atom A\nplace  s\nplace r  init \n# place s init\n\nvar n   007\n" ++ codes "atom B\nplace s init\nvar m -0")
    ≡ codes "atom A\nplace  s init\nplace r \n# place s init\n\nvar n   -3\n" ++ codes "atom B\nplace s\nvar m -0"
unfolding digits
two_atoms = refl

-- the end of each line is as it was: a carriage return and a line feed, a line feed alone, or none
abbrev ended : List ℕ → List ℕ → List ℕ
ended line rest = line ++ 13 ∷ 10 ∷ rest

line_ends :
    restated_text (state 2 [] ∷ []) (ended (codes "atom A") (ended (codes "place s init") (ended (codes "place t") [])))
    ≡ ended (codes "atom A") (ended (codes "place s") (ended (codes "place t init") []))
line_ends = refl

-- a text without parts of atoms stays, and so do parts for which there is no state
nothing_to_replace : restated_text (state 1 [] ∷ []) (codes "\n# none\nconnector c A.p\n") ≡ codes "\n# none\nconnector c A.p\n"
nothing_to_replace = refl

no_state : restated_text (state 0 [] ∷ []) (codes "atom A\nvar n 1\natom B\nplace s init") ≡ codes "atom A\nvar n 1\natom B\nplace s init"
no_state = refl
