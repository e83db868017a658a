-- Worked texts and their faults, as computed facts.
use Rattle.std.proofs.Common.{◌≡◌, refl, ℕ, [], ◌∷◌, ◌++◌, codes}
use Rattle.priority_filter.specs.Decided.{order_fault}
use Rattle.plant_text.specs.Fault.{of_no_line}
use Rattle.plant_text.specs.declared.fault.Fault.{Fault}
use Rattle.plant_text.specs.declared.fault.Fault.TheVariants.{UnknownWord, BadName, UnknownName, Shape, NoAtom}
use Rattle.plant_text.specs.declared.fault.PlantFault.{PlantFault}
use Rattle.line_faults.specs.Blank.{without_line}
use Rattle.line_faults.specs.Faults.{fault_in, faults_in}

-- the fault of a line
abbrev at : ℕ → Fault → PlantFault
at line fault = record { line = line; fault = fault }

-- ---- blank lines

a_line_is_blank_and_its_end_stays : without_line 2 (codes "one\ntwo\nsix") ≡ codes "one\n   \nsix"
a_line_is_blank_and_its_end_stays = refl

the_last_line_is_blank_without_an_end : without_line 2 (codes "one\ntwo") ≡ codes "one\n   "
the_last_line_is_blank_without_an_end = refl

-- 13 is a carriage return
a_carriage_return_is_a_byte_of_its_line : without_line 1 (codes "one" ++ 13 ∷ codes "\ntwo") ≡ codes "    \ntwo"
a_carriage_return_is_a_byte_of_its_line = refl

no_line_has_the_number_0 : without_line 0 (codes "one\ntwo") ≡ codes "one\ntwo"
no_line_has_the_number_0 = refl

no_line_is_behind_the_last : without_line 3 (codes "one\ntwo\n") ≡ codes "one\ntwo\n"
no_line_is_behind_the_last = refl

-- ---- faults

a_text_without_faults : faults_in 20 (codes "atom A\nplace s init\n") ≡ []
unfolding faults_in fault_in order_fault
a_text_without_faults = refl

two_lines_with_a_fault : faults_in 20 (codes "atom A\nplaice s\nplace s init\nplace\n") ≡ at 2 UnknownWord ∷ at 4 Shape ∷ []
unfolding faults_in fault_in order_fault
two_lines_with_a_fault = refl

-- s* is no name, so no line declares s
a_name_that_a_line_with_a_fault_would_declare : faults_in 20 (codes "atom A\nplace s*\nport p\ntrans p from s to s") ≡ at 2 BadName ∷ at 4 UnknownName ∷ []
unfolding faults_in fault_in order_fault
a_name_that_a_line_with_a_fault_would_declare = refl

a_fault_of_no_line_is_the_last : faults_in 20 (codes "plaice s") ≡ at 1 UnknownWord ∷ of_no_line NoAtom ∷ []
unfolding faults_in fault_in
a_fault_of_no_line_is_the_last = refl

no_more_faults_than_are_looked_for : faults_in 1 (codes "plaice s\nplace s") ≡ at 1 UnknownWord ∷ []
unfolding faults_in fault_in
no_more_faults_than_are_looked_for = refl
