-- Worked examples of the definitions, as computed facts.
use Rattle.std.proofs.Common.{◌≡◌, refl, ℕ, List, true, false, [], ◌∷◌, ◌++◌, codes, None, Ok, Err}
use Rattle.std.specs.Fmt.{digits}
use Rattle.plant_core.specs.declared.events.Event.TheVariants.{Fire, Flush, Ask, Put, Save, Trim, Begin, Back}
use Rattle.plant_core.specs.declared.events.Happened.TheVariants as happened
use Rattle.plant_core.specs.declared.events.Returned.{Returned}
use Rattle.plant_core.specs.declared.refused.Refused.TheVariants.{Stuck, Busy, TailFull, RingFull, Spent, Away, Ahead, Stranger, NothingNew, Disk, Broken, Values}
use Rattle.petri_atom.specs.Definition.{AtomDefinition}
use Rattle.record_codec.specs.Saved.{SavedFields}
use Rattle.plant_model.specs.Plant.{PlantDefinition}
use Rattle.script_lines.specs.Script.{script_meaning, is_refused}
use Rattle.script_lines.specs.Answers.{flushed_line, front_line, happened_line, refused_line}
use Rattle.script_lines.specs.Message.{message_of}
use Rattle.plant_core.specs.Events.{has_failed}
use Rattle.script_lines.specs.declared.fault.ScriptFault.TheVariants.{Line}

-- an atom without parts
abbrev atom : List ℕ → AtomDefinition
atom name = record { name = name; places = []; variables = []; ports = []; transitions = [] }

-- a plant of the atoms A and B
abbrev two : PlantDefinition
two = record { atoms = atom (codes "A") ∷ atom (codes "B") ∷ []; wires = []; rules = [] }

-- a state of the atom with the number, which had taken part so often when the record with number 9 was the last
abbrev copied : ℕ → ℕ → SavedFields
copied number count = record { atom = number; count = count; at = 9; marking = 0; values = [] }

-- what is told of a job of the atom with the number
abbrev returned_of : ℕ → Returned
returned_of number = record { own = true; atom = number; count = 4; transition = 0; delivered = None ∷ None ∷ None ∷ None ∷ []; before = record { marking = 1; values = [] } }

-- ---- scripts

nothing_is_asked : script_meaning two [] ≡ Ok []
nothing_is_asked = refl

all_forms : script_meaning two (codes "fire 0\n\nfire\t0012 \n \tflush\n" ++ codes "fire 18446744073709551615" ++ 13 ∷ 10 ∷ codes "flush")
    ≡ Ok (Fire 0 [] ∷ Fire 12 [] ∷ Flush ∷ Fire 18446744073709551615 [] ∷ Flush ∷ [])
all_forms = refl

the_last_line_may_lack_its_line_feed : script_meaning two (codes "flush\nfire 3") ≡ Ok (Flush ∷ Fire 3 [] ∷ [])
the_last_line_may_lack_its_line_feed = refl

the_first_refused_line_is_told : script_meaning two (codes "flush\n\nfire x\nfire\n") ≡ Err 3
the_first_refused_line_is_told = refl

a_comment_is_refused : script_meaning two (codes "# one\n") ≡ Err 1
a_comment_is_refused = refl

atoms_are_asked_for_by_their_names : script_meaning two (codes "ask A\nput A\n ask\tB \nflush\nput B") ≡ Ok (Ask 0 ∷ Put 0 ∷ Ask 1 ∷ Flush ∷ Put 1 ∷ [])
atoms_are_asked_for_by_their_names = refl

states_are_saved_by_a_word_alone : script_meaning two (codes "save\n\n save\t\nsave A") ≡ Err 4
states_are_saved_by_a_word_alone = refl

a_save_is_asked_for : script_meaning two (codes "save\ntrim\n save") ≡ Ok (Save ∷ Trim ∷ Save ∷ [])
a_save_is_asked_for = refl

records_are_trimmed_by_a_word_alone : script_meaning two (codes " trim \n\ntrim\ntrim 4") ≡ Err 4
records_are_trimmed_by_a_word_alone = refl

a_trim_is_asked_for : script_meaning two (codes "trim\nflush\n\ttrim") ≡ Ok (Trim ∷ Flush ∷ Trim ∷ [])
a_trim_is_asked_for = refl

atoms_go_away_by_a_pick_and_come_back_by_their_names : script_meaning two (codes "begin 7\nback B\n begin\t0\nback A") ≡ Ok (Begin 7 [] ∷ Back 1 ∷ Begin 0 [] ∷ Back 0 ∷ [])
atoms_go_away_by_a_pick_and_come_back_by_their_names = refl

one_pick_begins_alone : is_refused two (codes "begin 1 2") ≡ true
one_pick_begins_alone = refl

a_pick_begins : is_refused two (codes "begin") ≡ true
a_pick_begins = refl

an_atom_does_not_begin : is_refused two (codes "begin A") ≡ true
an_atom_does_not_begin = refl

an_unknown_atom_does_not_come_back : is_refused two (codes "back C") ≡ true
an_unknown_atom_does_not_come_back = refl

one_atom_comes_back_alone : is_refused two (codes "back A B") ≡ true
one_atom_comes_back_alone = refl

an_unknown_atom_is_refused : script_meaning two (codes "ask A\n\nask C\nput C\n") ≡ Err 3
an_unknown_atom_is_refused = refl

an_unknown_atom_is_not_put : is_refused two (codes "put C") ≡ true
an_unknown_atom_is_not_put = refl

a_plant_without_atoms_has_none_to_ask_for : is_refused (record { atoms = []; wires = []; rules = [] }) (codes "ask A") ≡ true
a_plant_without_atoms_has_none_to_ask_for = refl

the_first_atom_of_a_name_is_meant : script_meaning (record { atoms = atom (codes "B") ∷ atom (codes "A") ∷ atom (codes "A") ∷ []; wires = []; rules = [] }) (codes "put A") ≡ Ok (Put 1 ∷ [])
the_first_atom_of_a_name_is_meant = refl

an_atom_to_ask_for_is_there : is_refused two (codes "ask") ≡ true
an_atom_to_ask_for_is_there = refl

an_atom_to_put_is_there : is_refused two (codes "put ") ≡ true
an_atom_to_put_is_there = refl

one_atom_is_asked_for_alone : is_refused two (codes "ask A B") ≡ true
one_atom_is_asked_for_alone = refl

one_atom_is_put_alone : is_refused two (codes "put A A") ≡ true
one_atom_is_put_alone = refl

a_number_is_no_name : is_refused two (codes "ask 0") ≡ true
a_number_is_no_name = refl

a_name_is_of_the_same_letters : is_refused two (codes "put a") ≡ true
a_name_is_of_the_same_letters = refl

a_name_is_whole : is_refused (record { atoms = atom (codes "AB") ∷ []; wires = []; rules = [] }) (codes "ask A") ≡ true
a_name_is_whole = refl

a_pick_is_within_64_bits : is_refused two (codes "fire 18446744073709551616") ≡ true
a_pick_is_within_64_bits = refl

a_pick_has_no_sign : is_refused two (codes "fire +1") ≡ true
a_pick_has_no_sign = refl

a_pick_is_there : is_refused two (codes "fire ") ≡ true
a_pick_is_there = refl

one_pick_alone : is_refused two (codes "fire 1 2") ≡ true
one_pick_alone = refl

flush_stands_alone : is_refused two (codes "flush 1") ≡ true
flush_stands_alone = refl

words_are_written_small : is_refused two (codes "Flush") ≡ true
words_are_written_small = refl

a_return_within_a_line_is_refused : script_meaning two (codes "flush" ++ 13 ∷ []) ≡ Err 1
a_return_within_a_line_is_refused = refl

an_illegal_byte_is_refused_in_an_empty_line_too : is_refused two (32 ∷ 0 ∷ []) ≡ true
an_illegal_byte_is_refused_in_an_empty_line_too = refl

-- ---- answers

stuck_is_told : refused_line Stuck ≡ codes "refused 1 Stuck"
unfolding digits
stuck_is_told = refl

busy_is_told : refused_line Busy ≡ codes "refused 2 Busy"
unfolding digits
busy_is_told = refl

a_full_tail_is_told : refused_line TailFull ≡ codes "refused 3 TailFull"
unfolding digits
a_full_tail_is_told = refl

a_full_ring_is_told : refused_line RingFull ≡ codes "refused 4 RingFull"
unfolding digits
a_full_ring_is_told = refl

spent_is_told : refused_line Spent ≡ codes "refused 5 Spent"
unfolding digits
spent_is_told = refl

away_is_told : refused_line (Away 63) ≡ codes "refused 6 Away(63)"
unfolding digits
away_is_told = refl

ahead_is_told : refused_line (Ahead 0) ≡ codes "refused 7 Ahead(0)"
unfolding digits
ahead_is_told = refl

a_stranger_is_told : refused_line Stranger ≡ codes "refused 8 Stranger"
unfolding digits
a_stranger_is_told = refl

nothing_new_is_told : refused_line NothingNew ≡ codes "refused 9 NothingNew"
unfolding digits
nothing_new_is_told = refl

disk_is_told : refused_line Disk ≡ codes "refused 10 Disk"
unfolding digits
disk_is_told = refl

broken_is_told : refused_line Broken ≡ codes "refused 11 Broken"
unfolding digits
broken_is_told = refl

other_values_are_told : refused_line Values ≡ codes "refused 13 Values"
unfolding digits
other_values_are_told = refl

a_flush_is_told : flushed_line 9223372036854775807 ≡ codes "flushed 9223372036854775807"
unfolding digits
a_flush_is_told = refl

a_refused_fire_is_told_whatever_its_pick : (plant : PlantDefinition) → happened_line plant (happened.Fire 5 [] (Err RingFull)) ≡ codes "refused 4 RingFull"
unfolding digits
a_refused_fire_is_told_whatever_its_pick plant = refl

a_copy_is_told : happened_line two (happened.Ask 0 (Ok (copied 0 4))) ≡ codes "asked A 4"
unfolding digits
a_copy_is_told = refl

a_stored_state_is_told : happened_line two (happened.Put (copied 1 0) (Ok 0)) ≡ codes "stored B 0"
unfolding digits
a_stored_state_is_told = refl

an_empty_hand_is_told : happened_line two (happened.Empty 1) ≡ codes "nothing B"
an_empty_hand_is_told = refl

an_atom_that_is_not_there_has_no_name : happened_line two (happened.Empty 2) ≡ codes "nothing "
an_atom_that_is_not_there_has_no_name = refl

a_save_is_told : happened_line two (happened.Save (Ok (record { number = 12; atoms = 3 }))) ≡ codes "saved 12 A B"
unfolding digits
a_save_is_told = refl

a_save_of_one_atom_is_told : happened_line two (happened.Save (Ok (record { number = 4; atoms = 2 }))) ≡ codes "saved 4 B"
unfolding digits
a_save_of_one_atom_is_told = refl

a_refused_save_is_told : happened_line two (happened.Save (Err NothingNew)) ≡ codes "refused 9 NothingNew"
unfolding digits
a_refused_save_is_told = refl

a_trim_is_told : happened_line two (happened.Trim (Ok 12)) ≡ codes "base 12"
unfolding digits
a_trim_is_told = refl

a_refused_trim_is_told : happened_line two (happened.Trim (Err NothingNew)) ≡ codes "refused 9 NothingNew"
unfolding digits
a_refused_trim_is_told = refl

a_refused_copy_is_told : happened_line two (happened.Ask 1 (Err NothingNew)) ≡ codes "refused 9 NothingNew"
unfolding digits
a_refused_copy_is_told = refl

a_refused_state_is_told : happened_line two (happened.Put (copied 1 4) (Err (Ahead 1))) ≡ codes "refused 7 Ahead(1)"
unfolding digits
a_refused_state_is_told = refl

a_refused_beginning_is_told_whatever_its_pick : (plant : PlantDefinition) → happened_line plant (happened.Begin 5 [] (Err Busy)) ≡ codes "refused 2 Busy"
unfolding digits
a_refused_beginning_is_told_whatever_its_pick plant = refl

a_return_is_told : happened_line two (happened.Back (returned_of 1) (Ok tt)) ≡ codes "back B"
a_return_is_told = refl

a_refused_return_is_told : happened_line two (happened.Back (returned_of 1) (Err Stranger)) ≡ codes "refused 8 Stranger"
unfolding digits
a_refused_return_is_told = refl

a_hand_without_a_job_is_told : happened_line two (happened.Idle 0) ≡ codes "nothing A"
a_hand_without_a_job_is_told = refl

a_front_is_told : front_line (record { fired = 12; acked = 9; base = 1 }) ≡ codes "front 12 9 1"
unfolding digits
a_front_is_told = refl

a_device_that_fails_is_a_failure : has_failed (happened.Flush (Err Disk)) ≡ true
a_device_that_fails_is_a_failure = refl

a_broken_plant_is_none : has_failed (happened.Flush (Err Broken)) ≡ false
a_broken_plant_is_none = refl

a_device_that_fails_to_store_is_a_failure : has_failed (happened.Put (copied 0 4) (Err Disk)) ≡ true
a_device_that_fails_to_store_is_a_failure = refl

a_device_that_fails_to_save_is_a_failure : has_failed (happened.Save (Err Disk)) ≡ true
a_device_that_fails_to_save_is_a_failure = refl

a_device_that_fails_to_trim_is_a_failure : has_failed (happened.Trim (Err Disk)) ≡ true
a_device_that_fails_to_trim_is_a_failure = refl

a_state_that_is_refused_is_none : has_failed (happened.Put (copied 0 4) (Err (Ahead 0))) ≡ false
a_state_that_is_refused_is_none = refl

-- ---- what a fault says

a_refused_line_is_told : message_of (Line 3) ≡ codes "line 3 of the script asks for no event"
unfolding digits
a_refused_line_is_told = refl

a_long_script_is_told : message_of (Line 0) ≡ codes "the script has more than 1048576 bytes"
unfolding digits
a_long_script_is_told = refl
