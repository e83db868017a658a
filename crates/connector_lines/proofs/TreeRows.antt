-- Worked examples of the definitions, as computed facts.
use Rattle.std.proofs.Common.{◌≡◌, ℕ, ◌-◌, ◌==◌, ◌&&◌, true, false, refl, if◌then◌else◌, List, [], ◌∷◌, ◌++◌, codes, length, slice_index, nat_le, Option, Some, None, Ok, Err}
use Rattle.connector_tree.specs.declared.tree.Port.{Port}
use Rattle.connector_tree.specs.declared.faults.TreeFault.TheVariants.{TooManyLeaves, TooDeep, SameAtom, Empty}
use Rattle.plant_words.specs.Words.{words_of}
use Rattle.connector_tree.specs.declared.token.Token.{Token}
use Rattle.connector_tree.specs.declared.token.Token.TheVariants.{Leaf, Open, Close}
use Rattle.connector_lines.specs.declared.tree_words_fault.TreeWordsFault.TheVariants.{NotAscii, UnknownName, Shape, Tree}
use Rattle.connector_lines.specs.Tokens.{Reading}
use Rattle.connector_lines.specs.Trees.{tree_in}

-- the atoms `a` to `z`, by their place in the alphabet, each with the ports `p` and `q`, which are 0 and 1
named : List ℕ → List ℕ → Option Port
named atom port =
    if (length atom == 1) && nat_le 97 (slice_index atom 0) && nat_le (slice_index atom 0) 122
    && (length port == 1) && nat_le 112 (slice_index port 0) && nat_le (slice_index port 0) 113
    then Some (record { atom = slice_index atom 0 - 97; port = slice_index port 0 - 112 }) else None

-- the tree of a line, or its fault
read : List ℕ → Reading
unfolding named
read line = tree_in named (words_of line)

-- the port p of an atom, as a synchron and as a trigger
synchron : ℕ → Token
synchron atom = Leaf (record { atom = atom; port = 0 }) false

trigger : ℕ → Token
trigger atom = Leaf (record { atom = atom; port = 0 }) true

-- ---- trees

ports_in_a_row : read (codes "s.p a.p b.p c.p") ≡ Ok (synchron 18 ∷ synchron 0 ∷ synchron 1 ∷ synchron 2 ∷ [])
unfolding read synchron
ports_in_a_row = refl

a_quoted_port_is_a_trigger : read (codes "s.p' a.p b.p c.p") ≡ Ok (trigger 18 ∷ synchron 0 ∷ synchron 1 ∷ synchron 2 ∷ [])
unfolding read synchron trigger
a_quoted_port_is_a_trigger = refl

a_bracket : read (codes "s.p' [ a.p b.p c.p ]") ≡ Ok (trigger 18 ∷ Open ∷ synchron 0 ∷ synchron 1 ∷ synchron 2 ∷ Close false ∷ [])
unfolding read synchron trigger
a_bracket = refl

brackets_nest : read (codes "s.p' [ a.p' [ b.p' c.p ] ]") ≡ Ok (trigger 18 ∷ Open ∷ trigger 0 ∷ Open ∷ trigger 1 ∷ synchron 2 ∷ Close false ∷ Close false ∷ [])
unfolding read synchron trigger
brackets_nest = refl

a_trigger_in_a_bracket : read (codes "[ a.p' b.p ] c.p") ≡ Ok (Open ∷ trigger 0 ∷ synchron 1 ∷ Close false ∷ synchron 2 ∷ [])
unfolding read synchron trigger
a_trigger_in_a_bracket = refl

the_quote_after_a_bracket_marks_the_bracket : read (codes "[ a.p' b.p ]' c.p") ≡ Ok (Open ∷ trigger 0 ∷ synchron 1 ∷ Close true ∷ synchron 2 ∷ [])
unfolding read synchron trigger
the_quote_after_a_bracket_marks_the_bracket = refl

the_other_port : read (codes "c.q'") ≡ Ok (Leaf (record { atom = 2; port = 1 }) true ∷ [])
unfolding read
the_other_port = refl

ports_around_a_bracket : read (codes "c.q' [ a.p' z.p ] b.p") ≡ Ok (Leaf (record { atom = 2; port = 1 }) true ∷ Open ∷ trigger 0 ∷ synchron 25 ∷ Close false ∷ synchron 1 ∷ [])
unfolding read synchron trigger
ports_around_a_bracket = refl

-- ---- faults of words

no_words : read [] ≡ Err Shape
unfolding read
no_words = refl

a_word_without_a_dot : read (codes "a.p b") ≡ Err Shape
unfolding read
a_word_without_a_dot = refl

a_port_without_an_atom : read (codes ".p") ≡ Err Shape
unfolding read
a_port_without_an_atom = refl

a_port_without_a_name : read (codes "a.") ≡ Err Shape
unfolding read
a_port_without_a_name = refl

a_second_quote_is_part_of_the_name : read (codes "a.p''") ≡ Err UnknownName
unfolding read
a_second_quote_is_part_of_the_name = refl

an_unknown_atom : read (codes "A.p") ≡ Err UnknownName
unfolding read
an_unknown_atom = refl

an_unknown_port : read (codes "a.r") ≡ Err UnknownName
unfolding read
an_unknown_port = refl

a_bracket_without_its_end : read (codes "[ a.p") ≡ Err Shape
unfolding read
a_bracket_without_its_end = refl

a_bracket_without_its_begin : read (codes "a.p ]") ≡ Err Shape
unfolding read
a_bracket_without_its_begin = refl

a_marked_end_without_its_begin : read (codes "]'") ≡ Err Shape
unfolding read
a_marked_end_without_its_begin = refl

an_end_before_an_unknown_name : read (codes "a.p ] B.q") ≡ Err Shape
unfolding read
an_end_before_an_unknown_name = refl

an_unknown_name_in_an_open_bracket : read (codes "[ B.q") ≡ Err UnknownName
unfolding read
an_unknown_name_in_an_open_bracket = refl

-- 228 is a byte that may not stand in a text
an_illegal_byte_in_a_port : read (codes "a.p b." ++ 228 ∷ codes " B.q") ≡ Err NotAscii
unfolding read
an_illegal_byte_in_a_port = refl

an_illegal_byte_after_an_unknown_name : read (codes "B.q " ++ 228 ∷ []) ≡ Err UnknownName
unfolding read
an_illegal_byte_after_an_unknown_name = refl

an_illegal_byte_in_an_open_bracket : read (codes "[ a.p ]" ++ 228 ∷ []) ≡ Err NotAscii
unfolding read
an_illegal_byte_in_an_open_bracket = refl

an_illegal_byte_after_an_end_without_its_begin : read (codes "a.p ] " ++ 228 ∷ []) ≡ Err Shape
unfolding read
an_illegal_byte_after_an_end_without_its_begin = refl

-- ---- faults of trees

sixteen_ports : read (codes "a.p b.p c.p d.p e.p f.p g.p h.p i.p j.p k.p l.p m.p n.p o.p p.p") ≡
    Ok (synchron 0 ∷ synchron 1 ∷ synchron 2 ∷ synchron 3 ∷ synchron 4 ∷ synchron 5 ∷ synchron 6 ∷ synchron 7 ∷ synchron 8 ∷ synchron 9 ∷ synchron 10 ∷ synchron 11 ∷ synchron 12 ∷ synchron 13 ∷ synchron 14 ∷ synchron 15 ∷ [])
unfolding read synchron
sixteen_ports = refl

seventeen_ports : read (codes "a.p b.p c.p d.p e.p f.p g.p h.p i.p j.p k.p l.p m.p n.p o.p p.p q.p") ≡ Err (Tree TooManyLeaves)
unfolding read
seventeen_ports = refl

an_unknown_name_after_sixteen_ports : read (codes "a.p b.p c.p d.p e.p f.p g.p h.p i.p j.p k.p l.p m.p n.p o.p p.p I.p") ≡ Err UnknownName
unfolding read
an_unknown_name_after_sixteen_ports = refl

an_illegal_byte_after_seventeen_ports : read (codes "a.p b.p c.p d.p e.p f.p g.p h.p i.p j.p k.p l.p m.p n.p o.p p.p q.p " ++ 228 ∷ []) ≡ Err NotAscii
unfolding read
an_illegal_byte_after_seventeen_ports = refl

eight_levels : read (codes "[ [ [ [ [ [ [ a.p ] ] ] ] ] ] ]") ≡
    Ok (Open ∷ Open ∷ Open ∷ Open ∷ Open ∷ Open ∷ Open ∷ synchron 0
    ∷ Close false ∷ Close false ∷ Close false ∷ Close false ∷ Close false ∷ Close false ∷ Close false ∷ [])
unfolding read synchron
eight_levels = refl

nine_levels : read (codes "[ [ [ [ [ [ [ [ a.p ] ] ] ] ] ] ] ]") ≡ Err (Tree TooDeep)
unfolding read
nine_levels = refl

an_atom_twice : read (codes "a.p b.p [ a.q ]") ≡ Err (Tree SameAtom)
unfolding read
an_atom_twice = refl

an_empty_bracket : read (codes "[ ]") ≡ Err (Tree Empty)
unfolding read
an_empty_bracket = refl

an_empty_bracket_inside : read (codes "a.p [ b.p [ ]' ]") ≡ Err (Tree Empty)
unfolding read
an_empty_bracket_inside = refl
