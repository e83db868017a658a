-- Marks and snapshots worked out by hand.
use Rattle.std.proofs.Common.{◌≡◌, refl, [], ◌∷◌}
use Rattle.std.specs.List.{prefix_len}
use Rattle.trimmer.specs.Covered.{MarkFields, is_covered}
use Rattle.trimmer.specs.declared.mark.TheConstants.{MOST_PARTICIPANTS}

sixteen_participants_at_most : MOST_PARTICIPANTS ≡ 16
sixteen_participants_at_most = refl

-- three records: atom 0 alone, atoms 0 and 1, atom 0 alone
first : MarkFields
first = record { number = 1; participations = record { atom = 0; number = 1 } ∷ [] }

second : MarkFields
second = record { number = 2; participations = record { atom = 0; number = 2 } ∷ record { atom = 1; number = 1 } ∷ [] }

third : MarkFields
third = record { number = 3; participations = record { atom = 0; number = 3 } ∷ [] }

-- with atom 0 saved after three firings and atom 1 after none, the second record keeps itself and the third
a_slow_atom_keeps_what_follows : prefix_len (is_covered (record { count = 3; at = 3 } ∷ record { count = 0; at = 0 } ∷ [])) (first ∷ second ∷ third ∷ []) ≡ 1
unfolding first second third
a_slow_atom_keeps_what_follows = refl

-- with atom 1 saved after its firing all three may go
all_may_go_where_all_are_saved : prefix_len (is_covered (record { count = 3; at = 3 } ∷ record { count = 1; at = 2 } ∷ [])) (first ∷ second ∷ third ∷ []) ≡ 3
unfolding first second third
all_may_go_where_all_are_saved = refl

-- an atom past those with snapshots has saved none of its firings
an_atom_without_a_snapshot_keeps_its_records : prefix_len (is_covered (record { count = 3; at = 3 } ∷ [])) (first ∷ second ∷ third ∷ []) ≡ 1
unfolding first second third
an_atom_without_a_snapshot_keeps_its_records = refl
