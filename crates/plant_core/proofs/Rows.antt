-- Events worked out by hand, as computed facts of the definitions.
use Rattle.std.proofs.Common.{◌≡◌, ℕ, ℤ, pos, negsuc, ◌-◌, ◌^◌, false, true, refl, sym, ap, ◌∙◌, arith, List, [], ◌∷◌, map, codes, replicate, Option, None, Some, Ok, Err}
use Rattle.std.proofs.lemmas.Bool.{false≢true}
use Rattle.std.proofs.lemmas.Option.{none-some, same_Some}
use Rattle.petri_atom.specs.Definition.{AtomDefinition}
use Rattle.petri_atom.specs.Local.{Local, Row}
use Rattle.connector_tree.specs.Tree.{child, leaf, no_child}
use Rattle.priority_filter.specs.Decided.{is_below, is_overruled}
use Rattle.record_codec.specs.Saved.{SavedFields}
use Rattle.record_codec.specs.declared.layout.TheConstants.{LAST_NUMBER}
use Rattle.plant_model.specs.Firing.{FiringDefinition}
use Rattle.plant_model.specs.Plant.{PlantDefinition}
use Rattle.plant_model.proofs.RunRows.{counts, first_export, holds, state}
use Rattle.step_core.specs.Job.{JobDefinition, worked}
use Rattle.plant_core.specs.Events.{IsAsk, IsBack, IsPut, IsTrim, fire_refusal, firing_refusal}
use Rattle.plant_core.specs.View.{View, may_go, with_asked, with_cut}
use Rattle.plant_core.specs.declared.limits.TheConstants.{MOST_TAIL}
use Rattle.plant_core.specs.declared.refused.Refused.{Refused}
use Rattle.plant_core.specs.declared.refused.Refused.TheVariants.{Busy, TailFull, RingFull, Spent, Away, Ahead, Stranger, NothingNew, Broken, Values}

-- ---- limits

sixty_four_unacknowledged_at_most : MOST_TAIL ≡ 64
sixty_four_unacknowledged_at_most = refl

the_last_number : LAST_NUMBER ≡ 2 ^ 63 - 1
the_last_number = refl

-- ---- when a fire is refused: a plant that has fired 8 records, all acknowledged, of a ring of 128 that begins with record 1

abbrev fired_eight : View
fired_eight = record {
  acked = [];
  acked_counts = 8 ∷ 2 ∷ [];
  number = 8;
  tail = [];
  present = [];
  counts = 8 ∷ 2 ∷ [];
  base = 1;
  ring = 128;
  marks = [];
  saved = record { count = 0; at = 0 } ∷ record { count = 0; at = 0 } ∷ [];
  kept = None ∷ None ∷ [];
  away = None ∷ None ∷ [];
  broken = false;
}

module _ (plant : PlantDefinition) (firing : FiringDefinition) where
  -- with 64 unacknowledged the tail is full
  a_full_tail : fire_refusal plant (record fired_eight { tail = replicate 64 firing }) ≡ Some TailFull
  a_full_tail = refl

  -- a ring of 8 is full of records 1 to 8
  a_full_ring : fire_refusal plant (record fired_eight { ring = 8 }) ≡ Some RingFull
  a_full_ring = refl

  -- also if some of them are not acknowledged
  a_ring_full_of_the_tail : fire_refusal plant (record fired_eight { number = 6; tail = firing ∷ firing ∷ []; ring = 8 }) ≡ Some RingFull
  a_ring_full_of_the_tail = refl

  -- there is no record after the last number
  numbers_at_their_end : fire_refusal plant (record fired_eight { number = 9223372036854775807; base = 9223372036854775807 }) ≡ Some Spent
  numbers_at_their_end = refl

  -- if more than one cause is there, the device comes first, then the number, the tail and the ring
  a_failed_device_is_told_first : fire_refusal plant (record fired_eight { number = 9223372036854775807; broken = true }) ≡ Some Broken
  a_failed_device_is_told_first = refl

  the_last_number_is_told_before_a_full_tail : fire_refusal plant (record fired_eight { number = 9223372036854775743; tail = replicate 64 firing }) ≡ Some Spent
  the_last_number_is_told_before_a_full_tail = refl

  a_full_tail_is_told_before_a_full_ring : fire_refusal plant (record fired_eight { tail = replicate 64 firing; ring = 72 }) ≡ Some TailFull
  a_full_tail_is_told_before_a_full_ring = refl

  -- and the values last
  a_full_tail_is_told_before_the_values : (pick : ℕ) (values : List ℤ) → firing_refusal plant (record fired_eight { tail = replicate 64 firing }) pick values ≡ Some TailFull
  a_full_tail_is_told_before_the_values pick values = refl

-- ---- which values are taken: a plant of the connector `note A.t' B.u`, whose choices are A alone and, at place 1, A with B; with B a value from
-- 0 to 100 comes into B's variable, and A alone takes the value 0

abbrev noting : PlantDefinition
noting = record {
  atoms = counts ∷ holds ∷ [];
  wires = record {
    name = codes "note";
    connector = child true (leaf 0 0) (child false (leaf 1 0) no_child);
    guards = [];
    transfers = [];
    inputs = record { target = first_export 1; low = pos 0; high = pos 100 } ∷ [];
  } ∷ [];
  rules = [];
}

abbrev at_zero : View
at_zero = record fired_eight { present = state (pos 0) ∷ state (pos 0) ∷ [] }

abbrev refusals : List (List ℤ) → ℕ → List (Option Refused)
refusals lists pick = map (firing_refusal noting at_zero pick) lists

-- both ends of the range are taken, and nothing past them; no value is too few, and two are too many
what_is_taken_with_b : refusals ((pos 0 ∷ []) ∷ (pos 100 ∷ []) ∷ (pos 101 ∷ []) ∷ (negsuc 0 ∷ []) ∷ [] ∷ (pos 1 ∷ pos 1 ∷ []) ∷ []) 1 ≡ None ∷ None ∷ Some Values ∷ Some Values ∷ Some Values ∷ Some Values ∷ []
unfolding is_overruled is_below
what_is_taken_with_b = refl

-- a pick is one of the choice at its place modulo 2
what_is_taken_alone : refusals ((pos 0 ∷ []) ∷ (pos 57 ∷ []) ∷ [] ∷ []) 4 ≡ None ∷ Some Values ∷ Some Values ∷ []
unfolding is_overruled is_below
what_is_taken_alone = refl

-- with A away no choice is sure, and that is asked before the values
busy_is_told_before_the_values : (job : JobDefinition) → firing_refusal noting (record at_zero { away = Some job ∷ None ∷ [] }) 0 (pos 57 ∷ []) ≡ Some Busy
unfolding is_overruled is_below
busy_is_told_before_the_values job = refl

-- ---- a put ahead of its records, and a copy that was asked for twice

-- atom 0 as it was copied after its 9th firing, which is not acknowledged
copied : SavedFields
copied = record { atom = 0; count = 9; at = 9; marking = 1; values = [] }

-- and after its 10th
copied_again : SavedFields
copied_again = record { atom = 0; count = 10; at = 10; marking = 1; values = [] }

a_put_ahead_of_its_records : IsPut (with_asked copied fired_eight) copied (Err (Ahead 0)) (with_asked copied fired_eight)
unfolding copied
a_put_ahead_of_its_records = (λ broken. false≢true broken, refl, omega arith, refl, refl)

-- the later copy stands in the place of the earlier one
a_copy_asked_for_twice : with_asked copied_again (with_asked copied fired_eight) ≡ with_asked copied_again fired_eight
unfolding copied copied_again
a_copy_asked_for_twice = refl

-- ---- an atom that is away

not-both : (n : ℕ) → n ≡ 8 → n ≡ 9 → ⊥
not-both n is other = absurd (omega (arith, is, other))

module _ (a : AtomDefinition) (values : Row) (s t : Local) where
  -- the ninth firing of atom 0, from the state s
  abbrev ninth : JobDefinition
  ninth = record { definition = a; atom = 0; count = 8; transition = 0; delivered = values; state = s }

  abbrev away_with : JobDefinition → View
  away_with job = record fired_eight { present = worked job ∷ t ∷ []; away = Some job ∷ None ∷ [] }

  -- no copy of its state is given
  an_atom_that_is_away_is_not_copied : IsAsk (away_with ninth) 0 (Err (Away 0)) (away_with ninth)
  an_atom_that_is_away_is_not_copied = (λ broken. false≢true broken, refl, λ is. none-some ninth (sym is), refl)

  -- its job comes back: then it is present, in the state that it was counted as being in
  the_very_job_comes_back : IsBack (away_with ninth) ninth (Ok tt) (record (away_with ninth) { away = None ∷ None ∷ [] })
  the_very_job_comes_back = (λ broken. false≢true broken, refl, refl)

  -- the same job with another count is a stranger
  a_job_with_another_count_is_a_stranger : IsBack (away_with ninth) (record ninth { count = 9 }) (Err Stranger) (away_with ninth)
  a_job_with_another_count_is_a_stranger = (λ broken. false≢true broken, λ is. not-both 8 refl (ap (λ (job : JobDefinition). job.count) (same_Some ninth (record ninth { count = 9 }) is)), refl)

  -- so is the very job once it has come back
  a_job_comes_back_once : IsBack (record (away_with ninth) { away = None ∷ None ∷ [] }) ninth (Err Stranger) (record (away_with ninth) { away = None ∷ None ∷ [] })
  a_job_comes_back_once = (λ broken. false≢true broken, λ is. none-some ninth is, refl)

-- ---- a trim past an uncovered record: atom 0 fired alone, then with atom 1, then alone; atom 0 is saved after all three, atom 1 after none

abbrev fired_three : View
fired_three = record fired_eight {
  number = 3;
  acked_counts = 3 ∷ 1 ∷ [];
  counts = 3 ∷ 1 ∷ [];
  marks =
      record { number = 1; participations = record { atom = 0; number = 1 } ∷ [] } ∷
      record { number = 2; participations = record { atom = 0; number = 2 } ∷ record { atom = 1; number = 1 } ∷ [] } ∷
      record { number = 3; participations = record { atom = 0; number = 3 } ∷ [] } ∷
      [];
  saved = record { count = 3; at = 3 } ∷ record { count = 0; at = 0 } ∷ [];
}

an_uncovered_record_keeps_those_behind_it : may_go fired_three ≡ 1
an_uncovered_record_keeps_those_behind_it = refl

a_trim_before_an_uncovered_record : IsTrim fired_three (Ok 2) (with_cut 1 fired_three)
a_trim_before_an_uncovered_record = (λ broken. false≢true broken, λ none. absurd (omega (arith, sym an_uncovered_record_keeps_those_behind_it ∙ none)), refl, refl)

-- and nothing more may go then
a_trim_at_an_uncovered_record : IsTrim (with_cut 1 fired_three) (Err NothingNew) (with_cut 1 fired_three)
a_trim_at_an_uncovered_record = (λ broken. false≢true broken, refl, refl)

-- a record that is not acknowledged stays, though it is covered
an_unacknowledged_record_stays : may_go (record fired_three { number = 0; saved = record { count = 3; at = 3 } ∷ record { count = 1; at = 3 } ∷ [] }) ≡ 0
an_unacknowledged_record_stays = refl
