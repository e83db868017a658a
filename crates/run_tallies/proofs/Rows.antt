-- Worked tallies, as computed facts of the definitions.
use Rattle.std.proofs.Common.{◌≡◌, ◌-◌, ◌^◌, ℕ, true, false, List, [], ◌∷◌, pos, refl, codes}
use Rattle.std.specs.Prelude.{if◌then◌else◌, None, Some, slice_get}
use Rattle.std.specs.Fmt.{digits}
use Rattle.std.specs.Int.{int_wrap}
use Rattle.std.specs.Option.{option_map_or}
use Rattle.std.specs.Ordering.{int_eq}
use Rattle.petri_atom.specs.Local.{Local, moved, set_below, value_in}
use Rattle.priority_filter.specs.Decided.{is_below, is_overruled}
use Rattle.plant_model.specs.Plant.{PlantDefinition}
use Rattle.plant_model.specs.Step.{initial_states}
use Rattle.run_text.proofs.RunRows.{sample}
use Rattle.run_text.specs.Picks.{counted_picks, numbered_picks}
use Rattle.run_text.specs.Watched.{Held, never}
use Rattle.run_tallies.specs.Lines.{reached_line, tally_parts}
use Rattle.run_tallies.specs.SeedRuns.{first_bad, seed_picks, seeds_text}
use Rattle.run_tallies.specs.Seeds.{asked_of, seeds_in}
use Rattle.run_tallies.specs.Tally.{tally_text}
use Rattle.run_tallies.specs.declared.seeds.Seeds.{Seeds}

-- what B remembers is 1
abbrev remembers_1 : Held
remembers_1 plant states = if option_map_or (λ (s : Local). int_eq (value_in s.values 0) (pos 1)) (slice_get states 1) false then Some 0 else None

-- three picks for each of the seeds 1 and 2
abbrev two : Seeds
two = record { count = 3; first = 1; last = 2 }

the_seeds : seeds_in two ≡ 1 ∷ 2 ∷ []
the_seeds = refl

six_are_asked_for : asked_of two ≡ 6
six_are_asked_for = refl

-- no seed, where the last is before the first; and as many picks as can be said
none_backwards : seeds_in (record { count = 3; first = 2; last = 1 }) ≡ []
none_backwards = refl

most_asked_for : asked_of (record { count = 2 ^ 64 - 1; first = 0; last = 2 ^ 64 - 1 }) ≡ 2 ^ 64 - 1
most_asked_for = refl

-- send twice by the seed 1, which gives B the 1; then tick, tick and send by the seed 2, which gives it the 2
abbrev in_all_five : List ℕ
in_all_five = codes "seed 1 reached 2\nfired 5 of 6\nconnector tick 2\nconnector send 3\ntransition A.t/0 5\ntransition B.u/0 3\nvariable A.n 0..3\nvariable B.m 0..2\n"

text_of_two_seeds : seeds_text two None false remembers_1 sample ≡ in_all_five
unfolding sample digits moved set_below int_wrap is_overruled is_below
text_of_two_seeds = refl

-- the run of the seed 1 ended badly if this is bad, and else none did
seed_1_is_bad : first_bad (true ∷ []) remembers_1 sample (seed_picks None remembers_1 sample 3) (seeds_in two) ≡ Some 1
unfolding sample moved set_below int_wrap is_overruled is_below
seed_1_is_bad = refl

none_is_bad : first_bad (false ∷ []) remembers_1 sample (seed_picks None remembers_1 sample 3) (seeds_in two) ≡ None
unfolding sample moved set_below int_wrap is_overruled is_below
none_is_bad = refl

-- of several watches the second is named by its place
by_the_second : reached_line (Some 7) true 12 1 ≡ codes "seed 7 reached 12 by 2\n"
unfolding digits
by_the_second = refl

-- a run that its weights end
stuck_by_weights : (tally_parts (Some 7) false never).stuck sample (initial_states sample) ≡ codes "seed 7 stuck by weights\n"
unfolding sample digits moved set_below int_wrap is_overruled is_below
stuck_by_weights = refl

-- one that is stuck at once: a plant of nothing
abbrev nothing : PlantDefinition
nothing = record { atoms = []; wires = []; rules = [] }

stuck_at_once : tally_text (Some 1) false never nothing (counted_picks (0 ∷ [])) ≡ codes "stuck\nfired 0 of 1\n"
unfolding digits is_overruled is_below
stuck_at_once = refl

-- the number 7 is refused: what was fired before it is counted
up_to_the_refused : tally_text None false never sample (numbered_picks (0 ∷ 7 ∷ []))
    ≡ codes "fired 1\nconnector tick 1\nconnector send 0\ntransition A.t/0 1\ntransition B.u/0 0\nvariable A.n 0..1\nvariable B.m 0..0\nnever connector send\nnever transition B.u/0\n"
unfolding sample digits moved set_below int_wrap is_overruled is_below
up_to_the_refused = refl
