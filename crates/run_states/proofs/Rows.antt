-- Worked runs with their states, as computed facts of the definitions.
use Rattle.std.proofs.Common.{◌≡◌, ◌∙◌, ap, ◌∷◌, [], ◌++◌, pos, negsuc, true, false, refl, codes, replicate, ◌^◌, ◌-◌}
use Rattle.std.specs.Fmt.{digits}
use Rattle.std.specs.Int.{int_wrap}
use Rattle.petri_atom.specs.Definition.{AtomDefinition}
use Rattle.petri_atom.specs.Local.{moved, set_below}
use Rattle.priority_filter.specs.Decided.{is_below, is_overruled}
use Rattle.plant_model.specs.Plant.{PlantDefinition}
use Rattle.text_io.specs.declared.format.Format.TheVariants.{Lines, Csv, Jsonl}
use Rattle.run_text.proofs.RunRows.{at, by_weights, sample}
use Rattle.run_text.specs.Picks.{counted_picks, numbered_picks}
use Rattle.run_states.specs.Changes.{atom_changes}
use Rattle.run_states.specs.Signals.{binary}
use Rattle.run_states.specs.States.{state_parts, states_in, stuck_lines}
use Rattle.run_states.specs.Waves.{stuck_line, wave_parts, waves_of}

-- tick and then send, with the state at the start and after each
lines_of_tick_and_send : states_in Lines sample (counted_picks (0 ∷ 1 ∷ [])) ≡ codes "state A [s] n=0\nstate B [s] m=0\n1 tick A.t/0\nstate A [s] n=1\nstate B [s] m=0\n2 send A.t/0 B.u/0\nstate A [s] n=2\nstate B [s] m=1\n"
unfolding sample digits moved set_below int_wrap is_overruled is_below
lines_of_tick_and_send = refl

rows_of_tick_and_send : states_in Csv sample (counted_picks (0 ∷ 1 ∷ [])) ≡ codes "kind,number,name,parts,values,A,A.n,B,B.m\nstart,,,,,s,0,s,0\nstep,1,tick,A.t/0,,s,1,s,0\nstep,2,send,A.t/0 B.u/0,B.m=1,s,2,s,1\n"
unfolding sample digits moved set_below int_wrap is_overruled is_below
rows_of_tick_and_send = refl

objects_of_tick_and_send : states_in Jsonl sample (counted_picks (0 ∷ 1 ∷ [])) ≡ codes "{\"kind\":\"start\",\"states\":[{\"atom\":\"A\",\"places\":[\"s\"],\"variables\":{\"n\":0}},{\"atom\":\"B\",\"places\":[\"s\"],\"variables\":{\"m\":0}}]}\n{\"kind\":\"step\",\"number\":1,\"connector\":\"tick\",\"participants\":[{\"atom\":\"A\",\"port\":\"t\",\"transition\":0,\"delivered\":{}}],\"states\":[{\"atom\":\"A\",\"places\":[\"s\"],\"variables\":{\"n\":1}},{\"atom\":\"B\",\"places\":[\"s\"],\"variables\":{\"m\":0}}]}\n{\"kind\":\"step\",\"number\":2,\"connector\":\"send\",\"participants\":[{\"atom\":\"A\",\"port\":\"t\",\"transition\":0,\"delivered\":{}},{\"atom\":\"B\",\"port\":\"u\",\"transition\":0,\"delivered\":{\"m\":1}}],\"states\":[{\"atom\":\"A\",\"places\":[\"s\"],\"variables\":{\"n\":2}},{\"atom\":\"B\",\"places\":[\"s\"],\"variables\":{\"m\":1}}]}\n"
unfolding sample digits moved set_below int_wrap is_overruled is_below
objects_of_tick_and_send = refl

-- the same as a value change dump: no place changes, and tick changes A's n alone
waves_of_tick_and_send : waves_of sample (counted_picks (0 ∷ 1 ∷ [])) ≡ codes "$version Kilnmace $end\n$timescale 1 ns $end\n$scope module A $end\n$var wire 1 p0_0 s $end\n$var integer 64 v0_0 n $end\n$upscope $end\n$scope module B $end\n$var wire 1 p1_0 s $end\n$var integer 64 v1_0 m $end\n$upscope $end\n$enddefinitions $end\n#0\n$dumpvars\n1p0_0\nb0 v0_0\n1p1_0\nb0 v1_0\n$end\n#1\nb1 v0_0\n#2\nb10 v0_0\nb1 v1_0\n#3\n"
unfolding sample digits moved set_below int_wrap is_overruled is_below
waves_of_tick_and_send = refl

-- the digits of values: none in front of those of a number that is not negative, and all 64 of a negative one
nothing : binary (pos 0) ≡ codes "0"
unfolding digits
nothing = refl

greatest : binary (pos (2 ^ 63 - 1)) ≡ replicate 63 49
unfolding digits
greatest = refl

minus_two : binary (negsuc 1) ≡ replicate 63 49 ++ codes "0"
unfolding digits
minus_two = refl

least : binary (negsuc (2 ^ 63 - 1)) ≡ codes "1" ++ replicate 63 48
unfolding digits
least = refl

-- an atom that no connector moves, with two places and two variables
abbrev still : AtomDefinition
still = record {
  name = codes "W";
  places = record { name = codes "p"; marked = true } ∷ record { name = codes "q"; marked = false } ∷ [];
  variables = record { name = codes "n"; first = pos 10 } ∷ record { name = codes "m"; first = negsuc 1 } ∷ [];
  ports = [];
  transitions = [];
}

abbrev alone : PlantDefinition
alone = record { atoms = still ∷ []; wires = []; rules = [] }

-- nothing is possible where a pick is left: that is printed, and nothing more; a row says the state again
stuck_in_lines : states_in Lines alone (counted_picks (3 ∷ 0 ∷ [])) ≡ codes "state W [p] n=10 m=-2\nstuck\n"
unfolding digits set_below
stuck_in_lines = refl

stuck_in_rows : states_in Csv alone (counted_picks (3 ∷ 0 ∷ [])) ≡ codes "kind,number,name,parts,values,W,W.n,W.m\nstart,,,,,p,10,-2\nstuck,,,,,p,10,-2\n"
unfolding digits set_below
stuck_in_rows = refl

stuck_in_objects : states_in Jsonl alone (counted_picks (3 ∷ 0 ∷ [])) ≡ codes "{\"kind\":\"start\",\"states\":[{\"atom\":\"W\",\"places\":[\"p\"],\"variables\":{\"n\":10,\"m\":-2}}]}\n{\"kind\":\"stuck\"}\n"
unfolding digits set_below
stuck_in_objects = refl

stuck_in_waves : waves_of alone (counted_picks (3 ∷ 0 ∷ [])) ≡ codes "$version Kilnmace $end\n$timescale 1 ns $end\n$scope module W $end\n$var wire 1 p0_0 p $end\n$var wire 1 p0_1 q $end\n$var integer 64 v0_0 n $end\n$var integer 64 v0_1 m $end\n$upscope $end\n$enddefinitions $end\n#0\n$dumpvars\n1p0_0\n0p0_1\nb1010 v0_0\nb1111111111111111111111111111111111111111111111111111111111111110 v0_1\n$end\n$comment stuck $end\n#1\n"
unfolding digits set_below
stuck_in_waves = refl

-- nothing is fired any more where tick and send are possible: it is by the weights of a random pick
by_weights_in_lines : (state_parts Lines).stuck sample (at (pos 4) (pos 3)) ≡ codes "stuck by weights\n"
by_weights_in_lines = ap (λ b. stuck_lines Lines b sample (at (pos 4) (pos 3))) (by_weights (pos 4) (pos 3))

row_of_weights : stuck_lines Csv true sample (at (pos 4) (pos 3)) ≡ codes "stuck,,weights,,,s,4,s,3\n"
unfolding sample digits
row_of_weights = refl

by_weights_in_rows : (state_parts Csv).stuck sample (at (pos 4) (pos 3)) ≡ codes "stuck,,weights,,,s,4,s,3\n"
by_weights_in_rows = ap (λ b. stuck_lines Csv b sample (at (pos 4) (pos 3))) (by_weights (pos 4) (pos 3)) ∙ row_of_weights

by_weights_in_objects : (state_parts Jsonl).stuck sample (at (pos 4) (pos 3)) ≡ codes "{\"kind\":\"stuck\",\"by\":\"weights\"}\n"
by_weights_in_objects = ap (λ b. stuck_lines Jsonl b sample (at (pos 4) (pos 3))) (by_weights (pos 4) (pos 3))

by_weights_in_waves : wave_parts.stuck sample (at (pos 4) (pos 3)) ≡ codes "$comment stuck by weights $end\n"
by_weights_in_waves = ap stuck_line (by_weights (pos 4) (pos 3))

-- after a number that is refused nothing more is printed, and no last time
refused_in_lines : states_in Lines sample (numbered_picks (0 ∷ 7 ∷ [])) ≡ codes "state A [s] n=0\nstate B [s] m=0\n1 tick A.t/0\nstate A [s] n=1\nstate B [s] m=0\n"
unfolding sample digits moved set_below int_wrap is_overruled is_below
refused_in_lines = refl

refused_in_waves : waves_of alone (numbered_picks (0 ∷ [])) ≡ codes "$version Kilnmace $end\n$timescale 1 ns $end\n$scope module W $end\n$var wire 1 p0_0 p $end\n$var wire 1 p0_1 q $end\n$var integer 64 v0_0 n $end\n$var integer 64 v0_1 m $end\n$upscope $end\n$enddefinitions $end\n#0\n$dumpvars\n1p0_0\n0p0_1\nb1010 v0_0\nb1111111111111111111111111111111111111111111111111111111111111110 v0_1\n$end\n"
unfolding digits set_below
refused_in_waves = refl

-- without picks the state at the start is printed alone
no_picks : states_in Lines alone (counted_picks []) ≡ codes "state W [p] n=10 m=-2\n"
unfolding digits set_below
no_picks = refl

-- a place that loses its mark, one that gets it, a variable that stays and one that changes
some_change : atom_changes 7 still (record { marking = 1; values = pos 10 ∷ negsuc 1 ∷ [] }) (record { marking = 2; values = pos 10 ∷ pos 5 ∷ [] }) ≡ codes "0p7_0\n1p7_1\nb101 v7_1\n"
unfolding digits
some_change = refl
