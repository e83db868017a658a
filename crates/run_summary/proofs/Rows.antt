-- Worked summaries, as computed facts of the definitions.
use Rattle.std.proofs.Common.{◌≡◌, ◌-◌, ◌^◌, [], ◌∷◌, pos, negsuc, refl, codes}
use Rattle.std.specs.Prelude.{None, Some}
use Rattle.std.specs.Fmt.{digits}
use Rattle.std.specs.Int.{int_wrap}
use Rattle.petri_atom.specs.Local.{moved, set_below}
use Rattle.plant_model.specs.Step.{initial_states}
use Rattle.run_text.proofs.RunRows.{sample, sent, ticked}
use Rattle.run_text.specs.History.{History, told_after}
use Rattle.run_summary.specs.Bounds.{bounds_of}
use Rattle.run_summary.specs.Counts.{counts_of, kept}
use Rattle.run_summary.specs.Lines.{summary_text}
use Rattle.run_summary.specs.Totals.{totals_of}

-- of numbers below 3 the 0 came twice and the 2 once; the 5 is not below 3
counted : counts_of 3 (2 ∷ 0 ∷ 5 ∷ 0 ∷ []) ≡ 2 ∷ 0 ∷ 1 ∷ []
counted = refl

-- a count stays at the greatest number of 64 bits
greatest_count : kept (2 ^ 64 - 1) ≡ 2 ^ 64 - 1
greatest_count = refl

one_more : kept (2 ^ 64) ≡ 2 ^ 64 - 1
one_more = refl

-- a first value, and 7, -3 and 0 after it
bounds : bounds_of (pos 5) (pos 0 ∷ negsuc 2 ∷ pos 7 ∷ []) ≡ record { least = negsuc 2; greatest = pos 7 }
bounds = refl

-- nothing was fired: each variable has its first value alone
nothing_fired : totals_of sample [] ≡ record {
  fired = 0;
  connectors = 0 ∷ 0 ∷ [];
  atoms = record { transitions = 0 ∷ []; bounds = record { least = pos 0; greatest = pos 0 } ∷ [] } ∷ record { transitions = 0 ∷ []; bounds = record { least = pos 0; greatest = pos 0 } ∷ [] } ∷ [];
}
unfolding sample
nothing_fired = refl

-- tick, and then send, which gives B the 1 that A had counted
abbrev tick_and_send : History
tick_and_send = told_after sample (initial_states sample) (ticked ∷ sent ∷ []) []

totals_of_tick_and_send : totals_of sample tick_and_send ≡ record {
  fired = 2;
  connectors = 1 ∷ 1 ∷ [];
  atoms = record { transitions = 2 ∷ []; bounds = record { least = pos 0; greatest = pos 2 } ∷ [] } ∷ record { transitions = 1 ∷ []; bounds = record { least = pos 0; greatest = pos 1 } ∷ [] } ∷ [];
}
unfolding sample moved set_below int_wrap
totals_of_tick_and_send = refl

-- and then a second run, of one tick: the counts add up, and A counts from 0 anew
totals_of_two_runs : totals_of sample (told_after sample (initial_states sample) (ticked ∷ []) tick_and_send) ≡ record {
  fired = 3;
  connectors = 2 ∷ 1 ∷ [];
  atoms = record { transitions = 3 ∷ []; bounds = record { least = pos 0; greatest = pos 2 } ∷ [] } ∷ record { transitions = 1 ∷ []; bounds = record { least = pos 0; greatest = pos 1 } ∷ [] } ∷ [];
}
unfolding sample moved set_below int_wrap
totals_of_two_runs = refl

-- what is printed of tick and send, of five that were asked for
text_of_tick_and_send : summary_text sample (Some 5) (totals_of sample tick_and_send) ≡ codes "fired 2 of 5\nconnector tick 1\nconnector send 1\ntransition A.t/0 2\ntransition B.u/0 1\nvariable A.n 0..2\nvariable B.m 0..1\n"
unfolding sample digits moved set_below int_wrap
text_of_tick_and_send = refl

-- of a tick alone, where nobody knows how many were asked for: what never came stands at the end
text_of_tick : summary_text sample None (totals_of sample (told_after sample (initial_states sample) (ticked ∷ []) [])) ≡ codes "fired 1\nconnector tick 1\nconnector send 0\ntransition A.t/0 1\ntransition B.u/0 0\nvariable A.n 0..1\nvariable B.m 0..0\nnever connector send\nnever transition B.u/0\n"
unfolding sample digits moved set_below int_wrap
text_of_tick = refl
