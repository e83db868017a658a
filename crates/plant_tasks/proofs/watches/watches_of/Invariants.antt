use Rattle.std.proofs.Common.{◌≡◌, ◌++◌, Ok, map, drop}
use Rattle.std.specs.Prelude.{vec_len}
use Rattle.plant_model.specs.System.{plant_of}
use Rattle.run_watches.specs.Watches.{watch_of}
use Rattle.plant_tasks.specs.Watches.{bad_from, first_bad, watches_in}
use Rattle.plant_tasks.proofs.watches.watches_of.Given as goal

-- the words before this place are watches, so the first that is none is at it or behind it
abbrev pub invariant-loop-one : goal.invariant-loop-one
invariant-loop-one l = record {
  read : map (λ watch. Ok (watch_of watch)) l.watches.items ++ watches_in (plant_of l.system) (drop l.one-index l.words) ≡ watches_in (plant_of l.system) l.words;
  place : vec_len l.watches ≡ l.one-index;
  bad : bad_from l.one-index (watches_in (plant_of l.system) (drop l.one-index l.words)) ≡ first_bad (plant_of l.system) l.words;
}
