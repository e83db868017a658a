-- The runs of seeds go on.
use Rattle.std.proofs.Common.{◌≡◌, ◌<◌, ◌∙◌, ℕ, suc, ◌+◌, ◌-◌, ap, arith, refl, sym, subst, List, [], ◌∷◌}
use Rattle.std.specs.Prelude.{Bool, true, false, if◌then◌else◌, Option, None, Some, Ok, Err}
use Rattle.std.specs.Io.KnownBytes.{Appends}
use Rattle.std.proofs.KnownBytes.{Appends-nil}
use Rattle.std.specs.List.{range_with_len}
use Rattle.std.specs.Option.{option_map_or, option_or}
use Rattle.plant_model.specs.Plant.{PlantDefinition}
use Rattle.plant_model.specs.Step.{initial_states}
use Rattle.text_io.proofs.Leading.{Leads, leads-more, leads-same}
use Rattle.run_text.specs.History.{History}
use Rattle.run_text.specs.Picks.{PickDefinition}
use Rattle.run_text.specs.Runs.{refusal_of}
use Rattle.run_text.specs.Watched.{Held, reached_by}
use Rattle.run_text.specs.declared.fault.Refusal.{Refusal}
use Rattle.run_text.specs.declared.fault.TraceFault.{TraceFault}
use Rattle.run_text.specs.declared.fault.TraceFault.TheVariants.{Memory, Write, Read, Refused}
use Rattle.run_text.specs.declared.watching.Reached.{Reached}
use Rattle.run_summary.specs.Totals.{Totals, totals_of}
use Rattle.run_tallies.specs.Made.{AreMade, IsMade}
use Rattle.run_tallies.specs.SeedRuns.{first_bad, is_bad_end, refusal_among, seed_lines, seeds_run, told_by_seeds}
use Rattle.run_tallies.specs.Tally.{told_by}

-- the seeds from a place on begin with the one there
pub seeds-from : (first number place : ℕ) → place < number → range_with_len (first + place) (number - place) ≡ (first + place) ∷ range_with_len (first + (place + 1)) (number - (place + 1))
seeds-from first number place within =
    let one : number - place ≡ suc (number - (place + 1)) = omega (arith, within) in
    let next : first + place + 1 ≡ first + (place + 1) = omega arith in
    ap (range_with_len (first + place)) one ∙ ap (λ n. (first + place) ∷ range_with_len n (number - (place + 1))) next

-- behind the last place there is none
pub seeds-past : (first number place : ℕ) → number - place ≡ 0 → range_with_len (first + place) (number - place) ≡ []
seeds-past first number place none = ap (range_with_len (first + place)) none

-- the first that is found, with one more seed before those that are left
found-more : (found : Option ℕ) (bad : Bool) (seed : ℕ) (rest : Option ℕ)
    → option_or (option_or found (if bad then Some seed else None)) rest ≡ option_or found (if bad then Some seed else rest)
found-more None true seed rest = refl
found-more None false seed rest = refl
found-more (Some x) bad seed rest = refl

-- the first that is found, where none is left
found-none : (found : Option ℕ) → found ≡ option_or found None
found-none None = refl
found-none (Some x) = refl

-- The runs of all seeds but these that are left were made, and no pick was refused in them. What is left to be said is what is left of all.
pub record StandsAt (several : Bool) (bad : List Bool) (held : Held) (plant : PlantDefinition) (picks : ℕ → List PickDefinition) (seeds : List ℕ) (start now : Option (List ℕ))
    (found : Option ℕ) (summary : Totals) (left : List ℕ) : Type 0 where
  pub told : History
  pub counted : summary ≡ totals_of plant told
  pub later : told_by_seeds plant picks (seeds_run plant picks left) told ≡ told_by_seeds plant picks (seeds_run plant picks seeds) []
  pub printed : Leads start now (seed_lines plant picks several held (seeds_run plant picks left)) (seed_lines plant picks several held (seeds_run plant picks seeds))
  pub refusal : refusal_among plant picks left ≡ refusal_among plant picks seeds
  pub found_is : option_or found (first_bad bad held plant picks left) ≡ first_bad bad held plant picks seeds

module _ (several : Bool) (bad : List Bool) (held : Held) (plant : PlantDefinition) (picks : ℕ → List PickDefinition) (seeds : List ℕ) where
  -- none was made yet
  pub stands-first : (start : Option (List ℕ)) (summary : Totals) (left : List ℕ) → left ≡ seeds → summary ≡ totals_of plant []
      → StandsAt several bad held plant picks seeds start start None summary left
  stands-first start summary left all none = record {
    told = [];
    counted = none;
    later = ap (λ l. told_by_seeds plant picks (seeds_run plant picks l) []) all;
    printed = leads-same (record { by = λ later text. text }) (ap (λ l. seed_lines plant picks several held (seeds_run plant picks l)) (sym all));
    refusal = ap (refusal_among plant picks) all;
    found_is = ap (first_bad bad held plant picks) all;
  }

  -- the seeds whose runs are made of some, by what is refused in the run of the first
  abbrev run_behind : ℕ → List ℕ → Option Refusal → List ℕ
  run_behind seed rest refused = seed ∷ option_map_or (λ refusal. []) refused (seeds_run plant picks rest)

  -- the run of the first that is left was made, and no pick is refused in it
  pub stands-next : (start now after : Option (List ℕ)) (found more : Option ℕ) (was summary : Totals) (left rest : List ℕ) (seed : ℕ) (reached : Option Reached) (ended_badly : Bool)
      → left ≡ seed ∷ rest → StandsAt several bad held plant picks seeds start now found was left
      → IsMade several held plant (picks seed) seed was summary (Ok reached) now after
      → more ≡ option_or found (if ended_badly then Some seed else None) → ended_badly ≡ is_bad_end bad reached
      → StandsAt several bad held plant picks seeds start after more summary rest
  stands-next start now after found more was summary left rest seed reached ended_badly left_is stands made more_is bad_is =
      let none : refusal_of plant (picks seed) ≡ None = sym made.refusal in
      let run_is : seeds_run plant picks left ≡ seed ∷ seeds_run plant picks rest = ap (seeds_run plant picks) left_is ∙ ap (run_behind seed rest) none in
      let ended : reached_by held plant (initial_states plant) (picks seed) ≡ reached = sym made.reached in
      record {
        told = told_by plant (picks seed) stands.told;
        counted = made.counted stands.told stands.counted;
        later = ap (λ run. told_by_seeds plant picks run stands.told) (sym run_is) ∙ stands.later;
        printed = leads-more _ _ _ _ _ _ (leads-same stands.printed (ap (seed_lines plant picks several held) run_is)) made.printed;
        refusal = ap (λ refused. option_or refused (refusal_among plant picks rest)) (sym none) ∙ ap (refusal_among plant picks) (sym left_is) ∙ stands.refusal;
        found_is =
            ap (λ f. option_or f (first_bad bad held plant picks rest)) more_is
            ∙ found-more found ended_badly seed (first_bad bad held plant picks rest)
            ∙ ap (λ b. option_or found (if b then Some seed else first_bad bad held plant picks rest)) bad_is
            ∙ ap (λ r. option_or found (if is_bad_end bad r then Some seed else first_bad bad held plant picks rest)) (sym ended)
            ∙ ap (λ l. option_or found (first_bad bad held plant picks l)) (sym left_is) ∙ stands.found_is;
      }

  -- none is left
  pub made-all : (start now : Option (List ℕ)) (found : Option ℕ) (summary : Totals) (left : List ℕ) → left ≡ [] → StandsAt several bad held plant picks seeds start now found summary left
      → AreMade several bad held plant picks seeds summary (Ok found) start now
  made-all start now found summary left none stands = record {
    refusal = ap (refusal_among plant picks) (sym none) ∙ stands.refusal;
    found = found-none found ∙ ap (λ l. option_or found (first_bad bad held plant picks l)) (sym none) ∙ stands.found_is;
    printed = stands.printed.by now (subst (λ l. Appends now now (seed_lines plant picks several held (seeds_run plant picks l))) (sym none) (Appends-nil now));
    counted = stands.counted ∙ ap (totals_of plant) (ap (λ l. told_by_seeds plant picks (seeds_run plant picks l) stands.told) (sym none) ∙ stands.later);
    no_memory = λ is. cc;
  }

  -- a pick is refused in the run of the first that is left
  pub made-refused : (start now after : Option (List ℕ)) (found : Option ℕ) (was summary : Totals) (left rest : List ℕ) (seed : ℕ) (refusal : Refusal)
      → left ≡ seed ∷ rest → StandsAt several bad held plant picks seeds start now found was left
      → IsMade several held plant (picks seed) seed was summary (Err (Refused refusal)) now after
      → AreMade several bad held plant picks seeds summary (Err (Refused refusal)) start after
  made-refused start now after found was summary left rest seed refusal left_is stands made =
      let one : refusal_of plant (picks seed) ≡ Some refusal = sym made.refusal in
      let run_is : seeds_run plant picks left ≡ seed ∷ [] = ap (seeds_run plant picks) left_is ∙ ap (run_behind seed rest) one in
      record {
        refusal = ap (λ refused. option_or refused (refusal_among plant picks rest)) (sym one) ∙ ap (refusal_among plant picks) (sym left_is) ∙ stands.refusal;
        found = tt;
        printed =
            (leads-more _ _ _ _ _ _ (leads-same stands.printed (ap (seed_lines plant picks several held) run_is)) made.printed).by after (Appends-nil after);
        counted = made.counted stands.told stands.counted ∙ ap (totals_of plant) (ap (λ run. told_by_seeds plant picks run stands.told) (sym run_is) ∙ stands.later);
        no_memory = λ is. cc;
      }

  -- the run of the first that is left ended by a fault
  pub made-faulty : (start now after : Option (List ℕ)) (found : Option ℕ) (was summary : Totals) (left rest : List ℕ) (seed : ℕ) (fault : TraceFault)
      → left ≡ seed ∷ rest → StandsAt several bad held plant picks seeds start now found was left
      → IsMade several held plant (picks seed) seed was summary (Err fault) now after
      → AreMade several bad held plant picks seeds summary (Err fault) start after
  made-faulty start now after found was summary left rest seed Memory left_is stands made = absurd (made.no_memory refl)
  made-faulty start now after found was summary left rest seed Write left_is stands made =
      record { refusal = tt; found = tt; printed = tt; counted = tt; no_memory = λ is. cc }
  made-faulty start now after found was summary left rest seed Read left_is stands made =
      record { refusal = tt; found = tt; printed = tt; counted = tt; no_memory = λ is. cc }
  made-faulty start now after found was summary left rest seed (Refused refusal) left_is stands made =
      made-refused start now after found was summary left rest seed refusal left_is stands made
