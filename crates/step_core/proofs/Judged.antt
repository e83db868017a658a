-- What a judgement says of the choices of a state.
use Rattle.std.proofs.Common.{◌≡◌, sym, ◌∙◌, ap, List, length, arith}
use Rattle.std.specs.FinSet.{contains}
use Rattle.petri_atom.specs.Local.{Local}
use Rattle.plant_model.specs.Choice.{choices, choices_among, is_allowed_at}
use Rattle.plant_model.specs.System.{interactions_in, plant_of}
use Rattle.plant_model.specs.declared.system.System.{System}
use Rattle.step_core.specs.ChoicesIn.{choices_in}
use Rattle.step_core.specs.Judgement.{IsJudgement, IsOffering}
use Rattle.step_core.specs.declared.judgement.Judgement.{Judgement}
use Rattle.step_core.proofs.Counted.{possible-first}
use Rattle.step_core.proofs.Weighed.{small-connectors, sum-of-weights}

module _ (s : System) (states : List Local) (j : Judgement) (judged : IsJudgement (plant_of s) (interactions_in s) s.ranks states j) where
  -- the choices of the kept interactions are those of the state
  pub all-choices : choices_in (plant_of s).atoms states (interactions_in s) (contains j.kept) ≡ choices (plant_of s) states
  all-choices =
      let same : contains j.kept ≡ is_allowed_at (plant_of s) states (interactions_in s) = λ i n. judged.allowed n i in
      ap (choices_in (plant_of s).atoms states (interactions_in s)) same ∙ ap (choices_among (plant_of s) states) s.listed

  -- and the sum of the weights is how many there are
  pub total-is : j.weights.total ≡ length (choices (plant_of s) states)
  total-is =
      judged.weights.sums.total ∙
      sum-of-weights (plant_of s).atoms states (interactions_in s) (contains j.kept) j.weights.of_connectors (λ n i there. omega (arith, judged.weights.sums.many, small-connectors s n i there)) judged.weights.each ∙
      ap length all-choices

  -- each interaction that is kept is possible
  pub offering : IsOffering (plant_of s) (interactions_in s) states j.offers.sets j.offers.counts j.leaves (contains j.kept)
  offering = record {
    offers = record { offered = judged.offered; counted = judged.counted; leaves = judged.leaves };
    kept = λ n yes_. possible-first (plant_of s) states (interactions_in s) n (sym (judged.allowed n) ∙ yes_);
  }
