use Rattle.std.proofs.Common.{◌≡◌, true}
use Rattle.std.specs.List.{list_all}
use Rattle.std.proofs.lemmas.Bool.{and_parts}
use Rattle.std.specs.Prelude.{◌^◌, nat_lt}
use Rattle.petri_atom.proofs.Fitting.{all_weaker}
use Rattle.plant_text.specs.Text.{text_of}
use Rattle.restated_text.specs.Plants.{is_in_memory, has_ranged_values}
use Rattle.restated_text.proofs.Law.{text_in_states}
use Rattle.restated_text.proofs.laws.a_restated_text_means_the_plant_in_its_states.Goals as goal

pub returns : goal.returns
returns c plant states text held short told =
    let ranged : list_all has_ranged_values states ≡ true =
    all_weaker is_in_memory has_ranged_values (λ s in_memory. (and_parts (nat_lt s.marking (2 ^ 64)) (has_ranged_values s) in_memory).1) states held in
    text_in_states states text (text_of plant) ranged (c.a_text_that_means_a_plant_is_legal.ensures text (text_of plant) told) short told
