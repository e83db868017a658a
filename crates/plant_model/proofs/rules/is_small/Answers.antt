use Rattle.std.proofs.Common.{◌&&◌, ◌∙◌, ap, sym, length, map, leb}
use Rattle.std.proofs.lemmas.List.{length-map}
use Rattle.std.proofs.lemmas.List.Folds.{list_all-map}
use Rattle.petri_atom.specs.Expression.{word_count}
use Rattle.petri_atom.specs.declared.parts.TheConstants.{MAX_WORDS}
use Rattle.plant_model.specs.Wire.{transfer_of}
use Rattle.plant_model.proofs.rules.is_small.Goals as goal

pub returns : goal.returns
returns c =
    let transfers = c.args.transfers.now in
    ap (λ n. leb n 32 && c.have_small_values.result) (sym (length-map transfers transfer_of)) ∙
    ap (λ b. leb (length (map transfer_of transfers)) 32 && b) (c.have_small_values.ensures ∙ sym (list_all-map (λ t. leb (word_count t.value) MAX_WORDS) transfer_of transfers))
