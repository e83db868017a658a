use Rattle.std.proofs.Common.{◌&&◌, ◌∙◌, ap, sym, length, map, leb}
use Rattle.std.proofs.lemmas.List.{length-map}
use Rattle.std.proofs.lemmas.List.Folds.{list_all-map}
use Rattle.petri_atom.specs.Expression.{tree_of, word_count}
use Rattle.petri_atom.specs.declared.parts.TheConstants.{MAX_WORDS}
use Rattle.plant_model.proofs.rules.are_small_guards.Goals as goal

pub returns : goal.returns
returns c =
    let clauses = c.args.clauses.now in
    ap (λ n. leb n 8 && c.are_small_clauses.result) (sym (length-map clauses tree_of)) ∙
    ap (λ b. leb (length (map tree_of clauses)) 8 && b) (c.are_small_clauses.ensures ∙ sym (list_all-map (λ t. leb (word_count t) MAX_WORDS) tree_of clauses))
