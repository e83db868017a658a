use Rattle.std.proofs.Common.{◌∙◌, [], ◌∷◌, ◌++◌, ap, arith, map, sym, take}
use Rattle.std.proofs.lemmas.List.{map-append, take_more}
use Rattle.petri_atom.specs.Atom.{definition_of}
use Rattle.run_summary.specs.Totals.{totals_from}
use Rattle.run_summary.proofs.Moving.{unmoved-more}
use Rattle.run_summary.proofs.moves.unmoved.Goals as goal

pub loop-atom-preserved : goal.loop-atom-preserved
loop-atom-preserved c =
    let i = c.loop-atom.atom-index in
    let atom = c.atom-item.result in
    let before = take i c.args.atoms.now in
    c.in_ok-push.ensures.items
    ∙ ap (λ ts. ts ++ c.in_ok-of.field-0 ∷ []) c.loop-atom.invariant
    ∙ ap (λ t. totals_from 0 (map definition_of before) [] ++ t ∷ []) c.in_ok-of.ensures
    ∙ sym (unmoved-more 0 (map definition_of before) (definition_of atom))
    ∙ ap (λ atoms. totals_from 0 atoms []) (sym (map-append definition_of before (atom ∷ []))
    ∙ ap (map definition_of) (ap (λ x. before ++ x ∷ []) c.atom-item.is ∙ sym (take_more c.args.atoms.now i atom (omega arith))))
