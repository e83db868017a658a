use Rattle.std.proofs.Common.{◌≡◌, ◌+◌, ◌<◌, ◌∙◌, ap, sym, subst, arith, drop, get_or, length}
use Rattle.std.specs.Io.KnownBytes.{Appends}
use Rattle.std.proofs.lemmas.List.{get_or_default}
use Rattle.petri_atom.specs.Atom.{definition_of}
use Rattle.text_io.specs.Numbered.{numbered}
use Rattle.text_io.proofs.Leading.{Leads}
use Rattle.run_text.specs.Delivered.{delivered_word, delivered_words, export_words, exports_by}
use Rattle.run_text.specs.Word.{after_words, between_text, separated_after}
use Rattle.run_text.proofs.Separating.{after-numbered, leads-numbered}
use Rattle.run_text.proofs.delivered.print_delivered.Goals as goal

pub loop-export-preserved : goal.loop-export-preserved
loop-export-preserved g c =
    let format = c.args.format in
    let atom = definition_of c.args.atom.now in
    let exports = exports_by atom c.args.transition in
    let k = c.loop-export.export in
    let words = delivered_word format atom c.args.delivered.now in
    let all = delivered_words format atom c.args.transition c.args.delivered.now in
    let between = between_text format in
    let before = c.loop-export.between.now in
    let start = g.W.Write.contents c.args.output.now in
    let now = g.W.Write.contents c.loop-export.output in
    let next = g.W.Write.contents c.print_export.new.output in
    let within : k < length exports = subst (λ xs. k < length xs) c.exports_by-variable-items.ensures (omega arith) in
    let here : get_or exports k 0 ≡ get_or exports k (get_or exports k 0) = get_or_default exports k 0 (get_or exports k 0) within in
    let shown : export_words format atom (get_or c.exports_by-variable-items.result.now k 0) c.value-value.result ≡ words k (get_or exports k 0) =
    ap (λ xs. export_words format atom (get_or xs k 0) c.value-value.result) c.exports_by-variable-items.ensures ∙ ap (export_words format atom (get_or exports k 0)) c.value-value.ensures in
    let printed : Appends now next (separated_after before between (words k (get_or exports k 0))) =
    subst (λ ws. Appends now next (separated_after before between ws)) shown c.in_ok-between.ensures.printed in
    let after : after_words before between (words k (get_or exports k 0)) ≡ c.in_ok-between.between.now =
    sym (c.in_ok-between.ensures.next ∙ ap (after_words before between) shown) in
    record {
      left = subst (λ b. Leads start next (separated_after b between (numbered words (k + 1) (drop (k + 1) exports))) (separated_after c.args.before.now between all)) after
          (leads-numbered words exports k (get_or exports k 0) before between start now next _ within here c.loop-export.invariant.left printed);
      next = ap (λ b. after_words b between (numbered words (k + 1) (drop (k + 1) exports))) (sym after) ∙
          after-numbered words exports k (get_or exports k 0) before between within here ∙ c.loop-export.invariant.next;
    }
