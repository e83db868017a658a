use Rattle.std.proofs.Common.{◌≡◌, ◌≢◌, ◌∙◌, sym, ap, Bool, false, codes}
use Rattle.std.specs.Prelude.{Err, if◌then◌else◌, drop}
use Rattle.plant_model.specs.System.{plant_of}
use Rattle.plant_words.specs.Expressions.{expression_in, words_left}
use Rattle.plant_words.specs.Reading.{leads}
use Rattle.plant_words.specs.Words.{words_of}
use Rattle.run_watches.specs.Joined.{joined_text}
use Rattle.run_watches.specs.Operands.{operand_named}
use Rattle.run_watches.specs.Watches.{if_ended, of_expression, stuck, watch_in}
use Rattle.run_watches.specs.declared.fault.WatchFault.TheVariants.{Memory, MoreWords}
use Rattle.run_watches.proofs.Ended.{left_over, told_fault}
use Rattle.run_watches.proofs.watch.read_watch.Goals as goal

pub returns-in_err-end-2-clause-fault : goal.returns-in_err-end-2-clause-fault
returns-in_err-end-2-clause-fault c =
    let plant = plant_of c.args.system.now in
    let words = words_of (joined_text (words_of c.args.text.now)) in
    let first : words ≡ c.new-words.result =
    sym (c.new-words.ensures.words ∙ ap words_of (c.deref.ensures.value ∙ c.in_ok-joined.ensures)) in
    let unled : leads (codes "stuck") words ≡ false = ap (leads (codes "stuck")) first ∙ sym c.skip_word.ensures.leads ∙ c.if-skip_word.false in
    let kept : c.skip_word.new.words ≡ words =
    c.skip_word.ensures.taken ∙ ap (λ (b : Bool). if b then drop 1 c.new-words.result else c.new-words.result) c.if-skip_word.false ∙ sym first in
    let over = left_over (expression_in (operand_named plant) words) c.read_expression.new.words
    (ap (λ ws. words_left (expression_in (operand_named plant) ws)) (sym kept) ∙ c.in_ok-expression.ensures.behind) c.in_err-end-2.ensures.1 in
    let read : watch_in plant c.args.text.now ≡ Err MoreWords =
    ap (λ (b : Bool). if b then if_ended stuck (drop 1 words) else of_expression (expression_in (operand_named plant) words)) unled ∙ over in
    told_fault c.from_residual-in_err-end-2.result c.in_err-end-2.field-0.0 (λ fault. fault ≢ Memory → watch_in plant c.args.text.now ≡ Err fault)
    c.from_residual-in_err-end-2.ensures.1 (λ no. read ∙ ap (λ fault. Err fault) (sym c.in_err-end-2.ensures.0))
