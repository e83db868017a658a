use Rattle.std.proofs.Common.{◌≡◌, sym, ◌∙◌, ap, take}
use Rattle.std.specs.Prelude.{Some, option_map}
use Rattle.std.proofs.lemmas.List.{take_min}
use Rattle.plant_words.specs.Words.{words_of}
use Rattle.plant_model.specs.System.{plant_of}
use Rattle.run_text.specs.Picks.{take_of}
use Rattle.recorded_picks.specs.Lines.{take_in}
use Rattle.recorded_picks.specs.declared.kept_line.TheConstants.{MAX_PICK_LINE}
use Rattle.recorded_picks.proofs.Saying.{said-long, said-nothing, said-words}
use Rattle.recorded_picks.proofs.line.take_of_line.Goals as goal

pub returns-then-is_remark : goal.returns-then-is_remark
returns-then-is_remark c =
    let plant = plant_of c.args.names.now.system.now in
    let line = c.args.line.now in
    let front : c.new-words.result ≡ words_of (take MAX_PICK_LINE line) = c.new-words.ensures.words ∙ ap (λ n. words_of (take n line)) c.min.ensures ∙ ap words_of (take_min MAX_PICK_LINE line) in
    sym (said-nothing c.args.numbers plant line c.new-words.result front (sym c.is_remark.ensures.remark ∙ c.if-is_remark.true))

pub returns-then-line-gt-MAX_PICK_LINE : goal.returns-then-line-gt-MAX_PICK_LINE
returns-then-line-gt-MAX_PICK_LINE c =
    let plant = plant_of c.args.names.now.system.now in
    let line = c.args.line.now in
    let front : c.new-words.result ≡ words_of (take MAX_PICK_LINE line) = c.new-words.ensures.words ∙ ap (λ n. words_of (take n line)) c.min.ensures ∙ ap words_of (take_min MAX_PICK_LINE line) in
    sym (said-long c.args.numbers plant line c.new-words.result front (sym c.is_remark.ensures.remark ∙ c.if-is_remark.false) c.if-line-gt-MAX_PICK_LINE.true)

pub returns-in_err-first : goal.returns-in_err-first
returns-in_err-first c =
    let plant = plant_of c.args.names.now.system.now in
    let line = c.args.line.now in
    let front : c.new-words.result ≡ words_of (take MAX_PICK_LINE line) = c.new-words.ensures.words ∙ ap (λ n. words_of (take n line)) c.min.ensures ∙ ap words_of (take_min MAX_PICK_LINE line) in
    ap (option_map take_of) c.from_residual.ensures
    ∙ sym (said-words c.args.numbers plant line c.new-words.result front (sym c.is_remark.ensures.remark ∙ c.if-is_remark.false) c.if-line-gt-MAX_PICK_LINE.false
    ∙ ap (take_in c.args.numbers plant) (sym c.is_remark.ensures.kept ∙ c.in_err-first.ensures.word))

pub returns : goal.returns
returns c =
    let plant = plant_of c.args.names.now.system.now in
    let line = c.args.line.now in
    let front : c.new-words.result ≡ words_of (take MAX_PICK_LINE line) = c.new-words.ensures.words ∙ ap (λ n. words_of (take n line)) c.min.ensures ∙ ap words_of (take_min MAX_PICK_LINE line) in
    ap Some c.take_of_words.ensures
    ∙ sym (said-words c.args.numbers plant line c.new-words.result front (sym c.is_remark.ensures.remark ∙ c.if-is_remark.false) c.if-line-gt-MAX_PICK_LINE.false
    ∙ ap (take_in c.args.numbers plant) (sym c.is_remark.ensures.kept ∙ c.in_ok-first.ensures.word))
