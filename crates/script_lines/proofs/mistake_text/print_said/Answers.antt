use Rattle.std.proofs.Common.{◌≡◌, ◌∙◌, ◌==◌, sym, subst, refl, ℕ, Bool, true, false, List, [], ◌∷◌, length}
use Rattle.std.specs.Prelude.{if◌then◌else◌, OnOk}
use Rattle.std.specs.Io.KnownBytes.{Appends}
use Rattle.std.proofs.lemmas.Bool.{true≢false}
use Rattle.plant_model.specs.System.{plant_of}
use Rattle.plant_words.specs.Words.{is_filled}
use Rattle.script_lines.specs.Mistakes.{quoted, wrong_text}
use Rattle.script_lines.proofs.mistake_text.print_said.Goals as goal

-- a text that is not empty is filled
filled : (said : List ℕ) → (length said == 0) ≡ false → is_filled said ≡ true
filled [] some = absurd (true≢false some)
filled (byte ∷ bytes) some = refl

pub returns-else-is_empty : goal.returns-else-is_empty
returns-else-is_empty g c =
    let said : List ℕ = c.args.said.now in
    let text : Bool → List ℕ = λ b. if b then quoted c.args.word.now said else wrong_text (plant_of c.args.system.now) c.args.word.now c.args.wrong in
    subst (λ (b : Bool). OnOk c.print_of_word.result (Appends (g.W.Write.contents c.args.output.now) (g.W.Write.contents c.print_of_word.new.output) (text b)))
    (sym (filled said (sym c.is_empty.ensures ∙ c.if-is_empty.false))) c.print_of_word.ensures
