use Rattle.std.proofs.Common.{◌≡◌, ◌∙◌, ◌-◌, ◌<◌, ◌∷◌, ◌++◌, ℕ, zero, suc, List, [], ap, sym, refl, subst, arith, drop}
use Rattle.std.specs.Prelude.{OnOk}
use Rattle.std.specs.List.{range_with_len}
use Rattle.std.specs.Io.KnownBytes.{Appends}
use Rattle.plant_model.specs.Plant.{PlantDefinition, wire_name}
use Rattle.text_io.proofs.Leading.{printed-last}
use Rattle.step_session.specs.Answers.{fire_only_session, fire_only_text, firing_lines, own_numbers, standing_text}
use Rattle.run_text.specs.OwnNumbers.{numbers_of}
use Rattle.step_session.specs.Numbers.{several_text}
use Rattle.step_session.specs.Session.{SessionDefinition}
use Rattle.step_session.specs.SessionOf.{plant_stepped, session_of}
use Rattle.step_session.proofs.session.Session.fire_only.Goals as goal

-- with several numbers nothing is fired
several-session : (session : SessionDefinition) (first count : ℕ) → 1 < count → fire_only_session session (range_with_len first count) ≡ session
several-session session first zero several = absurd (omega (arith, several))
several-session session first (suc zero) several = absurd (omega (arith, several))
several-session session first (suc (suc n)) several = refl

-- and they are told
several-told : (plant : PlantDefinition) (rules : List ℕ) (session : SessionDefinition) (connector first count : ℕ) → 1 < count
    → fire_only_text plant rules session connector (range_with_len first count) ≡ several_text (wire_name plant connector) first (drop 1 (range_with_len first count))
several-told plant rules session connector first zero several = absurd (omega (arith, several))
several-told plant rules session connector first (suc zero) several = absurd (omega (arith, several))
several-told plant rules session connector first (suc (suc n)) several = refl

pub returns-then-count-eq1-clause-printed : goal.returns-then-count-eq1-clause-printed
returns-then-count-eq1-clause-printed g c =
    let plant = plant_stepped c.args.self.now in
    let session = session_of c.args.self.now in
    let connector = c.args.connector in
    let rules = c.args.rule_lines.now in
    let numbers = c.numbers_of-numbers.result in
    let first = numbers.first in
    let after = session_of c.fire_at.new.self in
    let start = g.W.Write.contents c.args.output.now in
    let now = g.W.Write.contents c.fire_at.new.output in
    let end = g.W.Write.contents c.print_standing.new.output in
    let one : numbers.end - first ≡ 1 = omega arith in
    let own : own_numbers plant session connector ≡ first ∷ [] =
    ap (λ states. numbers_of plant states connector) (sym c.args.self.now.stands) ∙ c.numbers_of-numbers.ensures.numbers ∙ ap (range_with_len first) one in
    let said = printed-last c.print_standing.result start now end (firing_lines plant session (first ∷ [])) (standing_text (plant_stepped c.fire_at.new.self) after) c.in_ok-fire_at.ensures.printed c.print_standing.ensures in
    let same : firing_lines plant session (first ∷ []) ++ standing_text (plant_stepped c.fire_at.new.self) after ≡ fire_only_text plant rules session connector (own_numbers plant session connector) =
    ap (λ p. firing_lines plant session (first ∷ []) ++ standing_text p after) c.fire_at.ensures.plant ∙
    ap (λ s. firing_lines plant session (first ∷ []) ++ standing_text plant s) c.in_ok-fire_at.ensures.session ∙
    sym (ap (fire_only_text plant rules session connector) own) in
    subst (λ text. OnOk c.print_standing.result (Appends start end text)) same said

pub returns-clause-session : goal.returns-clause-session
returns-clause-session g c =
    let plant = plant_stepped c.args.self.now in
    let session = session_of c.args.self.now in
    let connector = c.args.connector in
    let numbers = c.numbers_of-numbers.result in
    let several : 1 < numbers.end - numbers.first = omega arith in
    let own : own_numbers plant session connector ≡ range_with_len numbers.first (numbers.end - numbers.first) =
    ap (λ states. numbers_of plant states connector) (sym c.args.self.now.stands) ∙ c.numbers_of-numbers.ensures.numbers in
    sym (ap (fire_only_session session) own ∙ several-session session numbers.first (numbers.end - numbers.first) several)

pub returns-clause-printed : goal.returns-clause-printed
returns-clause-printed g c =
    let plant = plant_stepped c.args.self.now in
    let session = session_of c.args.self.now in
    let connector = c.args.connector in
    let rules = c.args.rule_lines.now in
    let numbers = c.numbers_of-numbers.result in
    let count = numbers.end - numbers.first in
    let several : 1 < count = omega arith in
    let own : own_numbers plant session connector ≡ range_with_len numbers.first count =
    ap (λ states. numbers_of plant states connector) (sym c.args.self.now.stands) ∙ c.numbers_of-numbers.ensures.numbers in
    let name : c.wire_name.result.now ≡ wire_name plant connector = c.wire_name.ensures ∙ ap (λ p. wire_name p connector) c.system.ensures.plant in
    subst (Appends (g.W.Write.contents c.args.output.now) (g.W.Write.contents c.print_several.new.output))
    (ap (λ text. several_text text numbers.first (drop 1 (range_with_len numbers.first count))) name ∙
    sym (ap (fire_only_text plant rules session connector) own ∙ several-told plant rules session connector numbers.first count several))
    c.in_ok-print_several.ensures
