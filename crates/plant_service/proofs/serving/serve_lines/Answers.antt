use Rattle.std.proofs.Common.{◌≡◌, ◌∙◌, ◌∷◌, [], sym, refl, subst, length}
use Rattle.plant_model.specs.Plant.{PlantDefinition}
use Rattle.plant_words.specs.Lines.{lines_of}
use Rattle.plant_core.specs.Handed.{hands_of}
use Rattle.plant_core.specs.Hands.{AreHandsFor}
use Rattle.plant_core.specs.Plants.{definition_of, device_of, text_digest, view_of}
use Rattle.plant_model.specs.Fitting.{IsOf}
use Rattle.plant_service.specs.Command.{command_in}
use Rattle.plant_service.proofs.Driving.{answered-on, driven-on, none-driven}
use Rattle.plant_service.proofs.Lines.{all-left, all-served, asked-of, cut-of, ended-served, read-last, read-served}
use Rattle.plant_service.proofs.serving.serve_lines.Goals as goal

pub loop-init : goal.loop-init
loop-init g c =
    let p = c.args.plant.now in
    record {
      plant = refl;
      digest = refl;
      as_many = c.requires.hands;
      states = c.requires.states;
      driven = none-driven (definition_of p) (text_digest p) (view_of p) (device_of p) (hands_of c.args.hands.now) c.stands_for_a_front.ensures;
      served = all-left (definition_of p) (text_digest p) c.args.rule_lines.now (view_of p) (device_of p) (hands_of c.args.hands.now) (g.W.Write.contents c.args.output.now) (g.R.Read.remaining c.args.input.now) c.stands_for_a_front.ensures;
    }

-- the lines have ended
pub returns-in_default-clause-served : goal.returns-in_default-clause-served
returns-in_default-clause-served g c =
    let l = c.loop in
    let p = c.args.plant.now in
    let held = c.read_line.new.line.items in
    let cuts : lines_of held ≡ [] = cut-of c.as_slice.ensures.value c.new.ensures.lines c.in_default.ensures.line in
    all-served (definition_of p) (text_digest p) c.args.rule_lines.now (view_of p) (view_of l.plant) (device_of p) (device_of l.plant) (hands_of c.args.hands.now) (hands_of l.hands) (g.W.Write.contents c.args.output.now) (g.W.Write.contents l.output)
    held (g.R.Read.remaining l.input) c.in_ok-read_line.ensures.kept (g.R.Read.remaining c.args.input.now) cuts l.invariant.served

-- a line asks to end
pub returns-then-ends-clause-served : goal.returns-then-ends-clause-served
returns-then-ends-clause-served g c =
    let l = c.loop in
    let p = c.args.plant.now in
    let plant = definition_of p in
    let held = c.read_line.new.line.items in
    let cuts : lines_of held ≡ c.in-Some.asked.now ∷ c.next_line.new.self = cut-of c.as_slice.ensures.value c.new.ensures.lines c.in-Some.ensures.line in
    let asks : c.read_command-command.result ≡ command_in plant c.in-Some.asked.now = asked-of c.in-Some.asked.now c.read_command-command.ensures c.system.ensures.plant l.invariant.plant in
    ended-served plant (text_digest p) c.args.rule_lines.now (view_of p) (view_of l.plant) (device_of p) (device_of l.plant) (hands_of c.args.hands.now) (hands_of l.hands) (g.W.Write.contents c.args.output.now) (g.W.Write.contents l.output)
    held (g.R.Read.remaining l.input) c.in_ok-read_line.ensures.kept c.in-Some.asked.now c.next_line.new.self cuts c.read_command-command.result asks (sym c.ends.ensures ∙ c.if-ends.true) (g.R.Read.remaining c.args.input.now) l.invariant.served

-- the output takes no more of an answer
pub returns-in_err-failed-clause-driven : goal.returns-in_err-failed-clause-driven
returns-in_err-failed-clause-driven g c = driven-on c.loop.invariant.plant c.loop.invariant.digest c.tail_is_a_run.ensures c.loop.invariant.driven c.in_err-failed.ensures.cut

pub returns-in_err-end_answer-clause-driven : goal.returns-in_err-end_answer-clause-driven
returns-in_err-end_answer-clause-driven g c = answered-on c.loop.invariant.plant c.loop.invariant.digest c.tail_is_a_run.ensures c.loop.invariant.driven c.in_ok-failed.ensures.answered

pub returns-then-failed-clause-driven : goal.returns-then-failed-clause-driven
returns-then-failed-clause-driven g c = answered-on c.loop.invariant.plant c.loop.invariant.digest c.tail_is_a_run.ensures c.loop.invariant.driven c.in_ok-failed.ensures.answered

-- the device failed in it
pub returns-then-failed-clause-served : goal.returns-then-failed-clause-served
returns-then-failed-clause-served g c =
    let l = c.loop in
    read-last (view_of c.args.plant.now) (device_of c.args.plant.now) (hands_of c.args.hands.now) (g.R.Read.remaining c.args.input.now) (g.R.Read.remaining l.input) (g.R.Read.remaining c.read_line.new.reader) (g.W.Write.contents c.args.output.now) (g.W.Write.contents c.end_answer.new.output) c.read_line.new.line.items
    l.invariant.plant l.invariant.digest c.tail_is_a_run.ensures l.invariant.served c.in_ok-read_line.ensures.kept c.in_ok-read_line.ensures.left (cut-of c.as_slice.ensures.value c.new.ensures.lines c.in-Some.ensures.line)
    c.read_command-command.ensures c.system.ensures.plant c.ends.ensures c.if-ends.false c.in_ok-failed.ensures.answered c.in_ok-end_answer.ensures c.if-failed.true

pub loop-preserved : goal.loop-preserved
loop-preserved g c =
    let l = c.loop in
    let left = hands_of c.answer_command.new.hands in
    record {
      plant = c.answer_command.ensures.plant ∙ l.invariant.plant;
      digest = c.answer_command.ensures.digest ∙ l.invariant.digest;
      as_many = subst (λ (x : PlantDefinition). AreHandsFor (length x.atoms) left) l.invariant.plant c.answer_command.ensures.as_many;
      states = subst (λ (x : PlantDefinition). IsOf x c.answer_command.new.states) l.invariant.plant c.answer_command.ensures.states;
      driven = answered-on l.invariant.plant l.invariant.digest c.tail_is_a_run.ensures l.invariant.driven c.in_ok-failed.ensures.answered;
      served = read-served (view_of c.args.plant.now) (device_of c.args.plant.now) (hands_of c.args.hands.now) (g.R.Read.remaining c.args.input.now) (g.R.Read.remaining l.input) (g.R.Read.remaining c.read_line.new.reader) (g.W.Write.contents c.args.output.now) (g.W.Write.contents c.end_answer.new.output) c.read_line.new.line.items
          l.invariant.plant l.invariant.digest c.tail_is_a_run.ensures l.invariant.served c.in_ok-read_line.ensures.kept c.in_ok-read_line.ensures.left (cut-of c.as_slice.ensures.value c.new.ensures.lines c.in-Some.ensures.line)
          c.read_command-command.ensures c.system.ensures.plant c.ends.ensures c.if-ends.false c.in_ok-failed.ensures.answered c.in_ok-end_answer.ensures c.if-failed.false;
    }
