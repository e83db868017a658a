use Rattle.std.proofs.Common.{◌≡◌, ◌∙◌, ◌==◌, ◌-◌, ap, sym, length, nat_lt}
use Rattle.std.specs.List.{list_any}
use Rattle.std.proofs.lemmas.List.FromFn.{length-range_with_len}
use Rattle.plant_model.specs.Choice.{choices}
use Rattle.step_core.specs.Running.{plant_in, states_in}
use Rattle.run_text.specs.OwnNumbers.{numbers_of}
use Rattle.run_text.proofs.ByConnector.{any-number}
use Rattle.step_session.proofs.session.Session.can_fire.Goals as goal

pub returns : goal.returns
returns c =
    let run = c.args.self.now.run in
    let connector = c.args.connector in
    let numbers = c.numbers_of.result in
    let many : c.count.result ≡ length (numbers_of (plant_in run) (states_in run) connector) =
    c.count.ensures ∙ sym (ap length c.numbers_of.ensures.numbers ∙ length-range_with_len numbers.first (numbers.end - numbers.first)) in
    ap (nat_lt 0) many ∙ sym (any-number connector 0 (choices (plant_in run) (states_in run))) ∙
    ap (λ states. list_any (λ c. c.connector == connector) (choices (plant_in run) states)) c.args.self.now.stands
