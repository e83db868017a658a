use Rattle.std.proofs.Common.{◌≡◌, ◌≢◌, ◌∙◌, ap, refl, sym, length, not, true}
use Rattle.std.specs.Prelude.{is_some}
use Rattle.plant_model.specs.Choice.{choices}
use Rattle.step_core.specs.Running.{plant_in, states_in}
use Rattle.run_text.specs.declared.pick.Take.TheVariants.{Counted}
use Rattle.run_text.proofs.Watched.{gives-held, gives-last}
use Rattle.run_text.proofs.running.next_watched.Goals as goal

pub returns-then-count-eq0-clause-gives : goal.returns-then-count-eq0-clause-gives
returns-then-count-eq0-clause-gives g c =
    let held = g.V.Watching.held c.args.watching.now in
    let plant = plant_in c.args.run.now in
    let states = states_in c.args.run.now in
    let is : is_some (held plant states) ≡ true = ap is_some (sym c.first_held.ensures) ∙ c.is_none.ensures ∙ ap not c.if-is_none.false in
    let none : length (choices plant states) ≡ 0 = sym c.count.ensures.count ∙ c.if-count-eq0.true in
    λ number. gives-last held plant states number (g.P.Picks.left c.args.picks.now) (record { place = 0; take = Counted 0 }) is none refl

pub returns-clause-gives : goal.returns-clause-gives
returns-clause-gives g c =
    let held = g.V.Watching.held c.args.watching.now in
    let plant = plant_in c.args.run.now in
    let states = states_in c.args.run.now in
    let is : is_some (held plant states) ≡ true = ap is_some (sym c.first_held.ensures) ∙ c.is_none.ensures ∙ ap not c.if-is_none.false in
    let some : length (choices plant states) ≢ 0 = λ none. c.if-count-eq0.false (c.count.ensures.count ∙ none) in
    λ number. gives-held held plant states number (g.P.Picks.left c.args.picks.now) is some
