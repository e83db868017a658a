-- What commands keep of a session.
use Rattle.std.proofs.Common.{◌≡◌, refl, ℕ, ◌-◌, ◌<◌, Bool, true, false, cond, List, [], ◌∷◌, length}
use Rattle.std.specs.Prelude.{Option, Some, None, nat_lt}
use Rattle.std.specs.Option.{option_map_or}
use Rattle.std.proofs.lemmas.Bool.{ltb-true}
use Rattle.plant_model.specs.Choice.{choices}
use Rattle.plant_model.specs.Lookup.{connector_named}
use Rattle.plant_model.specs.Plant.{PlantDefinition}
use Rattle.run_text.specs.Picks.{random_from}
use Rattle.step_session.specs.Answers.{choice_count, count_until, fire_named_session, fire_only_session, fire_session, fire_until_session, fired_more, go_until_session, own_numbers, random_session, session_after, session_from}
use Rattle.step_session.specs.Command.{CommandDefinition, shows, fires, fires_named, takes_back, fires_random, fires_until, tells, tells_of, saves_to, helps, quits, mistaken, command_in}
use Rattle.step_session.specs.Fired.{IsThere}
use Rattle.step_session.specs.Session.{SessionDefinition, states_at}
use Rattle.step_session.proofs.AtRandom.{picked-there}
use Rattle.run_text.proofs.ByConnector.{first-within}
use Rattle.step_session.proofs.Firing.{entry-at, take-there, there-append, there-more}

module _ (plant : PlantDefinition) where
  -- a number fires a choice that is there, or nothing
  fire-there : (session : SessionDefinition) (number : ℕ) → IsThere plant session.fired → IsThere plant (fire_session plant session number).fired
  fire-there session number all = each (nat_lt number (choice_count plant session)) refl
    where
      each : (b : Bool) → nat_lt number (choice_count plant session) ≡ b → IsThere plant (cond b (fired_more session (number ∷ []) session.random) session).fired
      each true is =
          let entry = entry-at (choices plant (states_at plant session)) number (ltb-true number (choice_count plant session) is) in
          there-more plant session.fired number entry.0 all entry.1
      each false is = all

  -- so does the name of a connector
  only-there : (session : SessionDefinition) (numbers : List ℕ) → ((number : ℕ) → numbers ≡ number ∷ [] → number < choice_count plant session)
      → IsThere plant session.fired → IsThere plant (fire_only_session session numbers).fired
  only-there session [] within all = all
  only-there session (number ∷ []) within all =
      let entry = entry-at (choices plant (states_at plant session)) number (within number refl) in
      there-more plant session.fired number entry.0 all entry.1
  only-there session (number ∷ other ∷ others) within all = all

  named-there : (session : SessionDefinition) (name : List ℕ) → IsThere plant session.fired → IsThere plant (fire_named_session plant session name).fired
  named-there session name all = each (connector_named plant name)
    where
      each : (o : Option ℕ) → IsThere plant (option_map_or (λ k. fire_only_session session (own_numbers plant session k)) o session).fired
      each None = all
      each (Some k) = only-there session (own_numbers plant session k) (first-within k (choices plant (states_at plant session))) all

  -- random choices are there
  random-there : (session : SessionDefinition) (count : ℕ) → IsThere plant session.fired → IsThere plant (random_session plant session count).fired
  random-there session count all = there-append plant session.fired _ all (picked-there plant (random_from count session.random) (states_at plant session))

  until-there : (session : SessionDefinition) (name : List ℕ) (most : ℕ) → IsThere plant session.fired → IsThere plant (fire_until_session plant session name most).fired
  until-there session name most all = each (connector_named plant name)
    where
      each : (o : Option ℕ) → IsThere plant (option_map_or (λ k. go_until_session plant session k most) o session).fired
      each None = all
      each (Some k) = random-there session (count_until plant session k most) all

  -- what was fired has its entries after each command
  pub after-there : (session : SessionDefinition) (command : CommandDefinition) → IsThere plant session.fired → IsThere plant (session_after plant session command).fired
  after-there session shows all = all
  after-there session (fires number) all = fire-there session number all
  after-there session (fires_named name) all = named-there session name all
  after-there session takes_back all = take-there plant session.fired (length session.fired - 1) all
  after-there session (fires_random count) all = random-there session count all
  after-there session (fires_until name most) all = until-there session name most all
  after-there session tells all = all
  after-there session (tells_of name) all = all
  after-there session (saves_to path) all = all
  after-there session helps all = all
  after-there session quits all = all
  after-there session (mistaken mistake) all = all

  -- and after lines
  pub lines-there : (lines : List (List ℕ)) (session : SessionDefinition) → IsThere plant session.fired → IsThere plant (session_from plant session lines).fired
  lines-there [] session all = all
  lines-there (line ∷ lines) session all = lines-there lines (session_after plant session (command_in line)) (after-there session (command_in line) all)
