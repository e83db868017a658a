use Rattle.std.proofs.Common.{◌≡◌, ◌+◌, ◌∙◌, ℕ, List, [], ◌∷◌, ap, arith, length, refl, sym, subst}
use Rattle.std.specs.Prelude.{Option, None, Some, IfSome, option_map}
use Rattle.plant_model.specs.Choice.{ChoiceDefinition}
use Rattle.plant_model.specs.Chosen.{choice_of}
use Rattle.plant_model.specs.Step.{next}
use Rattle.step_core.specs.Running.{plant_in, states_in}
use Rattle.run_text.specs.Alone.{alone}
use Rattle.run_text.specs.History.{History}
use Rattle.run_text.specs.Picks.{Gives, PickDefinition, pick_of, take_of}
use Rattle.run_text.specs.Runs.{chosen, state_after}
use Rattle.run_text.specs.Taken.{fires, taken_as}
use Rattle.run_text.specs.Watched.{left_behind, watched}
use Rattle.run_text.specs.declared.watching.Reached.{Reached}
use Rattle.run_text.proofs.GoingOn.{GoesOn, IsPast, Stand, count-last, count-stuck, goes-behind, if-known, past-refused, past-stuck, past-the-last, told-all, printed-last, ready-last}
use Rattle.run_text.proofs.Takes.{fires-allowed}
use Rattle.run_text.proofs.Watched.{left-after}
use Rattle.run_text.proofs.running.run_picks.Goals.{in-Some+in-Stuck+in_ok-tell_stuck-in-Stuck, in_default}
use Rattle.run_text.proofs.running.run_picks.Goals as goal

pub fire_and_print-requires-clause-allowed : goal.fire_and_print-requires-clause-allowed
fire_and_print-requires-clause-allowed g c =
    (fires-allowed (plant_in c.loop-pick.run) (states_in c.loop-pick.run) (c.loop-pick.fired + 1) (take_of c.in-Some.pick.take) (choice_of c.in-Fires.choice) (sym c.in-Fires.ensures)).0

pub fire_and_print-requires-clause-ready : goal.fire_and_print-requires-clause-ready
fire_and_print-requires-clause-ready g c =
    let so_far = c.loop-pick.invariant.ready c.requires.0 c.requires.1 in
    (so_far.0, so_far.1)

pub loop-pick-preserved : goal.loop-pick-preserved
loop-pick-preserved g c =
    let l = c.loop-pick in
    let held = g.V.Watching.held c.args.watching.now in
    let plant = plant_in c.args.run.now in
    let start : History → Stand = λ told. record { states = states_in c.args.run.now; number = 1; left = watched held plant (states_in c.args.run.now) 1 (g.P.Picks.left c.args.picks.now); told = told; printed = g.W.Write.contents c.args.output.now; saved = g.S.Write.contents c.args.saved.now } in
    let now : History → Stand = λ so_far. record { states = states_in l.run; number = l.fired + 1; left = watched held plant (states_in l.run) (l.fired + 1) (g.P.Picks.left l.picks); told = so_far; printed = g.W.Write.contents l.output; saved = g.S.Write.contents l.saved } in
    let shown = c.in_ok-fire_and_print-in-Fires.ensures in
    let pick = c.in-Some.pick in
    let chosen = choice_of c.in-Fires.choice in
    let states = states_in l.run in
    let behind = g.P.Picks.left c.next_watched.new.picks in
    let later = states_in c.fire_and_print.new.run in
    let unheld = subst (λ p. held p states ≡ None) l.invariant.plant
    (subst (λ given. IfSome given (λ pick. (number : ℕ) (d : ChoiceDefinition) → taken_as (plant_in l.run) states number (take_of pick.take) ≡ fires d → held (plant_in l.run) states ≡ None))
    c.in-Some.is c.in_ok-pick.ensures.unheld (l.fired + 1) chosen (sym c.in-Fires.ensures)) in
    let takes = subst (λ p. taken_as p states (l.fired + 1) (take_of pick.take) ≡ fires chosen) l.invariant.plant (sym c.in-Fires.ensures) in
    let given = subst (λ p. Gives (watched held p states (l.fired + 1) (g.P.Picks.left l.picks)) (left_behind held p states (l.fired + 1) (Some (pick_of pick)) behind) (Some pick)) l.invariant.plant
    (subst (λ given. Gives (watched held (plant_in l.run) states (l.fired + 1) (g.P.Picks.left l.picks)) (left_behind held (plant_in l.run) states (l.fired + 1) (option_map pick_of given) behind) given)
    c.in-Some.is (c.in_ok-pick.ensures.gives (l.fired + 1))) in
    let left_is : left_behind held plant states (l.fired + 1) (Some (pick_of pick)) behind ≡ watched held plant later (l.fired + 1 + 1) behind =
    left-after held plant states (l.fired + 1) (pick_of pick) behind chosen unheld takes
    ∙ ap (λ s. watched held plant s (l.fired + 1 + 1) behind) (sym (shown.next ∙ ap (λ p. next p states (alone chosen)) l.invariant.plant)) in
    record {
      system = shown.system ∙ l.invariant.system;
      plant = shown.plant ∙ l.invariant.plant;
      parts = shown.same ∙ l.invariant.parts;
      ready = λ told is.
          let so_far = l.invariant.ready told is in (
            record { before = states; choice = chosen } ∷ so_far.0,
            shown.ready so_far.0 so_far.1,
            λ picks known.
                goes-behind (g.T.Telling.parts c.args.telling.now) (plant_in c.args.run.now) picks (start told) (now so_far.0) (so_far.2 picks known) (g.T.Telling.parts l.telling) (plant_in l.run) l.invariant.parts l.invariant.plant
                pick chosen later (l.fired + 1 + 1) (watched held plant later (l.fired + 1 + 1) behind)
                (g.W.Write.contents c.fire_and_print.new.output) (g.S.Write.contents c.fire_and_print.new.saved)
                (subst (λ rest. Gives (now so_far.0).left rest (Some pick)) left_is given)
                (sym c.in-Fires.ensures) shown.next refl shown.printed shown.saved,
          );
    }

pub returns-in-Refused : goal.returns-in-Refused
returns-in-Refused g c =
    let l = c.loop-pick in
    let held = g.V.Watching.held c.args.watching.now in
    let pick = c.in-Some.pick in
    let parts = g.T.Telling.parts c.args.telling.now in
    let plant = plant_in c.args.run.now in
    let taken = g.V.Watching.taken c.args.watching.now plant (states_in c.args.run.now) (g.P.Picks.left c.args.picks.now) in
    let taken_is : watched held plant (states_in c.args.run.now) 1 (g.P.Picks.left c.args.picks.now) ≡ taken =
    g.met.V.Watching.taken_is c.args.watching.now plant (states_in c.args.run.now) (g.P.Picks.left c.args.picks.now) in
    let start : History → Stand = λ told. record { states = states_in c.args.run.now; number = 1; left = watched held plant (states_in c.args.run.now) 1 (g.P.Picks.left c.args.picks.now); told = told; printed = g.W.Write.contents c.args.output.now; saved = g.S.Write.contents c.args.saved.now } in
    let now : History → Stand = λ so_far. record { states = states_in l.run; number = l.fired + 1; left = watched held plant (states_in l.run) (l.fired + 1) (g.P.Picks.left l.picks); told = so_far; printed = g.W.Write.contents l.output; saved = g.S.Write.contents l.saved } in
    let past : (told so_far : History) → ((picks : List PickDefinition) → (start told).left ≡ Some picks → GoesOn parts plant picks (start told) (now so_far)) → (picks : List PickDefinition) → (start told).left ≡ Some picks
    → IsPast plant parts picks (start told) (Some (record { place = pick.place; why = c.in-Refused.why })) (states_in l.run) so_far (g.W.Write.contents l.output) (g.S.Write.contents l.saved) [] =
    λ told so_far goes picks known.
    past-refused parts plant picks (start told) (now so_far) (goes picks known) (g.T.Telling.parts l.telling) (plant_in l.run) l.invariant.parts l.invariant.plant
    pick (left_behind held plant (states_in l.run) (l.fired + 1) (Some (pick_of pick)) (g.P.Picks.left c.next_watched.new.picks)) c.in-Refused.why
    (subst (λ p. Gives (watched held p (states_in l.run) (l.fired + 1) (g.P.Picks.left l.picks)) (left_behind held p (states_in l.run) (l.fired + 1) (Some (pick_of pick)) (g.P.Picks.left c.next_watched.new.picks)) (Some pick)) l.invariant.plant
    (subst (λ given. Gives (watched held (plant_in l.run) (states_in l.run) (l.fired + 1) (g.P.Picks.left l.picks)) (left_behind held (plant_in l.run) (states_in l.run) (l.fired + 1) (option_map pick_of given) (g.P.Picks.left c.next_watched.new.picks)) given)
    c.in-Some.is (c.in_ok-pick.ensures.gives (l.fired + 1))))
    (sym c.in-Refused.ensures) in
    let first = l.invariant.ready c.requires.0 c.requires.1 in
    let ended : (picks : List PickDefinition) → (start c.requires.0).left ≡ Some picks → IsPast plant parts picks (start c.requires.0) (Some (record { place = pick.place; why = c.in-Refused.why })) (states_in l.run) first.0 (g.W.Write.contents l.output) (g.S.Write.contents l.saved) [] = past c.requires.0 first.0 first.2 in
    record {
      system = l.invariant.system;
      plant = l.invariant.plant;
      states = if-known taken _ (λ picks known. (ended picks (taken_is ∙ known)).end_is);
      refusal = if-known taken _ (λ picks known. (ended picks (taken_is ∙ known)).refusal_is);
      printed = if-known taken _ (λ picks known. told-all (ended picks (taken_is ∙ known)));
      saved = if-known taken _ (λ picks known. (ended picks (taken_is ∙ known)).saved_all);
      reached = tt;
      ready = λ told is.
          let so_far = l.invariant.ready told is in
          if-known taken _ (λ picks known.
          ready-last (g.T.Telling.IsReady l.telling) (plant_in l.run) l.invariant.plant (past told so_far.0 so_far.2 picks (taken_is ∙ known)) so_far.1);
      no_memory = λ same. cc;
    }

pub returns : goal.returns
returns g c =
    let l = c.loop-pick in
    let held = g.V.Watching.held c.args.watching.now in
    let parts = g.T.Telling.parts c.args.telling.now in
    let telling = g.T.Telling.parts l.telling in
    let plant = plant_in c.args.run.now in
    let taken = g.V.Watching.taken c.args.watching.now plant (states_in c.args.run.now) (g.P.Picks.left c.args.picks.now) in
    let taken_is : watched held plant (states_in c.args.run.now) 1 (g.P.Picks.left c.args.picks.now) ≡ taken =
    g.met.V.Watching.taken_is c.args.watching.now plant (states_in c.args.run.now) (g.P.Picks.left c.args.picks.now) in
    let start : History → Stand = λ told. record { states = states_in c.args.run.now; number = 1; left = watched held plant (states_in c.args.run.now) 1 (g.P.Picks.left c.args.picks.now); told = told; printed = g.W.Write.contents c.args.output.now; saved = g.S.Write.contents c.args.saved.now } in
    let now : History → Stand = λ so_far. record { states = states_in l.run; number = l.fired + 1; left = watched held plant (states_in l.run) (l.fired + 1) (g.P.Picks.left l.picks); told = so_far; printed = g.W.Write.contents l.output; saved = g.S.Write.contents l.saved } in
    let left = telling.end (plant_in l.run) (states_in l.run) (l.fired + 1) in
    let behind = g.P.Picks.left c.next_watched.new.picks in
    let gives = c.in_ok-pick.ensures.gives (l.fired + 1) in
    let past : (told so_far : History) → ((picks : List PickDefinition) → (start told).left ≡ Some picks → GoesOn parts plant picks (start told) (now so_far)) → (picks : List PickDefinition) → (start told).left ≡ Some picks
    → IsPast plant parts picks (start told) None (states_in l.run) so_far (g.W.Write.contents c.match-branch-2.output) (g.S.Write.contents l.saved) left =
    λ told so_far goes picks known. elim c.match-branch-2.branch [
      | in-Some+in-Stuck+in_ok-tell_stuck-in-Stuck w ↦ subst (λ output. IsPast plant parts picks (start told) None (states_in l.run) so_far (g.W.Write.contents output) (g.S.Write.contents l.saved) left) (sym w.output-is)
          (past-stuck parts plant picks (start told) (now so_far) (goes picks known) telling (plant_in l.run) l.invariant.parts l.invariant.plant
          w.in-Some.pick (left_behind held plant (states_in l.run) (l.fired + 1) (Some (pick_of w.in-Some.pick)) behind) _
          (subst (λ p. Gives (watched held p (states_in l.run) (l.fired + 1) (g.P.Picks.left l.picks)) (left_behind held p (states_in l.run) (l.fired + 1) (Some (pick_of w.in-Some.pick)) behind) (Some w.in-Some.pick)) l.invariant.plant
          (subst (λ given. Gives (watched held (plant_in l.run) (states_in l.run) (l.fired + 1) (g.P.Picks.left l.picks)) (left_behind held (plant_in l.run) (states_in l.run) (l.fired + 1) (option_map pick_of given) behind) given)
          w.in-Some.is gives))
          (sym w.in-Stuck.ensures) w.in_ok-tell_stuck-in-Stuck.ensures)
      | in_default w ↦ subst (λ output. IsPast plant parts picks (start told) None (states_in l.run) so_far (g.W.Write.contents output) (g.S.Write.contents l.saved) left) (sym w.output-is)
          (past-the-last parts plant picks (start told) (now so_far) (goes picks known) telling (plant_in l.run) l.invariant.parts l.invariant.plant
          (left_behind held plant (states_in l.run) (l.fired + 1) None behind)
          (subst (λ p. Gives (watched held p (states_in l.run) (l.fired + 1) (g.P.Picks.left l.picks)) (left_behind held p (states_in l.run) (l.fired + 1) None behind) None) l.invariant.plant
          (subst (λ given. Gives (watched held (plant_in l.run) (states_in l.run) (l.fired + 1) (g.P.Picks.left l.picks)) (left_behind held (plant_in l.run) (states_in l.run) (l.fired + 1) (option_map pick_of given) behind) given)
          w.in_default.is gives)))
    ] in
    let counted : (told so_far : History) → ((picks : List PickDefinition) → (start told).left ≡ Some picks → GoesOn parts plant picks (start told) (now so_far)) → (picks : List PickDefinition) → (start told).left ≡ Some picks
    → l.fired + 1 ≡ 1 + length (chosen plant (states_in c.args.run.now) 1 picks) =
    λ told so_far goes picks known. elim c.match-branch-2.branch [
      | in-Some+in-Stuck+in_ok-tell_stuck-in-Stuck w ↦ count-stuck parts plant picks (start told) (now so_far) (goes picks known) telling (plant_in l.run) l.invariant.parts l.invariant.plant
          w.in-Some.pick (left_behind held plant (states_in l.run) (l.fired + 1) (Some (pick_of w.in-Some.pick)) behind)
          (subst (λ p. Gives (watched held p (states_in l.run) (l.fired + 1) (g.P.Picks.left l.picks)) (left_behind held p (states_in l.run) (l.fired + 1) (Some (pick_of w.in-Some.pick)) behind) (Some w.in-Some.pick)) l.invariant.plant
          (subst (λ given. Gives (watched held (plant_in l.run) (states_in l.run) (l.fired + 1) (g.P.Picks.left l.picks)) (left_behind held (plant_in l.run) (states_in l.run) (l.fired + 1) (option_map pick_of given) behind) given)
          w.in-Some.is gives))
          (sym w.in-Stuck.ensures)
      | in_default w ↦ count-last parts plant picks (start told) (now so_far) (goes picks known) telling (plant_in l.run) l.invariant.parts l.invariant.plant
          (left_behind held plant (states_in l.run) (l.fired + 1) None behind)
          (subst (λ p. Gives (watched held p (states_in l.run) (l.fired + 1) (g.P.Picks.left l.picks)) (left_behind held p (states_in l.run) (l.fired + 1) None behind) None) l.invariant.plant
          (subst (λ given. Gives (watched held (plant_in l.run) (states_in l.run) (l.fired + 1) (g.P.Picks.left l.picks)) (left_behind held (plant_in l.run) (states_in l.run) (l.fired + 1) (option_map pick_of given) behind) given)
          w.in_default.is gives))
    ] in
    let first = l.invariant.ready c.requires.0 c.requires.1 in
    let ended : (picks : List PickDefinition) → (start c.requires.0).left ≡ Some picks → IsPast plant parts picks (start c.requires.0) None (states_in l.run) first.0 (g.W.Write.contents c.match-branch-2.output) (g.S.Write.contents l.saved) left = past c.requires.0 first.0 first.2 in
    let reached : ℕ → Option ℕ → Option Reached = λ number watch. option_map (λ (w : ℕ). record { number = number; watch = w }) watch in
    record {
      system = l.invariant.system;
      plant = l.invariant.plant;
      states = if-known taken _ (λ picks known. (ended picks (taken_is ∙ known)).end_is);
      refusal = if-known taken _ (λ picks known. (ended picks (taken_is ∙ known)).refusal_is);
      printed = if-known taken _ (λ picks known. printed-last _ (ended picks (taken_is ∙ known)) c.in_ok-tell_end.ensures);
      saved = if-known taken _ (λ picks known. (ended picks (taken_is ∙ known)).saved_all);
      reached = if-known taken _ (λ picks known.
          c.reached_after.ensures
          ∙ ap (λ p. reached l.fired (held p (states_in l.run))) l.invariant.plant
          ∙ ap (λ s. reached l.fired (held plant s)) (ended picks (taken_is ∙ known)).end_is
          ∙ ap (λ n. reached n (held plant (state_after plant (states_in c.args.run.now) picks))) (omega (arith, counted c.requires.0 first.0 first.2 picks (taken_is ∙ known))));
      ready = λ told is.
          let so_far = l.invariant.ready told is in
          if-known taken _ (λ picks known.
          ready-last (g.T.Telling.IsReady l.telling) (plant_in l.run) l.invariant.plant (past told so_far.0 so_far.2 picks (taken_is ∙ known)) so_far.1);
      no_memory = λ same. cc;
    }
