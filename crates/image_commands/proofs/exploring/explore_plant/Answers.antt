-- The trials that were made are the first ones of the run, and at its end they are all.
use Rattle.std.proofs.Common.{rules, ◌≡◌, ◌+◌, ◌<◌, ◌∙◌, ap, subst, sym, refl, arith, ℕ, [], ◌∷◌, ◌++◌, length}
use Rattle.std.specs.Io.KnownBytes.{Appends}
use Rattle.std.proofs.KnownBytes.{Appends-kept, Appends-nil, Appends-trans}
use Rattle.std.proofs.lemmas.List.{length-append}
use Rattle.std.proofs.lemmas.List.Sums.{sum_by_push}
use Rattle.plant_model.specs.System.{digest_of, plant_of}
use Rattle.std.specs.Prelude.{MatchOption, Option}
use Rattle.crash_explorer.specs.Exploring.{IsNextTrial, IsWholeRun, trials_left}
use Rattle.crash_explorer.specs.declared.explorer.Explorer.{Explorer}
use Rattle.crash_explorer.specs.declared.explorer.Trial.{Trial}
use Rattle.image_commands.specs.Trials.{IsTrialAt, explored_line, wrong_of}
use Rattle.image_commands.proofs.Trials.{lines_and_next, next_is_at, trials_and_next, wrong_of-few}
use Rattle.image_commands.proofs.exploring.explore_plant.Goals as goal

pub loop-explorer-init : goal.loop-explorer-init
loop-explorer-init g c = record {
  trials = [];
  of_run = c.in_ok-explorer.ensures.run;
  stops = refl;
  each = tt;
  many = refl;
  left = omega (arith, c.in_ok-explorer.ensures.trials);
  wrong = refl;
  few = omega arith;
  printed = Appends-nil (g.W.Write.contents c.args.output.now);
}

pub loop-explorer-preserved : goal.loop-explorer-preserved
loop-explorer-preserved g c =
    let seen = c.loop-explorer.invariant in
    let system = c.args.system.now in
    let e : Explorer = c.loop-explorer.explorer in
    let t : Trial = c.in-Some.trial in
    let before : ℕ = c.loop-explorer.boots in
    let after : Explorer = c.next_trial.new.self in
    let next : IsNextTrial e t = subst (λ (o : Option Trial). MatchOption o (trials_left e ≡ 0) (IsNextTrial e)) c.in-Some.is c.in_ok-trial.ensures.trial in
    let fewer : trials_left after + 1 ≡ trials_left e =
    subst (λ (o : Option Trial). MatchOption o (after ≡ e) (λ _. trials_left after + 1 ≡ trials_left e)) c.in-Some.is c.in_ok-trial.ensures.left in
    let more : 0 < trials_left e = omega (arith, fewer) in
    let numbered : IsTrialAt (plant_of system) (digest_of system) c.args.ring c.args.events.now before t =
    next_is_at system c.args.ring c.args.events.now e before t seen.of_run seen.left more next in
    let place : before ≡ 0 + length seen.trials = omega (arith, seen.many) in
    record {
      trials = seen.trials ++ t ∷ [];
      of_run = record {
        of_system = c.next_trial.ensures.run.of_system ∙ seen.of_run.of_system;
        of_ring = c.next_trial.ensures.run.of_ring ∙ seen.of_run.of_ring;
        of_events = c.next_trial.ensures.run.of_events ∙ seen.of_run.of_events;
      };
      stops = c.next_trial.ensures.stops ∙ seen.stops;
      each = trials_and_next (plant_of system) (digest_of system) c.args.ring c.args.events.now 0 seen.trials t seen.each (subst (λ (n : ℕ). IsTrialAt (plant_of system) (digest_of system) c.args.ring c.args.events.now n t) place numbered);
      many = omega (arith, seen.many, length-append seen.trials (t ∷ []));
      left = omega (arith, seen.left, fewer, c.next_trial.ensures.stops);
      wrong = c.wrong_with-wrong.ensures ∙ ap (λ (n : ℕ). n + wrong_of t) seen.wrong ∙ sym (sum_by_push wrong_of seen.trials t);
      few = omega (arith, seen.few, c.wrong_with-wrong.ensures, wrong_of-few t);
      printed = lines_and_next _ _ _ c.args.list seen.trials t seen.printed c.in_ok-list_trial.ensures;
    }

pub returns : goal.returns
returns g c =
    let seen = c.loop-explorer.invariant in
    let system = c.args.system.now in
    let none : trials_left c.loop-explorer.explorer ≡ 0 = search rules in
    let stops : ℕ = c.stops-2.result in
    let wrong : ℕ = c.loop-explorer.wrong in
    let before = g.W.Write.contents c.loop-explorer.output in
    let after = g.W.Write.contents c.print_explored.new.output in
    let line : Appends before after (explored_line stops (length seen.trials) wrong) =
    subst (λ (boots : ℕ). Appends before after (explored_line stops boots wrong)) seen.many c.in_ok-print_explored.ensures in
    record {
      stops = stops;
      whole = subst (λ (n : ℕ). IsWholeRun (plant_of system) (digest_of system) c.args.ring c.args.events.now n) (sym (c.stops-2.ensures ∙ c.next_trial.ensures.stops ∙ seen.stops)) c.in_ok-explorer.ensures.stops;
      trials = seen.trials;
      each = seen.each;
      all = omega (arith, seen.many, seen.left, none, c.stops-2.ensures);
      wrong_are = seen.wrong;
      printed = Appends-kept _ _ _ _ (Appends-trans _ _ _ _ _ seen.printed line) c.in_ok-hand_on.ensures;
    }
