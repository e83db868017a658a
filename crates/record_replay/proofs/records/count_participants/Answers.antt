use Rattle.std.proofs.Common.{◌≡◌, ◌+◌, ◌<◌, sym, ◌∙◌, ap, subst, arith, length, get_or, set, length-set, Contains}
use Rattle.std.specs.List.Sorted.{IsStrictlyIncreasing}
use Rattle.std.proofs.lemmas.List.Elements.{Contains-get_or}
use Rattle.plant_model.specs.Laws.{atoms_of}
use Rattle.plant_model.specs.declared.choice.Move.{Move}
use Rattle.record_replay.specs.Records.{count_of}
use Rattle.record_replay.proofs.Counting.{counted-next, counted-none, counted-yet}
use Rattle.record_replay.proofs.records.count_participants.Goals as goal

pub loop-step-init : goal.loop-step-init
loop-step-init c = record { counted = counted-none 0 c.args.counts.now; all = c.told-counts }

pub bounds-counts-from : goal.bounds-counts-from
bounds-counts-from c =
    let none : Move = record { atom = 0; transition = 0 } in
    let moves = c.as_slice-moves.result.now in
    let k = c.loop-step.step-index in
    let at = subst (λ ms. Contains ms (get_or moves k none)) c.as_slice-moves.ensures.moves (Contains-get_or moves k none c.loop-step-test.true) in
    omega (arith, c.from.ensures, c.requires.there (get_or moves k none) at)

pub overflow_add-counts : goal.overflow_add-counts
overflow_add-counts c =
    let none : Move = record { atom = 0; transition = 0 } in
    let moves = c.as_slice-moves.result.now in
    let k = c.loop-step.step-index in
    let counts = c.args.counts.now in
    let own = (get_or moves k none).atom in
    let at = subst (λ ms. Contains ms (get_or moves k none)) c.as_slice-moves.ensures.moves (Contains-get_or moves k none c.loop-step-test.true) in
    let rising = subst (λ ms. IsStrictlyIncreasing (atoms_of ms)) (sym c.as_slice-moves.ensures.moves) c.requires.rising in
    let there : own < length counts = omega (arith, c.told-counts, c.requires.there (get_or moves k none) at) in
    let same : count_of c.loop-step.counts c.from.result ≡ count_of counts own =
    ap (count_of c.loop-step.counts) c.from.ensures ∙ ap (λ cs. count_of cs own) c.loop-step.invariant.counted ∙ counted-yet moves k none rising c.loop-step-test.true counts there in
    omega (arith, same, c.requires.room (get_or moves k none) at)

pub bounds-counts-from-in-loop-step : goal.bounds-counts-from-in-loop-step
bounds-counts-from-in-loop-step c =
    let none : Move = record { atom = 0; transition = 0 } in
    let moves = c.as_slice-moves.result.now in
    let k = c.loop-step.step-index in
    let at = subst (λ ms. Contains ms (get_or moves k none)) c.as_slice-moves.ensures.moves (Contains-get_or moves k none c.loop-step-test.true) in
    omega (arith, c.from.ensures, c.requires.there (get_or moves k none) at)

pub loop-step-preserved : goal.loop-step-preserved
loop-step-preserved c =
    let none : Move = record { atom = 0; transition = 0 } in
    let moves = c.as_slice-moves.result.now in
    let k = c.loop-step.step-index in
    let counts = c.args.counts.now in
    let now = c.loop-step.counts in
    let own = (get_or moves k none).atom in
    let at = subst (λ ms. Contains ms (get_or moves k none)) c.as_slice-moves.ensures.moves (Contains-get_or moves k none c.loop-step-test.true) in
    let rising = subst (λ ms. IsStrictlyIncreasing (atoms_of ms)) (sym c.as_slice-moves.ensures.moves) c.requires.rising in
    let there : own < length counts = omega (arith, c.told-counts, c.requires.there (get_or moves k none) at) in
    record {
      counted =
          ap (λ n. set now n (get_or now n 0 + 1)) c.from.ensures ∙
          ap (λ cs. set cs own (get_or cs own 0 + 1)) c.loop-step.invariant.counted ∙
          counted-next moves k none rising c.loop-step-test.true counts there;
      all = length-set now c.from.result (get_or now c.from.result 0 + 1) ∙ c.loop-step.invariant.all;
    }
