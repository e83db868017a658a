use Rattle.std.proofs.Common.{◌≡◌, ◌<◌, ◌∙◌, sym, ap, arith, length, drop, get_or, true}
use Rattle.std.specs.Prelude.{None, is_some, slice_get}
use Rattle.std.specs.List.{filter_map}
use Rattle.std.proofs.lemmas.List.{get_or_default}
use Rattle.step_core.proofs.Queued.{first-item, other-items, no-item}
use Rattle.step_core.proofs.queue.Queue.take.Goals as goal

pub returns-then-is_some-clause-first : goal.returns-then-is_some-clause-first
returns-then-is_some-clause-first g c =
    let places = c.loop-place.self.places in
    let k = c.loop-place.place in
    let within : k < length places = omega (arith, c.loop-place.invariant.long) in
    let there : is_some (get_or places k None) ≡ true = ap is_some (get_or_default places k None c.index-self-place.result within) ∙ sym c.is_some.ensures ∙ c.if-is_some.true in
    c.replace.ensures.value ∙ first-item places k within c.loop-place.invariant.empty there ∙
    ap (λ xs. slice_get (filter_map (λ x. x) xs) 0) c.loop-place.invariant.same

pub returns-then-is_some-clause-rest : goal.returns-then-is_some-clause-rest
returns-then-is_some-clause-rest g c =
    let places = c.loop-place.self.places in
    let k = c.loop-place.place in
    let within : k < length places = omega (arith, c.loop-place.invariant.long) in
    let there : is_some (get_or places k None) ≡ true = ap is_some (get_or_default places k None c.index-self-place.result within) ∙ sym c.is_some.ensures ∙ c.if-is_some.true in
    ap (λ xs. filter_map (λ x. x) xs) c.replace.ensures.after ∙ other-items places k within c.loop-place.invariant.empty there ∙
    ap (λ xs. drop 1 (filter_map (λ x. x) xs)) c.loop-place.invariant.same

pub returns-clause-first : goal.returns-clause-first
returns-clause-first g c =
    let places = c.loop-place.self.places in
    let none = no-item places (λ n below. c.loop-place.invariant.empty n (omega (arith, below, c.loop-place.invariant.long, c.loop-place-test.false))) in
    sym (ap (λ xs. slice_get (filter_map (λ x. x) xs) 0) (sym c.loop-place.invariant.same) ∙ ap (λ xs. slice_get xs 0) none)

pub returns-clause-rest : goal.returns-clause-rest
returns-clause-rest g c =
    let places = c.loop-place.self.places in
    let none = no-item places (λ n below. c.loop-place.invariant.empty n (omega (arith, below, c.loop-place.invariant.long, c.loop-place-test.false))) in
    none ∙ sym (ap (λ xs. drop 1 (filter_map (λ x. x) xs)) (sym c.loop-place.invariant.same) ∙ ap (drop 1) none)
