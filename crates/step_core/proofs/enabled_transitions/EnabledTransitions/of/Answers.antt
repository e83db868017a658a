use Rattle.std.proofs.Common.{◌≡◌, ◌<◌, ◌∙◌, ℕ, ap, sym, refl, arith, ⊎_elim, map, length, get_or}
use Rattle.std.specs.Prelude.{Some, slice_get}
use Rattle.std.proofs.lemmas.Bool.{cases_eq}
use Rattle.std.proofs.lemmas.List.{length-map, length-set}
use Rattle.std.proofs.lemmas.Option.{same_Some, slice_get_within, slice_get_read}
use Rattle.petri_atom.specs.Atom.{definition_of}
use Rattle.petri_atom.specs.Behind.{movable_set}
use Rattle.petri_atom.specs.Definition.{AtomDefinition, enabled, offered_set}
use Rattle.petri_atom.specs.Local.{Local}
use Rattle.plant_model.proofs.Judging.{atom-there}
use Rattle.step_core.proofs.Recounted.{no-counts, set-here, set-there, count-there, its-ports, its-past, all-few}
use Rattle.step_core.proofs.enabled_transitions.EnabledTransitions.of.Goals as goal

pub loop-number-init : goal.loop-number-init
loop-number-init c = (
  λ n a s below. absurd (omega (arith, below)),
  λ n a s port below. absurd (omega (arith, below)),
  λ n a port below. absurd (omega (arith, below)),
  λ n port _. no-counts 64 32 n port 0 refl,
  λ n port. omega (arith, no-counts 64 32 n port 0 refl),
  refl,
  refl,
  λ n a s below. absurd (omega (arith, below)),
  refl,
)

pub loop-number-preserved : goal.loop-number-preserved
loop-number-preserved c =
    let list = c.args.atoms.now in
    let atoms = map definition_of list in
    let k = c.loop-number.number in
    let sets = c.loop-number.sets in
    let counts = c.loop-number.counts in
    let movable = c.loop-number.movable in
    let can = c.movable_in.result in
    let item = c.index-atoms-number.result in
    let atom = definition_of item in
    let here = atom-there list k item c.loop-number-test.true c.index-atoms-number.is in
    let its : (n : ℕ) (a : AtomDefinition) → n ≡ k → slice_get atoms n ≡ Some a → atom ≡ a =
    λ n a same known. same_Some atom a (sym here ∙ ap (slice_get atoms) (sym same) ∙ known) in
    let new = c.offered-set.result in
    let row = c.counts_among.result in
    let old = c.loop-number.invariant in
    let in-sets : k < length sets = omega (arith, c.loop-number-test.true, c.requires.few, old.5) in
    let in-movable : k < length movable = omega (arith, c.loop-number-test.true, c.requires.few, old.8) in
    let in-counts : k < length counts = omega (arith, c.loop-number-test.true, c.requires.few, old.6) in
    let told : (s : Local) (port : ℕ) → new ≡ offered_set atom s → get_or row port 0 ≡ length (enabled atom s port) =
    λ s port e. c.counts_among.ensures.counts s e port in
    let past = c.counts_among.ensures.past in
    let state : (n : ℕ) (s : Local) → n ≡ k → slice_get c.args.states.now n ≡ Some s → c.index-state.result.now ≡ s =
    λ n s same there.
    same_Some c.index-state.result.now s
    (sym (slice_get_read c.args.states.now (length c.args.states.now) k c.index-state.result.now refl (omega (arith, c.requires.as_many, c.loop-number-test.true)) (c.index-state.ensures ∙ ap (λ xs. get_or xs k c.index-state.result.now) c.states.view_is)) ∙ ap (slice_get c.args.states.now) (sym same) ∙ there) in
    let few = c.counts_among.ensures.few in (
      λ n a s below known there. ⊎_elim
          (λ same. set-here sets counts k new row in-sets in-counts n same ∙ c.offered-set.ensures ∙ ap (λ b. offered_set b c.index-state.result.now) (its n a same known) ∙
          ap (offered_set a) (state n s same there))
          (λ other. set-there sets counts k new row in-sets in-counts n other ∙ old.0 n a s (omega (arith, below, other)) known there)
          (cases_eq n k),
      λ n a s port below known e. ⊎_elim
          (λ same. its-ports sets counts k new row in-sets in-counts atom told past few n a s port same (its n a same known) e)
          (λ other. count-there sets counts k new row in-sets in-counts n port other ∙ old.1 n a s port (omega (arith, below, other)) known (sym (set-there sets counts k new row in-sets in-counts n other) ∙ e))
          (cases_eq n k),
      λ n a port below known beyond. ⊎_elim
          (λ same. its-past sets counts k new row in-sets in-counts atom told past few n a port same (its n a same known) beyond)
          (λ other. count-there sets counts k new row in-sets in-counts n port other ∙ old.2 n a port (omega (arith, below, other)) known beyond)
          (cases_eq n k),
      λ n port from. count-there sets counts k new row in-sets in-counts n port (λ same. absurd (omega (arith, same, from))) ∙ old.3 n port (omega (arith, from)),
      all-few sets counts k new row in-sets in-counts atom told past few old.4,
      length-set sets k new ∙ old.5,
      length-set counts k row ∙ old.6,
      λ n a s below known there. ⊎_elim
          (λ same. set-here movable counts k can row in-movable in-counts n same ∙ c.movable_in.ensures ∙ ap (λ b. movable_set b c.index-state.result.now) (its n a same known) ∙ ap (movable_set a) (state n s same there))
          (λ other. set-there movable counts k can row in-movable in-counts n other ∙ old.7 n a s (omega (arith, below, other)) known there)
          (cases_eq n k),
      length-set movable k can ∙ old.8,
    )

pub returns-clause-offered : goal.returns-clause-offered
returns-clause-offered c n a s known there =
    c.loop-number.invariant.0 n a s (omega (arith, slice_get_within (map definition_of c.args.atoms.now) n a known, length-map c.args.atoms.now definition_of, c.loop-number-test.false)) known there

pub returns-clause-counted : goal.returns-clause-counted
returns-clause-counted c =
    let list = c.args.atoms.now in
    let old = c.loop-number.invariant in
    let below : (n : ℕ) (a : AtomDefinition) → slice_get (map definition_of list) n ≡ Some a → n < c.loop-number.number =
    λ n a known. omega (arith, slice_get_within (map definition_of list) n a known, length-map list definition_of, c.loop-number-test.false) in
    record {
      at_ports = λ n a s port known e. old.1 n a s port (below n a known) known e;
      past_ports = λ n a port known beyond. old.2 n a port (below n a known) known beyond;
      past_atoms = λ n port beyond. old.3 n port (omega (arith, beyond, length-map list definition_of, c.loop-number-test.false, c.loop-number.auto.number-end));
      few = old.4;
    }

pub returns-clause-movable : goal.returns-clause-movable
returns-clause-movable c n a s known there =
    c.loop-number.invariant.7 n a s (omega (arith, slice_get_within (map definition_of c.args.atoms.now) n a known, length-map c.args.atoms.now definition_of, c.loop-number-test.false)) known there
