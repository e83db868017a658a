use Rattle.std.proofs.Common.{◌≡◌, ◌<◌, ◌∙◌, ℕ, Bool, cond, ap, sym, refl, subst, length, get_or, set, bit_or, arith}
use Rattle.std.specs.Prelude.{Some, slice_get}
use Rattle.std.proofs.lemmas.Bool.{or_parts}
use Rattle.std.proofs.lemmas.List.{get_or_default, length-map}
use Rattle.petri_atom.specs.Atom.{definition_of}
use Rattle.petri_atom.specs.Behind.{movable_set}
use Rattle.petri_atom.specs.Definition.{offered_set}
use Rattle.petri_atom.proofs.Sets.{has-or}
use Rattle.connector_tree.specs.Masks.{is_set}
use Rattle.connector_tree.specs.Tree.{leaves}
use Rattle.priority_filter.specs.Members.{has_bit}
use Rattle.plant_model.specs.System.{plant_of}
use Rattle.plant_model.specs.declared.usual.Put.{Put}
use Rattle.step_core.specs.EnabledTransitions.{AreCounted, IsFired}
use Rattle.step_core.specs.Leaves.{AreLeaves, count_of}
use Rattle.step_core.specs.Puts.{IsRight, is_put}
use Rattle.step_core.specs.Told.{IsTold}
use Rattle.step_core.specs.declared.changes.Changes.{Changes}
use Rattle.step_core.proofs.OfSystem.{atom-read, could-fire, few-atoms, few-connectors, none-reads, offered-within, quiet-right, read-right, readers-are, some-at, state-read}
use Rattle.step_core.proofs.Recounted.{counted-alike, put-back, written-at}
use Rattle.step_core.proofs.Telling.{more-told, told-alike, told-more, told-then}
use Rattle.step_core.proofs.UsualFirings.{all-leaves, all-told, usual-counted}
use Rattle.step_core.proofs.changes.Changes.judge_move.Goals as goal

-- what was fired is one of the atom's transitions
pub is_quiet-requires : goal.is_quiet-requires
is_quiet-requires c =
    let s = c.args.system.now in
    let k = c.args.step.atom in
    let item = c.index-atom.result.now in
    let known = atom-read s c.from-index.result k item c.from-index.ensures c.requires.atom c.index-atom.ensures in
    let state = some-at c.args.states.now k (omega (arith, c.requires.of_plant, c.requires.atom)) in
    let was = c.requires.fired (definition_of item) state.0 known state.1 in
    offered-within (definition_of item) was.before c.args.step.transition was.could

pub returns-then-is_quiet-clause-offered : goal.returns-then-is_quiet-clause-offered
returns-then-is_quiet-clause-offered c a s known there =
    let was = c.requires.fired a s known there in
    let could = could-fire c.args.system.now c.from-index.result c.args.step.atom c.index-atom.result.now c.args.step.transition was.before c.from-index.ensures c.requires.atom c.index-atom.ensures a known was.could in
    quiet-right c.args.system.now offered_set c.from-index.result c.args.step.atom c.index-atom.result.now c.args.step.transition was.before s was.delivered (get_or c.args.offers.now.sets c.args.step.atom 0)
    c.from-index.ensures c.requires.atom c.index-atom.ensures (c.is_quiet.ensures.offered c.if-is_quiet.true was.before was.delivered could) a known was.after was.offered

pub returns-then-is_quiet-clause-movable : goal.returns-then-is_quiet-clause-movable
returns-then-is_quiet-clause-movable c a s known there =
    let was = c.requires.fired a s known there in
    let could = could-fire c.args.system.now c.from-index.result c.args.step.atom c.index-atom.result.now c.args.step.transition was.before c.from-index.ensures c.requires.atom c.index-atom.ensures a known was.could in
    quiet-right c.args.system.now movable_set c.from-index.result c.args.step.atom c.index-atom.result.now c.args.step.transition was.before s was.delivered (get_or c.args.offers.now.movable c.args.step.atom 0)
    c.from-index.ensures c.requires.atom c.index-atom.ensures (c.is_quiet.ensures.movable c.if-is_quiet.true was.before was.delivered could) a known was.after was.movable

pub returns-then-is_quiet-clause-told : goal.returns-then-is_quiet-clause-told
returns-then-is_quiet-clause-told c =
    let s = c.args.system.now in
    let wires = (plant_of s).wires in
    let readers = readers-are s c.from-index.result c.args.step.atom c.index.result.now c.from-index.ensures c.requires.atom c.index.ensures in
    told-more wires (count_of c.args.offers.now.counts) c.args.self.now _ c.index.result.now refl refl (λ k past. readers k ∙ none-reads wires c.args.step.atom k past)

pub returns-then-is_quiet-clause-read : goal.returns-then-is_quiet-clause-read
returns-then-is_quiet-clause-read c k out =
    let s = c.args.system.now in
    let wires = (plant_of s).wires in
    let readers = readers-are s c.from-index.result c.args.step.atom c.index.result.now c.from-index.ensures c.requires.atom c.index.ensures in
    sym (readers k) ∙ more-told wires (count_of c.args.offers.now.counts) c.args.self.now _ c.index.result.now refl refl k out

pub judge_fired-requires-clause-fired : goal.judge_fired-requires-clause-fired
judge_fired-requires-clause-fired c =
    let s = c.args.system.now in
    let k = c.args.step.atom in
    let same = c.from-index.ensures in
    let item = c.index-atom.result.now in
    let state = c.index-state.result.now in
    let known = atom-read s c.from-index.result k item same c.requires.atom c.index-atom.ensures in
    let there = state-read s c.args.states.now c.from-index.result k state c.requires.of_plant same c.requires.atom (c.index-state.ensures ∙ ap (λ xs. get_or xs c.from-index.result state) c.states.view_is) in
    subst (λ j. IsFired (definition_of item) c.args.step.transition state (get_or c.args.offers.now.sets j 0) (get_or c.args.offers.now.movable j 0)) (sym same) (c.requires.fired (definition_of item) state known there)

pub recount-requires-clause-before : goal.recount-requires-clause-before
recount-requires-clause-before c a known =
    let s = c.args.system.now in
    let k = c.args.step.atom in
    let i = c.from-index.result in
    let same = c.from-index.ensures in
    let sets = c.args.offers.now.sets in
    let state = c.index-state.result.now in
    let there = state-read s c.args.states.now i k state c.requires.of_plant same c.requires.atom (c.index-state.ensures ∙ ap (λ xs. get_or xs i state) c.states.view_is) in
    let was = c.requires.fired a state known there in
    let within : i < length sets = omega (arith, same, c.requires.atom, few-atoms s) in
    (was.before, get_or_default sets i c.index-offers-index.result 0 within ∙ ap (λ j. get_or sets j 0) same ∙ was.offered)

pub recount-requires-clause-counted : goal.recount-requires-clause-counted
recount-requires-clause-counted c =
    let s = c.args.system.now in
    let atoms = (plant_of s).atoms in
    let k = c.args.step.atom in
    let i = c.from-index.result in
    let same = c.from-index.ensures in
    let sets = c.args.offers.now.sets in
    let judged = c.judge_fired.new.self in
    let here = get_or sets i c.index-offers-index.result in
    let now = offered_set (definition_of c.index-atom.result.now) c.index-state.result.now in
    let within : i < length sets = omega (arith, same, c.requires.atom, few-atoms s) in
    counted-alike atoms sets (set judged.sets k here) judged.counts
    (λ n. sym (ap (λ xs. get_or (set xs k here) n 0) c.judge_fired.ensures.sets ∙ ap (λ j. get_or (set (set sets i now) j here) n 0) (sym same) ∙ put-back sets i now here within (get_or_default sets i c.index-offers-index.result 0 within) n))
    (subst (AreCounted atoms sets) (sym c.judge_fired.ensures.counts) c.requires.counted)

pub returns-clause-offered : goal.returns-clause-offered
returns-clause-offered c =
    let s = c.args.system.now in
    let k = c.args.step.atom in
    let i = c.from-index.result in
    let same = c.from-index.ensures in
    let old = c.args.offers.now.sets in
    let item = c.index-atom.result.now in
    let state = c.index-state.result.now in
    let within : i < length old = omega (arith, same, c.requires.atom, few-atoms s) in
    read-right s offered_set c.args.states.now i k item state (get_or c.recount.new.offers.sets k 0) c.requires.of_plant same c.requires.atom c.index-atom.ensures
    (c.index-state.ensures ∙ ap (λ xs. get_or xs i state) c.states.view_is)
    (ap (λ xs. get_or xs k 0) (c.recount.ensures.sets ∙ c.judge_fired.ensures.sets) ∙ written-at old i k (offered_set (definition_of item) state) same within)

pub returns-clause-movable : goal.returns-clause-movable
returns-clause-movable c =
    let s = c.args.system.now in
    let k = c.args.step.atom in
    let i = c.from-index.result in
    let same = c.from-index.ensures in
    let old = c.args.offers.now.movable in
    let item = c.index-atom.result.now in
    let state = c.index-state.result.now in
    let within : i < length old = omega (arith, same, c.requires.atom, few-atoms s) in
    read-right s movable_set c.args.states.now i k item state (get_or c.recount.new.offers.movable k 0) c.requires.of_plant same c.requires.atom c.index-atom.ensures
    (c.index-state.ensures ∙ ap (λ xs. get_or xs i state) c.states.view_is)
    (ap (λ xs. get_or xs k 0) (c.recount.ensures.movable ∙ c.judge_fired.ensures.movable) ∙ written-at old i k (movable_set (definition_of item) state) same within)

pub returns-clause-told : goal.returns-clause-told
returns-clause-told c =
    let s = c.args.system.now in
    let wires = (plant_of s).wires in
    let old = c.args.offers.now.counts in
    let new = c.recount.new.offers.counts in
    let readers = readers-are s c.from-index.result c.args.step.atom c.index.result.now c.from-index.ensures c.requires.atom c.index.ensures in
    told-then wires (count_of old) (count_of old) (count_of new) c.args.self.now _ c.recount.new.self
    (told-more wires (count_of old) c.args.self.now _ c.index.result.now refl refl (λ k past. readers k ∙ none-reads wires c.args.step.atom k past))
    (told-alike wires (count_of c.judge_fired.new.self.counts) (count_of new) (count_of old) (count_of new) _ c.recount.new.self (λ p. ap (λ x. count_of x p) c.judge_fired.ensures.counts) (λ p. refl) c.recount.ensures.told)

pub returns-clause-read : goal.returns-clause-read
returns-clause-read c k out =
    let s = c.args.system.now in
    let wires = (plant_of s).wires in
    let readers = readers-are s c.from-index.result c.args.step.atom c.index.result.now c.from-index.ensures c.requires.atom c.index.ensures in
    sym (readers k) ∙ more-told wires (count_of c.args.offers.now.counts) c.args.self.now _ c.index.result.now refl refl k (c.recount.ensures.told.not_dirty k out)

pub usual_of-requires-clause-transition : goal.usual_of-requires-clause-transition
usual_of-requires-clause-transition c a known =
    let state = some-at c.args.states.now c.args.step.atom (omega (arith, c.requires.of_plant, c.requires.atom)) in
    let was = c.requires.fired a state.0 known state.1 in
    offered-within a was.before c.args.step.transition was.could

pub put_all-requires : goal.put_all-requires
put_all-requires c n p there =
    let s = c.args.system.now in
    let atoms = (plant_of s).atoms in
    let wires = (plant_of s).wires in
    let k = c.args.step.atom in
    let found = some-at atoms k c.requires.atom in
    let usual = c.in-Some.ensures.usual found.0 found.1 in
    omega (arith, (usual.right n p (ap (λ ps. slice_get ps n) (sym c.deref.ensures.value) ∙ there)).there, length-map wires (λ w. leaves w.connector), few-connectors s)

pub returns-in-Some-clause-offered : goal.returns-in-Some-clause-offered
returns-in-Some-clause-offered c a state known there =
    let s = c.args.system.now in
    let k = c.args.step.atom in
    let i = c.from-index.result in
    let words = c.args.offers.now.sets in
    let within : i < length words = omega (arith, c.requires.atom, few-atoms s, c.from-index.ensures) in
    ap (λ xs. get_or xs k 0) c.take.ensures.sets ∙ written-at words i k c.in-Some.usual.now.after c.from-index.ensures within ∙
    sym ((c.in-Some.ensures.usual a known).offered state (c.in-Some.ensures.places state there))

pub returns-in-Some-clause-movable : goal.returns-in-Some-clause-movable
returns-in-Some-clause-movable c a state known there =
    let s = c.args.system.now in
    let k = c.args.step.atom in
    let i = c.from-index.result in
    let words = c.args.offers.now.movable in
    let within : i < length words = omega (arith, c.requires.atom, few-atoms s, c.from-index.ensures) in
    ap (λ xs. get_or xs k 0) c.take.ensures.movable ∙ written-at words i k c.in-Some.usual.now.after c.from-index.ensures within ∙
    sym ((c.in-Some.ensures.usual a known).movable state (c.in-Some.ensures.places state there))

pub returns-in-Some-clause-counted : goal.returns-in-Some-clause-counted
returns-in-Some-clause-counted c =
    let s = c.args.system.now in
    let atoms = (plant_of s).atoms in
    let wires = (plant_of s).wires in
    let k = c.args.step.atom in
    let found = some-at atoms k c.requires.atom in
    let state = some-at c.args.states.now k (omega (arith, c.requires.of_plant, c.requires.atom)) in
    let was = c.requires.fired found.0 state.0 found.1 state.1 in
    let u = c.in-Some.usual.now in
    let usual = c.in-Some.ensures.usual found.0 found.1 in
    let sets = c.args.offers.now.sets in
    let counts = c.args.offers.now.counts in
    let in-sets : k < length sets = omega (arith, c.requires.atom, few-atoms s) in
    let in-counts : k < length counts = omega (arith, c.requires.atom, few-atoms s) in
    let before : u.before ≡ get_or sets k 0 = c.in-Some.ensures.before in
    subst (λ cs. AreCounted atoms c.take.new.self.sets cs) (sym (c.take.ensures.counts ∙ ap (λ j. set counts j u.counts) c.from-index.ensures))
    (subst (λ xs. AreCounted atoms xs (set counts k u.counts)) (sym (c.take.ensures.sets ∙ ap (λ j. set sets j u.after) c.from-index.ensures))
    (usual-counted atoms wires found.0 k found.1 u usual sets counts c.requires.counted was.before was.offered before in-sets in-counts))

pub returns-in-Some-clause-leaves : goal.returns-in-Some-clause-leaves
returns-in-Some-clause-leaves c =
    let s = c.args.system.now in
    let atoms = (plant_of s).atoms in
    let wires = (plant_of s).wires in
    let k = c.args.step.atom in
    let found = some-at atoms k c.requires.atom in
    let state = some-at c.args.states.now k (omega (arith, c.requires.of_plant, c.requires.atom)) in
    let was = c.requires.fired found.0 state.0 found.1 state.1 in
    let u = c.in-Some.usual.now in
    let usual = c.in-Some.ensures.usual found.0 found.1 in
    let sets = c.args.offers.now.sets in
    let counts = c.args.offers.now.counts in
    let in-sets : k < length sets = omega (arith, c.requires.atom, few-atoms s) in
    let in-counts : k < length counts = omega (arith, c.requires.atom, few-atoms s) in
    let before : u.before ≡ get_or sets k 0 = c.in-Some.ensures.before in
    let kept = c.args.leaves.now in
    let now = c.put_all.new.self in
    subst (λ cs. AreLeaves wires cs now) (sym (c.take.ensures.counts ∙ ap (λ j. set counts j u.counts) c.from-index.ensures))
    (all-leaves atoms wires found.0 k found.1 u usual sets counts c.requires.counted was.before was.offered before in-sets in-counts kept now c.requires.leaves
    (subst (λ ps. (right : ℕ → ℕ → Bool) → ((n : ℕ) (p : Put) → slice_get ps n ≡ Some p → IsRight right p.off p) → (j leaf : ℕ) → is_set (get_or now.off j 0) leaf ≡ cond (is_put ps j leaf) (right j leaf) (is_set (get_or kept.off j 0) leaf)) c.deref.ensures.value c.put_all.ensures.off)
    (subst (λ ps. (right : ℕ → ℕ → Bool) → ((n : ℕ) (p : Put) → slice_get ps n ≡ Some p → IsRight right p.many p) → (j leaf : ℕ) → is_set (get_or now.many j 0) leaf ≡ cond (is_put ps j leaf) (right j leaf) (is_set (get_or kept.many j 0) leaf)) c.deref.ensures.value c.put_all.ensures.many))

pub returns-in-Some-clause-told : goal.returns-in-Some-clause-told
returns-in-Some-clause-told c =
    let s = c.args.system.now in
    let atoms = (plant_of s).atoms in
    let wires = (plant_of s).wires in
    let k = c.args.step.atom in
    let found = some-at atoms k c.requires.atom in
    let state = some-at c.args.states.now k (omega (arith, c.requires.of_plant, c.requires.atom)) in
    let was = c.requires.fired found.0 state.0 found.1 state.1 in
    let u = c.in-Some.usual.now in
    let usual = c.in-Some.ensures.usual found.0 found.1 in
    let sets = c.args.offers.now.sets in
    let counts = c.args.offers.now.counts in
    let in-sets : k < length sets = omega (arith, c.requires.atom, few-atoms s) in
    let in-counts : k < length counts = omega (arith, c.requires.atom, few-atoms s) in
    let before : u.before ≡ get_or sets k 0 = c.in-Some.ensures.before in
    let readers = readers-are s c.from-index.result k c.index.result.now c.from-index.ensures c.requires.atom c.index.ensures in
    let own = c.args.self.now in
    let read : Changes = record { dirty = bit_or own.dirty c.index.result.now; heavy = own.heavy } in
    let later : Changes = record { dirty = bit_or read.dirty u.dirty; heavy = bit_or own.heavy u.heavy } in
    told-then wires (count_of counts) (count_of counts) (count_of c.take.new.self.counts) own read later
    (told-more wires (count_of counts) own read c.index.result.now refl refl (λ j past. readers j ∙ none-reads wires k j past))
    (subst (λ cs. IsTold wires (count_of counts) (count_of cs) read later) (sym (c.take.ensures.counts ∙ ap (λ j. set counts j u.counts) c.from-index.ensures))
    (all-told atoms wires found.0 k found.1 u usual sets counts c.requires.counted was.before was.offered before in-sets in-counts read later refl refl))

pub returns-in-Some-clause-read : goal.returns-in-Some-clause-read
returns-in-Some-clause-read c j out =
    let s = c.args.system.now in
    let wires = (plant_of s).wires in
    let own = c.args.self.now in
    let word = c.index.result.now in
    let read : Changes = record { dirty = bit_or own.dirty word; heavy = own.heavy } in
    let readers = readers-are s c.from-index.result c.args.step.atom word c.from-index.ensures c.requires.atom c.index.ensures in
    sym (readers j) ∙
    more-told wires (count_of c.args.offers.now.counts) own read word refl refl j
    (or_parts (has_bit read.dirty j) (has_bit c.in-Some.usual.now.dirty j) (sym (has-or read.dirty c.in-Some.usual.now.dirty j) ∙ out)).0
