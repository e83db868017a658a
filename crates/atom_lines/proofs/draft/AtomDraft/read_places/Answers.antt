use Rattle.std.proofs.Common.{◌≡◌, ◌∙◌, ◌+◌, ◌≤◌, sym, ap, subst, ◌++◌, ◌∷◌, [], length, Ok, arith}
use Rattle.petri_atom.specs.declared.state.TheConstants.{MAX_PLACES}
use Rattle.std.proofs.lemmas.List.{length-append}
use Rattle.atom_lines.specs.Draft.{drafted}
use Rattle.atom_lines.specs.Transitions.{place_in}
use Rattle.atom_lines.proofs.Bounds.{are_below-more}
use Rattle.atom_lines.proofs.Few.{few_below}
use Rattle.atom_lines.proofs.SoundParts.{Listed, more_listed, place_after}
use Rattle.atom_lines.proofs.draft.AtomDraft.read_places.Goals as goal

pub push-requires : goal.push-requires
push-requires c =
    let d = c.args.self.now in
    let before = c.loop-word.places.items in
    let place = c.in_ok-place.place in
    let read : place_in (drafted d) before c.in-Some.word.now ≡ Ok place = ap (λ places. place_in (drafted d) places c.in-Some.word.now) (sym c.deref.ensures.0) ∙ sym c.in_ok-place.ensures.place in
    let listed = more_listed (drafted d) before c.in-Some.word.now place c.loop-word.invariant.listed read in
    let few : length (before ++ place ∷ []) ≤ length d.places.items = few_below (length d.places.items) (before ++ place ∷ []) listed.once listed.below in
    let longer : length (before ++ place ∷ []) ≡ length before + 1 = length-append before (place ∷ []) in
    (omega arith, omega (arith, few, longer, d.few_places))

pub loop-word-preserved : goal.loop-word-preserved
loop-word-preserved c =
    let d = c.args.self.now in
    let before = c.loop-word.places.items in
    let place = c.in_ok-place.place in
    let read : place_in (drafted d) before c.in-Some.word.now ≡ Ok place = ap (λ places. place_in (drafted d) places c.in-Some.word.now) (sym c.deref.ensures.0) ∙ sym c.in_ok-place.ensures.place in
    record {
      so_far = place_after (drafted d) before c.push.new.self.items c.in-Some.word.now c.next_in_places.new.words c.loop-word.words place c.push.ensures.items c.in-Some.ensures.word c.in-Some.ensures.end read ∙ c.loop-word.invariant.so_far;
      listed = subst (Listed (length d.places.items)) (sym c.push.ensures.items) (more_listed (drafted d) before c.in-Some.word.now place c.loop-word.invariant.listed read);
    }

pub returns-clause-within : goal.returns-clause-within
returns-clause-within c = are_below-more (length c.args.self.now.places.items) MAX_PLACES c.loop-word.places.items c.args.self.now.few_places c.loop-word.invariant.listed.below
