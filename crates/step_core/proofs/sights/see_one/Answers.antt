use Rattle.std.proofs.Common.{◌≡◌, ℕ, ◌<◌, false, not, ◌||◌, length, get_or, sym, ap, ◌∙◌, ⊎_elim, arith}
use Rattle.std.proofs.lemmas.Bool.{cases_eq, eqb-true, not-false}
use Rattle.priority_filter.specs.Members.{has_bit}
use Rattle.priority_filter.specs.declared.seen.Seen.{Seen}
use Rattle.plant_model.specs.Sights.{says}
use Rattle.plant_model.proofs.Sighted.{seen-at, written-here, written-other, same-bit, same-known}
use Rattle.step_core.proofs.sights.see_one.Goals as goal

pub returns-else-before-now-clause-same : goal.returns-else-before-now-clause-same
returns-else-before-now-clause-same g c = λ none left right at there.
    let seen = c.args.seen.now in
    let i : ℕ = c.from-place.result in
    let nothing : Seen = record { known = false; places = 0 } in
    let before : Seen = get_or seen i nothing in
    let now : Seen = c.sight-now.result in
    let within : i < length seen = omega (arith, c.if-place-ge-SEEN_ATOMS.false, c.told-seen) in
    let known : before.known ≡ now.known = same-known before.known now.known c.if-before-now.false in
    ⊎_elim
    (λ here.
    written-here seen i now at within here ∙
    ap (λ b. not b || has_bit now.places at.place) (sym known) ∙
    ap (λ b. not before.known || b) (same-bit now.places before.places c.watched.result at.place (eqb-true _ 0 (not-false _ none)) (c.watched.ensures left right at there (here ∙ c.from-place.ensures))) ∙
    ap (λ j. says (get_or seen j nothing) at.place) (sym here) ∙
    sym (seen-at seen at (omega (arith, here, within)) nothing))
    (λ other. written-other seen i now at other)
    (cases_eq at.atom i)
