-- Whether a choice is one of a state's.
use Rattle.std.proofs.Common.{◌≡◌, ℕ, ◌∙◌, ap, sym, subst, refl, List, Contains, false, true}
use Rattle.std.specs.Bool.{Decides}
use Rattle.std.specs.Prelude.{IfSome, None, Option, Some, is_some, slice_get}
use Rattle.std.specs.Cmp.Lexicographic.{pointwise_decides}
use Rattle.std.proofs.lemmas.Bool.{false≢true}
use Rattle.std.proofs.lemmas.Bool.Decides.{Decides-and, Decides-eqb, Decides-like, same_from_decides}
use Rattle.std.proofs.lemmas.List.Folds.{Any-from_list_any, list_any-from_Any}
use Rattle.plant_model.specs.Choice.{ChoiceDefinition}
use Rattle.plant_model.specs.declared.choice.Move.{Move}
use Rattle.plant_model.proofs.Membership.{entry-in}
use Rattle.run_text.specs.Taken.{is_among, is_same_choice, is_same_move}

-- the same choice, part by part
same-move : (m n : Move) → Decides (is_same_move m n) (m ≡ n)
same-move m n =
    Decides-like _ (λ same. ap (λ k. record { atom = k; transition = m.transition }) same.0 ∙ ap (λ k. record { atom = n.atom; transition = k }) same.1)
    (λ e. (ap (λ x. x.atom) e, ap (λ x. x.transition) e))
    (Decides-and _ _ (Decides-eqb m.atom n.atom) (Decides-eqb m.transition n.transition))

pub same-choice : (c d : ChoiceDefinition) → Decides (is_same_choice c d) (c ≡ d)
same-choice c d =
    Decides-like _
    (λ same. ap (λ k. record { connector = k; mask = c.mask; moves = c.moves }) same.0.0 ∙
    ap (λ k. record { connector = d.connector; mask = k; moves = c.moves }) same.0.1 ∙
    ap (λ moves. record { connector = d.connector; mask = d.mask; moves = moves }) same.1)
    (λ e. ((ap (λ x. x.connector) e, ap (λ x. x.mask) e), ap (λ x. x.moves) e))
    (Decides-and _ _ (Decides-and _ _ (Decides-eqb c.connector d.connector) (Decides-eqb c.mask d.mask)) (pointwise_decides same-move c.moves d.moves))

-- a choice is one of some exactly where it is in the list
pub among-contains : (cs : List ChoiceDefinition) (c : ChoiceDefinition) → Decides (is_among cs c) (Contains cs c)
among-contains cs c = (
  λ found.
      let at = Any-from_list_any (is_same_choice c) cs found in
      subst (Contains cs) (sym ((same-choice c at.1).0 at.4)) (at.0, at.2, at.3),
  λ in_it. list_any-from_Any (is_same_choice c) cs (in_it.0, c, in_it.1, in_it.2, (same-choice c c).1 refl),
)

-- and so the place at which it is found tells, if there is one
pub told-by-place : (cs : List ChoiceDefinition) (c : ChoiceDefinition) (found : Option ℕ)
    → IfSome found (λ place. slice_get cs place ≡ Some c) → (found ≡ None → Contains cs c → ⊥) → is_some found ≡ is_among cs c
told-by-place cs c None there none = same_from_decides false (is_among cs c) (λ yes. absurd (false≢true yes), λ in_it. absurd (none refl in_it)) (among-contains cs c)
told-by-place cs c (Some place) there none = same_from_decides true (is_among cs c) (λ yes. entry-in cs place c there, λ in_it. refl) (among-contains cs c)
