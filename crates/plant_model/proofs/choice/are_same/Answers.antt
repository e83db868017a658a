use Rattle.std.proofs.Common.{◌≡◌, ◌&&◌, ◌∙◌, ap, eqb}
use Rattle.std.specs.Bool.{Decides}
use Rattle.std.proofs.lemmas.Bool.Decides.{Decides-eqb, Decides-and, Decides-like}
use Rattle.std.proofs.lemmas.Slice.Eq.{slice_eq-Decides}
use Rattle.plant_model.specs.declared.choice.Move.{Move}
use Rattle.plant_model.proofs.choice.are_same.Goals as goal

same_move : (a b : Move) → Decides (eqb a.atom b.atom && eqb a.transition b.transition) (a ≡ b)
same_move a b =
    Decides-like _ (λ same. ap (λ n. record { atom = n; transition = a.transition }) same.0 ∙ ap (λ n. record { atom = b.atom; transition = n }) same.1)
    (λ e. (ap (λ m. m.atom) e, ap (λ m. m.transition) e))
    (Decides-and _ _ (Decides-eqb a.atom b.atom) (Decides-eqb a.transition b.transition))

pub returns : goal.returns
returns c = slice_eq-Decides same_move c.args.one.now c.args.other.now c.eq.result c.eq.ensures
