use Rattle.std.proofs.Common.{◌≡◌, ℤ, refl, sym, ◌∙◌, ap}
use Rattle.std.specs.Prelude.{Option, Some, None}
use Rattle.std.specs.Bool.{Decides}
use Rattle.std.specs.Option.{option_eq}
use Rattle.std.specs.Ordering.{int_eq}
use Rattle.std.proofs.lemmas.Bool.{false≢true}
use Rattle.std.proofs.lemmas.Bool.Decides.{Decides-and, Decides-eqb, Decides-int_eq, Decides-like}
use Rattle.std.proofs.lemmas.Option.{none-some, same_Some}
use Rattle.std.proofs.lemmas.Slice.Eq.{slice_eq-Decides}
use Rattle.step_core.proofs.job.Job.has_fields_of.Goals as goal

same-value : (a b : Option ℤ) → Decides (option_eq int_eq a b) (a ≡ b)
same-value None None = ((λ yes. refl), (λ e. refl))
same-value None (Some y) = ((λ yes. absurd (false≢true yes)), (λ e. absurd (none-some y e)))
same-value (Some x) None = ((λ yes. absurd (false≢true yes)), (λ e. absurd (none-some x (sym e))))
same-value (Some x) (Some y) = Decides-like _ (λ e. ap Some e) (λ e. same_Some x y e) (Decides-int_eq x y)

pub returns : goal.returns
returns c =
    let mine = c.args.self.now in
    let theirs = c.args.other.now in
    let rows = slice_eq-Decides same-value c.row.result c.row-2.result c.eq.result c.eq.ensures in
    let delivered : Decides c.eq.result (mine.delivered ≡ theirs.delivered) = Decides-like _ (λ e. sym c.row.ensures ∙ e ∙ c.row-2.ensures) (λ e. c.row.ensures ∙ e ∙ sym c.row-2.ensures) rows in
    Decides-like _
    (λ same. record { atom = same.0.0.0.0; count = same.0.0.0.1; transition = same.0.0.1; delivered = same.0.1; state = same.1 })
    (λ is. ((((is.atom, is.count), is.transition), is.delivered), is.state))
    (Decides-and _ _ (Decides-and _ _ (Decides-and _ _ (Decides-and _ _ (Decides-eqb mine.atom theirs.atom) (Decides-eqb mine.count theirs.count)) (Decides-eqb mine.transition theirs.transition)) delivered) c.same.ensures)
