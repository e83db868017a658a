use Rattle.std.proofs.Common.{ap, ◌∙◌, sym}
use Rattle.std.proofs.lemmas.Bool.Decides.{Decides-int_eq}
use Rattle.std.proofs.lemmas.Slice.Eq.{slice_eq-Decides}
use Rattle.petri_atom.proofs.States.{same_state}
use Rattle.petri_atom.proofs.state.AtomState.same.Goals as goal

pub returns-then-self-other : goal.returns-then-self-other
returns-then-self-other c =
    let decided = slice_eq-Decides Decides-int_eq _ _ c.eq.result c.eq.ensures in
    let mine = c.values.ensures in
    let theirs = c.values-then-self-other.ensures in (
      λ true. same_state _ _ (sym (ap (λ s. s.marking) c.self.view_is) ∙ c.if-self-other.true ∙ ap (λ s. s.marking) c.other.view_is)
          (sym mine ∙ decided.0 true ∙ theirs),
      λ same. decided.1 (mine ∙ ap (λ s. s.values) same ∙ sym theirs),
    )
