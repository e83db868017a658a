use Rattle.std.proofs.Common.{◌∙◌, ap, subst, map}
use Rattle.petri_atom.specs.Expression.{bare}
use Rattle.petri_atom.specs.Groups.{alike_set}
use Rattle.petri_atom.specs.StraightCode.{AreChangesOf, IsCodeOf}
use Rattle.petri_atom.specs.Transition.{transition_of}
use Rattle.petri_atom.proofs.Guards.{codable-guard}
use Rattle.petri_atom.proofs.transition_code.TransitionCode.of.Goals as goal

pub of-requires : goal.of-requires
of-requires c =
    codable-guard (transition_of c.args.transition.now) _ _ c.requires.codable c.guard.ensures c.bare.ensures

pub returns : goal.returns
returns c = (
  subst (IsCodeOf c.in_ok-of.field-0) (c.bare.ensures ∙ ap bare c.guard.ensures) c.in_ok-of.ensures,
  subst (AreChangesOf c.in_ok-changes_of.field-0.items) c.updates.ensures c.in_ok-changes_of.ensures,
  c.alike_among.ensures ∙ ap (λ guard. alike_set guard (map transition_of c.args.transitions.now)) c.guard-2.ensures,
)
