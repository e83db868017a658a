use Rattle.std.proofs.Common.{◌≡◌, ◌+◌, sym, subst, refl, arith, codes, drop, []}
use Rattle.std.specs.Prelude.{Some, slice_get}
use Rattle.std.proofs.lemmas.Option.{get_or_from_slice_get, slice_get_within}
use Rattle.petri_atom.specs.Atom.{definition_of}
use Rattle.petri_atom.specs.Transition.{transition_of}
use Rattle.petri_atom.specs.Definition.{is_small_transition}
use Rattle.text_io.specs.Numbered.{numbered}
use Rattle.text_io.proofs.Leading.{Leads}
use Rattle.blocked_text.specs.Idle.{hindered_word}
use Rattle.blocked_text.specs.Separated.{separated_after}
use Rattle.blocked_text.proofs.Entries.{made-at}
use Rattle.blocked_text.proofs.Separating.{leads-numbered}
use Rattle.blocked_text.proofs.Small.{entry-passes}
use Rattle.blocked_text.proofs.idle.print_hindered.Goals as goal

pub print_one-requires : goal.print_one-requires
print_one-requires g c =
    let ts = (definition_of c.args.atom.now).transitions in
    let i = c.loop-number.number in
    entry-passes is_small_transition ts i (transition_of c.transition-item.result) c.requires
    (made-at transition_of c.transitions-transition-items.result.now ts c.transitions-transition-items.ensures i i refl c.transition-item.result (omega arith) c.transition-item.is)

pub loop-number-preserved : goal.loop-number-preserved
loop-number-preserved g c =
    let ts = (definition_of c.args.atom.now).transitions in
    let i = c.loop-number.number in
    let t = transition_of c.transition-item.result in
    let there : slice_get ts i ≡ Some t =
    made-at transition_of c.transitions-transition-items.result.now ts c.transitions-transition-items.ensures i i refl c.transition-item.result (omega arith) c.transition-item.is in
    let word = hindered_word (definition_of c.args.atom.now) c.args.state.now c.args.port c.args.count in
    let next = g.W.Write.contents c.print_one.new.output in
    subst (λ before. Leads (g.W.Write.contents c.args.output.now) next (separated_after before (codes "; ") (numbered word (i + 1) (drop (i + 1) ts))) (separated_after [] (codes "; ") (numbered word 0 ts)))
    (sym c.in_ok-before.ensures.next)
    (leads-numbered word ts i t c.loop-number.before.now (codes "; ") (g.W.Write.contents c.args.output.now) (g.W.Write.contents c.loop-number.output) next _
    (slice_get_within ts i t there) (sym (get_or_from_slice_get ts i t t there)) c.loop-number.invariant c.in_ok-before.ensures.printed)
