use Rattle.std.proofs.Common.{◌≡◌, ◌++◌, ◌==◌, sym, subst, arith, cond, codes, false, OnOk, []}
use Rattle.std.specs.Io.KnownBytes.{Appends}
use Rattle.std.proofs.lemmas.Bool.Decides.{nat_tests}
use Rattle.petri_atom.specs.Atom.{definition_of}
use Rattle.text_io.proofs.Leading.{printed-last}
use Rattle.blocked_text.specs.Idle.{hindered_words}
use Rattle.blocked_text.specs.Separated.{separated_after}
use Rattle.blocked_text.proofs.idle.print_idle_by.Goals as goal

pub returns : goal.returns
returns g c =
    let words = separated_after [] (codes "; ") (hindered_words (definition_of c.args.atom.now) c.args.state.now c.args.port c.args.count) in
    let start = g.W.Write.contents c.args.output.now in
    let after = g.W.Write.contents c.print_hindered.new.output in
    let some : (c.args.count == 0) ≡ false = grind (arith, nat_tests) in
    subst (λ none. OnOk c.print_hindered.result (Appends start after (cond none (codes " has no transition") (codes " offers nothing: " ++ words)))) (sym some)
    (printed-last c.print_hindered.result start (g.W.Write.contents c.print_text-2.new.writer) after (codes " offers nothing: ") words c.in_ok-print_text.ensures c.print_hindered.ensures)
