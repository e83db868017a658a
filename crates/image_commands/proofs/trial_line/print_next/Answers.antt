-- The parts are appended one after another, where there are any.
use Rattle.std.proofs.Common.{◌++◌, Bool, List, [], ℕ, Option, OnOk, subst, sym}
use Rattle.std.proofs.KnownBytes.{Appends-trans}
use Rattle.std.specs.Io.KnownBytes.{Appends}
use Rattle.std.specs.Prelude.{codes, decimal, if◌then◌else◌}
use Rattle.crash_explorer.specs.declared.outcome.Next.{Next}
use Rattle.image_commands.specs.Trials.{found_text, next_text}
use Rattle.image_commands.proofs.Trials.{appended_last}
use Rattle.image_commands.proofs.trial_line.print_next.Goals as goal

pub returns : goal.returns
returns g c =
    let n : Next = c.in-Some.next in
    let before = g.W.Write.contents c.args.output.now in
    let after = g.W.Write.contents c.print_found.new.output in
    let text : List ℕ = codes ", then with " ++ decimal n.fired ++ codes " more: " ++ found_text n.found in
    let line : OnOk c.print_found.result (Appends before after text) =
    appended_last _ _ _ _ _ _ (Appends-trans _ _ _ _ _ (Appends-trans _ _ _ _ _ c.in_ok-print_text.ensures c.in_ok-print_number.ensures) c.in_ok-print_text-2.ensures) c.print_found.ensures in
    subst (λ (o : Option Next). OnOk c.print_found.result (Appends before after (next_text o))) (sym c.in-Some.is)
    (subst (λ (b : Bool). OnOk c.print_found.result (Appends before after (if b then [] else text))) (sym c.if-next.false) line)
