use Rattle.std.proofs.Common.{◌≡◌, ◌∙◌, ◌++◌, ◌-◌, ◌==◌, ap, sym, subst, append_assoc, codes, cond}
use Rattle.std.specs.Prelude.{decimal}
use Rattle.std.specs.Io.KnownBytes.{Appends}
use Rattle.std.proofs.lemmas.Bool.{ne_eqb}
use Rattle.step_session.specs.Answers.{there_text}
use Rattle.step_session.proofs.answers.print_there.Goals as goal

pub returns : goal.returns
returns g c =
    let count = c.args.count in
    let begun = codes "there are " ++ decimal count in
    let several = begun ++ codes " choices (0 to " ++ decimal (count - 1) ++ codes ")" in
    let said : there_text count ≡ codes "there are " ++ (decimal count ++ (codes " choices (0 to " ++ (decimal (count - 1) ++ codes ")"))) =
    ap (λ b. cond b (codes "nothing can be fired") (cond (count == 1) (codes "there is 1 choice (0)") several)) (ne_eqb count 0 c.if-count-eq0.false) ∙
    ap (λ b. cond b (codes "there is 1 choice (0)") several) (ne_eqb count 1 c.if-count-eq1.false) ∙
    append_assoc (begun ++ codes " choices (0 to ") (decimal (count - 1)) (codes ")") ∙
    append_assoc begun (codes " choices (0 to ") (decimal (count - 1) ++ codes ")") ∙
    append_assoc (codes "there are ") (decimal count) (codes " choices (0 to " ++ (decimal (count - 1) ++ codes ")")) in
    subst (Appends (g.W.Write.contents c.args.output.now) (g.W.Write.contents c.write.new.self)) (sym said) c.in_ok-write.ensures.bytes
