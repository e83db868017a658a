use Rattle.std.proofs.Common.{◌≡◌, ℕ, ◌-◌, ◌<◌, ◌==◌, ◌++◌, ◌∙◌, arith, append_assoc, codes, decimal}
use Rattle.std.proofs.lemmas.Bool.{cond-false, ne_eqb}
use Rattle.run_text.specs.Message.{count_message}
use Rattle.run_text.proofs.fault.ChoiceCountDisplay.fmt.Goals as goal

-- where there are more choices than one, their number is printed
told-many : (n : ℕ) → 1 < n → count_message n ≡ codes "there are " ++ (decimal n ++ (codes " choices (0 to " ++ (decimal (n - 1) ++ codes ")")))
told-many n more =
    cond-false (n == 0) _ _ (ne_eqb n 0 (λ none. omega (arith, more, none))) ∙
    cond-false (n == 1) _ _ (ne_eqb n 1 (λ one. omega (arith, more, one))) ∙ simp append_assoc

pub returns-in_default-clause-writes : goal.returns-in_default-clause-writes
returns-in_default-clause-writes g c plain well = let more : 1 < c.args.self.now.0 = omega arith in rw (told-many c.args.self.now.0 more) (c.write.ensures.writes plain well)
