use Rattle.std.proofs.Common.{◌≡◌, ℕ, Bool, true, false, ◌||◌, refl, sym, ◌∙◌, ⊎_elim}
use Rattle.std.specs.FinSet as set
use Rattle.std.proofs.lemmas.Bool.{cases_Bool, both_ways, or_right}
use Rattle.priority_filter.proofs.MemberLaws.{held}
use Rattle.priority_filter.proofs.interaction_set.InteractionSet.add_words.Goals as goal

pub returns-then-added-clause-more : goal.returns-then-added-clause-more
returns-then-added-clause-more c = λ yes_.
    let some = c.has_other_bit-added.ensures.0 yes_ in
    let n : ℕ = some.0 in
    let mine : set.contains c.args.self.now n ≡ false = sym (held c.self.inside.words c.args.self.now c.self.view_is n) ∙ some.3 in
    let theirs : set.contains c.args.other.now n ≡ true = sym (held c.other.inside.words c.args.other.now c.other.view_is n) ∙ some.2 in
    (n, some.1, mine, c.union_words.ensures.within n some.1 ∙ or_right (set.contains c.args.self.now n) (set.contains c.args.other.now n) theirs)

-- if nothing of the other set is missing, all of both was in
no-more : (mine theirs : Bool) → (theirs ≡ true → mine ≡ true) → mine ≡ (mine || theirs)
no-more true theirs covered = refl
no-more false true covered = covered refl
no-more false false covered = refl

pub returns-else-added-clause-within : goal.returns-else-added-clause-within
returns-else-added-clause-within c n below =
    let mine : Bool = set.contains c.args.self.now n in
    let theirs : Bool = set.contains c.args.other.now n in
    no-more mine theirs (λ yes_. ⊎_elim
    (λ there. there)
    (λ missing. absurd (both_ways c.has_other_bit-added.result c.if-added.false (c.has_other_bit-added.ensures.1 (n, below, held c.other.inside.words c.args.other.now c.other.view_is n ∙ yes_, held c.self.inside.words c.args.self.now c.self.view_is n ∙ missing))))
    (cases_Bool mine))
