use Rattle.std.proofs.Common.{◌≡◌, ◌+◌, ◌≤◌, length, take, drop, sym, ◌∙◌, ap, arith, rules}
use Rattle.std.proofs.lemmas.List.{drop-drop, drop_all, length-drop, take_rest}
use Rattle.recorded_picks.proofs.names.around_slash.Goals as goal

pub returns-in-empty-clause-before : goal.returns-in-empty-clause-before
returns-in-empty-clause-before c = c.split_at.ensures.front ∙ ap (λ n. take n c.args.word.now) c.len_before_slash.ensures.value

pub returns-in-empty-clause-after : goal.returns-in-empty-clause-after
returns-in-empty-clause-after c =
    let word = c.args.word.now in
    let n = c.len_before_slash.result in
    let none : length c.split_at.result.1.now ≡ 0 = search rules in
    let past : length word ≤ n = omega (arith, none, ap length c.split_at.ensures.back, length-drop n word) in
    c.split_at.ensures.back ∙ drop_all n word past ∙ sym (drop_all (n + 1) word (omega (arith, past))) ∙ ap (λ k. drop (k + 1) word) c.len_before_slash.ensures.value

pub returns-in-len1-up-clause-before : goal.returns-in-len1-up-clause-before
returns-in-len1-up-clause-before c = c.split_at.ensures.front ∙ ap (λ n. take n c.args.word.now) c.len_before_slash.ensures.value

pub returns-in-len1-up-clause-after : goal.returns-in-len1-up-clause-after
returns-in-len1-up-clause-after c =
    let word = c.args.word.now in
    let n = c.len_before_slash.result in
    take_rest c.split_at.result.1.now 1 ∙ ap (drop 1) c.split_at.ensures.back ∙ drop-drop 1 n word ∙ ap (λ k. drop (k + 1) word) c.len_before_slash.ensures.value
