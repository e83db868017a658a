use Rattle.std.proofs.Common.{◌∙◌, ap, length, map, take, arith, ◌≤◌}
use Rattle.std.proofs.lemmas.List.{take_all, take_min}
use Rattle.run_text.specs.ShownWord.{shown_byte}
use Rattle.run_text.specs.declared.shown_word.TheConstants.{MOST_SHOWN}
use Rattle.run_text.proofs.shown_word.Word.front_of.Goals as goal

pub returns : goal.returns
returns c =
    let word = c.args.word.now in
    let front = take c.min.result word in
    let all : length front ≤ c.loop-byte.byte-index = omega arith in
    c.loop-byte.invariant ∙ ap (map shown_byte) (take_all c.loop-byte.byte-index front all ∙ ap (λ n. take n word) c.min.ensures ∙ take_min MOST_SHOWN word)
