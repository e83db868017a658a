use Rattle.std.proofs.Common.{◌∙◌, ◌≡◌, Bool, Some, None, true, false, ◌&&◌, ◌==◌, if◌then◌else◌, length, ◌≤◌, sym, ap, arith, rules}
use Rattle.std.specs.Option.{option_map}
use Rattle.std.proofs.lemmas.List.{length-drop}
use Rattle.plant_words.specs.Words.{is_filled}
use Rattle.plant_words.specs.Lent.{sides_of}
use Rattle.plant_words.proofs.Sides.{no_sides, sides_once}
use Rattle.plant_words.proofs.splits.sides.Goals as goal

pub returns-in_err-right : goal.returns-in_err-right
returns-in_err-right c =
    let none : length c.split_at.result.1.now ≡ 0 = search rules in
    let long : length c.args.word.now ≤ c.len_before.result = omega (arith, none, ap length c.split_at.ensures.back, length-drop c.len_before.result c.args.word.now) in
    ap (option_map sides_of) c.from_residual.ensures ∙ sym (no_sides c.args.byte c.args.word.now c.len_before.result c.len_before.ensures.value long)

pub returns-then-is_only-is_filled : goal.returns-then-is_only-is_filled
returns-then-is_only-is_filled c =
    let left = c.split_at.result.0.now in
    let right = c.in_ok-right.right.now in
    let test : ((c.len_before-2.result == length right) && is_filled left && is_filled right) ≡ true = search rules in
    let once = sides_once c.args.byte c.args.word.now left c.split_at.result.1.now c.in_ok-right.field-0-0.now right c.len_before.result c.len_before-2.result
    c.len_before.ensures.value c.split_at.ensures.front c.split_at.ensures.back c.in_ok-right.ensures.cases.0 c.len_before-2.ensures.value in
    sym (once ∙ ap (λ (b : Bool). if b then Some (left, right) else None) test)

pub returns-else-is_only-is_filled : goal.returns-else-is_only-is_filled
returns-else-is_only-is_filled c =
    let left = c.split_at.result.0.now in
    let right = c.in_ok-right.right.now in
    let test : ((c.len_before-2.result == length right) && is_filled left && is_filled right) ≡ false = search rules in
    let once = sides_once c.args.byte c.args.word.now left c.split_at.result.1.now c.in_ok-right.field-0-0.now right c.len_before.result c.len_before-2.result
    c.len_before.ensures.value c.split_at.ensures.front c.split_at.ensures.back c.in_ok-right.ensures.cases.0 c.len_before-2.ensures.value in
    sym (once ∙ ap (λ (b : Bool). if b then Some (left, right) else None) test)
