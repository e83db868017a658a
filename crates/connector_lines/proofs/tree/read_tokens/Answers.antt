use Rattle.std.proofs.Common.{◌≡◌, ◌∙◌, sym, ap, ◌+◌, ◌<◌, ◌≤◌, [], ◌∷◌, ◌++◌, length, append_assoc, append-nil, Some, Ok, arith}
use Rattle.connector_tree.specs.Tokens.{level_after}
use Rattle.connector_tree.specs.TokenFaults.{fault_in}
use Rattle.connector_tree.proofs.Levels.{one_level_more}
use Rattle.connector_lines.specs.Tokens.{token_in, tokens_in}
use Rattle.connector_lines.specs.Judging.{fault_after}
use Rattle.connector_lines.proofs.Readings.{all_read, all_closed, some_tokens, tree_of_tokens, word_is_after, one_more_is_made}
use Rattle.connector_lines.proofs.tree.read_tokens.Goals as goal

pub loop-word-preserved : goal.loop-word-preserved
loop-word-preserved g c =
    let named = g.N.Ports.port_named c.args.names.now in
    let seen = c.loop-word.invariant in
    let token = c.in_ok-token.token in
    let next = c.in_ok-next.next in
    let said : token_in named c.in-Some.word.now ≡ Ok token = sym c.in_ok-token.ensures in
    let goes : level_after token c.loop-word.level ≡ Some next = sym c.level_after.ensures ∙ c.in_ok-next.ensures.ok_part in
    let higher : next ≤ c.loop-word.level + 1 = one_level_more token c.loop-word.level next goes in
    record {
      before = seen.before ++ token ∷ [];
      are_made = one_more_is_made seen.before token c.loop-word.tokens c.with_token-tokens.result seen.are_made c.with_token-tokens.ensures;
      within = omega (arith, seen.within, higher, ap length c.in-Some.ensures.word);
      so_far = word_is_after named seen.before c.loop-word.level next c.loop-word.words c.next_word.new.self c.in-Some.word.now token c.in-Some.ensures.word said goes ∙ seen.so_far;
      judged = λ later some. sym (c.add.ensures next goes later) ∙ seen.judged (token ∷ later) (omega arith) ∙ ap fault_in (sym (append_assoc seen.before (token ∷ []) later));
    }

pub returns-in-Some-fault-clause-fault : goal.returns-in-Some-fault-clause-fault
returns-in-Some-fault-clause-fault g c =
    let named = g.N.Ports.port_named c.args.names.now in
    let seen = c.loop-word.invariant in
    let closed : c.loop-word.level ≡ 0 = omega arith in
    let read : tokens_in named 0 c.args.words.now ≡ Ok seen.before = all_read named c.args.words.now seen.before c.loop-word.level (tokens_in named c.loop-word.level c.loop-word.words) seen.so_far (all_closed named c.loop-word.level c.loop-word.words c.in_default.ensures.word closed) in
    let some : 0 < length seen.before = some_tokens named c.args.words.now seen.before c.requires.some read in
    tree_of_tokens named c.args.words.now seen.before (Some c.in-Some-fault.fault) c.requires.some read
    (ap fault_in (sym (append-nil seen.before)) ∙ sym (seen.judged [] (omega (arith, some))) ∙ ap (λ level. fault_after c.loop-word.shape level []) closed ∙ sym c.in-Some-fault.ensures)
