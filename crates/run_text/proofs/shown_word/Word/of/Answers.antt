use Rattle.std.proofs.Common.{ap, length, arith}
use Rattle.std.proofs.lemmas.List.{length_push}
use Rattle.run_text.proofs.ShownWord.{front-within}
use Rattle.run_text.proofs.shown_word.Word.of.Goals as goal

pub push-requires-clause-room : goal.push-requires-clause-room
push-requires-clause-room c = omega (arith, ap length c.front_of-shown.ensures, front-within c.args.word.now)

pub push-requires-then-word-gt-MOST_SHOWN-clause-room : goal.push-requires-then-word-gt-MOST_SHOWN-clause-room
push-requires-then-word-gt-MOST_SHOWN-clause-room c =
    omega (arith, ap length c.front_of-shown.ensures, front-within c.args.word.now, ap length c.push.ensures, length_push c.front_of-shown.result 46)
