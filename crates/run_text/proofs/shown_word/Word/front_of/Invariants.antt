use Rattle.std.proofs.Common.{◌≡◌, map, take}
use Rattle.run_text.specs.ShownWord.{shown_byte}
use Rattle.run_text.proofs.shown_word.Word.front_of.Given as goal

abbrev pub invariant-loop-byte : goal.invariant-loop-byte
invariant-loop-byte l = l.shown ≡ map shown_byte (take l.byte-index l.byte-items)
