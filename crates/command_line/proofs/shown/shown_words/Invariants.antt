use Rattle.std.proofs.Common.{◌≡◌, map, string_bytes, take}
use Rattle.shown_fault.specs.Shown.{shown}
use Rattle.command_line.proofs.shown.shown_words.Given as goal

-- the words before this place, as they are shown
abbrev pub invariant-loop-word : goal.invariant-loop-word
invariant-loop-word l = map string_bytes l.texts.items ≡ map (λ word. shown (string_bytes word)) (take l.word-index l.words)
