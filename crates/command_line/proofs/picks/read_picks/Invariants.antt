use Rattle.std.proofs.Common.{◌≡◌, ℕ, List, map, drop, IfOk}
use Rattle.command_line.specs.Picks.{picks_after, picks_in}
use Rattle.command_line.proofs.picks.read_picks.Given as goal

-- what is left to read leads to the same end as all of it, after picks that were kept where there was memory for them
abbrev pub invariant-loop-word : goal.invariant-loop-word
invariant-loop-word l = record {
  before : List ℕ;
  kept : IfOk l.picks (λ picks. picks.items ≡ before);
  so_far : picks_after before (map (λ word. word.now) (drop l.word-index l.words)) ≡ picks_in (map (λ word. word.now) l.words);
}
