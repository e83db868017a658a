-- The first word that is no move is the first of those that are left, with those before it; and there are no more words than a line has bytes.
use Rattle.std.proofs.Common.{◌≡◌, ◌+◌, ◌≤◌, length}
use Rattle.std.specs.Prelude.{is_none}
use Rattle.std.specs.List.{position_or_len}
use Rattle.plant_model.specs.System.{plant_of}
use Rattle.recorded_picks.specs.Moves.{move_in}
use Rattle.script_lines.specs.Mistakes.{wrong_move_in}
use Rattle.script_lines.proofs.mistake_text.wrong_move_in.Given as goal

abbrev pub invariant-loop-word : goal.invariant-loop-word
invariant-loop-word l = record {
  same : l.place + position_or_len (λ word. is_none (move_in (plant_of l.system) word)) l.words ≡ wrong_move_in (plant_of l.system) l.line;
  fits : l.place + length l.words ≤ length l.line + 2;
}

abbrev pub decreases-loop-word : goal.decreases-loop-word
decreases-loop-word l = length l.words
