use Rattle.std.proofs.Common.{ℕ, ◌+◌, ◌*◌, ◌%◌, ◌^◌, ◌&&◌, Bool, sym, ◌∙◌, ap, arith}
use Rattle.std.specs.Prelude.{bit_and, bit_or}
use Rattle.petri_atom.specs.Local.{has, set_below}
use Rattle.petri_atom.specs.Groups.{can_move_number}
use Rattle.petri_atom.proofs.Halves.{low-within, has-high, joined}
use Rattle.petri_atom.proofs.moving.moving.Goals as goal

pub moving_from-low-requires-clause-there : goal.moving_from-low-requires-clause-there
moving_from-low-requires-clause-there c n inside =
    let there = c.requires n (low-within c.args.set n (ap (λ x. has (bit_and c.args.set x) n) (sym c.from.ensures) ∙ inside)) in
    omega (arith, there)

pub moving_from-high-requires-clause-there : goal.moving_from-high-requires-clause-there
moving_from-high-requires-clause-there c n inside = c.requires (64 + n) (sym (has-high c.args.set n) ∙ inside)

pub returns : goal.returns
returns c ts drawn =
    let moves : ℕ → Bool = can_move_number ts c.args.marking in
    ap (λ x. bit_or (x * 2 ^ 64 % 2 ^ 128) c.from-3.result) c.from-2.ensures ∙
    ap (bit_or (c.moving_from-high.result * 2 ^ 64 % 2 ^ 128)) c.from-3.ensures ∙
    joined c.args.set c.moving_from-low.result c.moving_from-high.result moves
    (c.moving_from-low.ensures ts drawn ∙ ap (λ x. set_below 64 (λ n. has (bit_and c.args.set x) n && moves (0 + n))) c.from.ensures)
    (c.moving_from-high.ensures ts drawn)
