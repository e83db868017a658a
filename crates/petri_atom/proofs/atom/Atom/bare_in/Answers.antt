use Rattle.std.proofs.Common.{ℕ, ◌+◌, ◌*◌, ◌%◌, ◌^◌, ◌&&◌, Bool, sym, ◌∙◌, ap, arith}
use Rattle.std.specs.Prelude.{bit_and, bit_or}
use Rattle.petri_atom.specs.Atom.{definition_of}
use Rattle.petri_atom.specs.Local.{has, set_below}
use Rattle.petri_atom.specs.Groups.{passes_bare}
use Rattle.petri_atom.proofs.Halves.{low-within, has-high, joined}
use Rattle.petri_atom.proofs.atom.Atom.bare_in.Goals as goal

pub bare_from-low-requires-clause-there : goal.bare_from-low-requires-clause-there
bare_from-low-requires-clause-there c n inside =
    let there = c.requires n (low-within c.args.set n (ap (λ x. has (bit_and c.args.set x) n) (sym c.from.ensures) ∙ inside)) in
    omega (arith, there)

pub bare_from-high-requires-clause-there : goal.bare_from-high-requires-clause-there
bare_from-high-requires-clause-there c n inside = c.requires (64 + n) (sym (has-high c.args.set n) ∙ inside)

pub returns : goal.returns
returns c =
    let passes : ℕ → Bool = passes_bare (definition_of c.args.self.now).transitions c.args.state.now in
    ap (λ x. bit_or (x * 2 ^ 64 % 2 ^ 128) c.from-3.result) c.from-2.ensures ∙
    ap (bit_or (c.bare_from-high.result * 2 ^ 64 % 2 ^ 128)) c.from-3.ensures ∙
    joined c.args.set c.bare_from-low.result c.bare_from-high.result passes
    (c.bare_from-low.ensures ∙ ap (λ x. set_below 64 (λ n. has (bit_and c.args.set x) n && passes (0 + n))) c.from.ensures)
    c.bare_from-high.ensures
