use Rattle.std.proofs.Common.{◌∙◌, ap, sym, eqb, false}
use Rattle.std.specs.Prelude.{is_none, slice_get}
use Rattle.std.specs.Option.{option_map_or}
use Rattle.std.proofs.lemmas.Bool.{le-ltb}
use Rattle.std.proofs.lemmas.Nat.Bits.{shr_and_one}
use Rattle.step_core.proofs.PartsKept.{none-past, told-away}
use Rattle.step_core.proofs.parts.PlantParts.is_away.Goals as goal

pub returns-then-atom-lt64 : goal.returns-then-atom-lt64
returns-then-atom-lt64 c =
    ap (λ b. eqb b 1) (shr_and_one c.self.inside.away c.args.atom) ∙
    sym (told-away c.self.inside.away c.self.inside.states c.self.invariant c.args.atom) ∙
    ap (λ parts. option_map_or is_none (slice_get parts c.args.atom) false) c.self.view_is

pub returns-else-atom-lt64 : goal.returns-else-atom-lt64
returns-else-atom-lt64 c =
    le-ltb c.args.atom 64 c.if-atom-lt64.false ∙
    sym (none-past c.self.inside.away c.self.inside.states c.self.invariant c.args.atom c.if-atom-lt64.false) ∙
    sym (told-away c.self.inside.away c.self.inside.states c.self.invariant c.args.atom) ∙
    ap (λ parts. option_map_or is_none (slice_get parts c.args.atom) false) c.self.view_is
