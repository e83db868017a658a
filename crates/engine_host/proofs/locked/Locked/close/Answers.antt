use Rattle.std.proofs.Common.{List, All, ap, subst}
use mathlib.Core.List.{IsPrefix}
use Rattle.engine_host.specs.Held.{Held}
use Rattle.engine_host.specs.declared.entry.Entry.{Entry}
use Rattle.engine_host.proofs.locked.Locked.close.Goals as goal

pub returns-clause-known : goal.returns-clause-known
returns-clause-known g c =
    subst (λ (xs : List Entry). All (λ s. IsPrefix s.watch xs) c.args.seats.items) (ap (λ (h : Held). h.history) c.self.view_is) c.gather-all.ensures.known
