use Rattle.std.proofs.Common.{List}
use Rattle.std.proofs.lemmas.List.Elements.{All-map}
use mathlib.Core.List.{IsPrefix}
use Rattle.engine_host.specs.declared.entry.Entry.{Entry}
use Rattle.engine_host.proofs.host.Host.close.Goals as goal

pub returns-clause-history : goal.returns-clause-history
returns-clause-history g c = record {
  history = c.into_inner.result.history;
  leads = c.close.ensures.history;
  known = All-map (λ (xs : List Entry). IsPrefix xs c.into_inner.result.history) (λ s. s.watch) c.args.seats.items c.close.ensures.known;
}
