use Rattle.std.proofs.Common.{sym, ◌∙◌, arith}
use Rattle.std.proofs.lemmas.Bool.{le-ltb}
use Rattle.priority_filter.proofs.Words.{no-bit-past}
use Rattle.priority_filter.proofs.seen.has_place.Goals as goal

pub returns-else-from-lt-SEEN_PLACES : goal.returns-else-from-lt-SEEN_PLACES
returns-else-from-lt-SEEN_PLACES c =
    le-ltb c.from.result 64 c.if-from-lt-SEEN_PLACES.false ∙ sym (no-bit-past c.args.places c.args.place (omega arith) (omega (arith, c.if-from-lt-SEEN_PLACES.false, c.from.ensures)))
