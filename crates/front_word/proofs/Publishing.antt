-- The pass that has published.
use Rattle.std.proofs.Common.{◌≡◌, ◌++◌, ◌∷◌, [], List, true, map, ap, sym, ◌∙◌, subst}
use Rattle.atomic_table.specs.Seated.{TableId}
use Rattle.atomic_table.specs.declared.shared.Seat.{Seat}
use Rattle.plant_core.specs.declared.front.Front.{Front}
use Rattle.front_word.specs.declared.knowing.Known.{Known}
use Rattle.front_word.specs.Fronts.{IsNotBelow, IsRising, IsWithin, last_of}
use Rattle.front_word.specs.Passes.{IsPass}
use Rattle.front_word.specs.Rules.{knows}
use Rattle.front_word.proofs.Fronts.{map-snoc, rising-snoc}

abbrev with_seen : {E : Type 0} → Known E → List E → Known E
with_seen v xs = record v { seen = xs }

pub published_pass : {E : Type 0} (front : E → Front) (table : TableId) (opening : Front) (old new : Seat E (Known E)) (e : E) → IsPass front table opening true old
    → new.table_id ≡ old.table_id → new.me.0 ≡ record old.me.0 { seen = old.me.0.seen ++ e ∷ [] } → new.me.1 ≡ old.me.1
    → IsWithin opening (front e) → IsNotBelow (last_of opening (map front old.me.0.seen)) (front e) → IsPass front table opening true new
published_pass {E} front table opening old new e pass same me holds within rises =
    let more = old.me.0.seen ++ e ∷ [] in
    let seen : new.me.0.seen ≡ more = ap (λ v. v.seen) me in
    let fronts : map front more ≡ map front old.me.0.seen ++ front e ∷ [] = map-snoc front old.me.0.seen e in record {
      of_table = same ∙ pass.of_table;
      holds = holds ∙ pass.holds;
      knows_it = me ∙ (ap (λ (v : Known E). with_seen v more) pass.knows_it ∙ ap (λ xs. knows opening xs [] true) (sym seen));
      rises = subst (λ xs. IsRising opening opening (map front xs)) (sym seen) (subst (IsRising opening opening) (sym fronts) (rising-snoc opening opening (front e) (map front old.me.0.seen) pass.rises within rises));
      opens = pass.opens;
    }
