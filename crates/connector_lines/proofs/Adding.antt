-- What a line adds to a connector, by the steps that read it.
use Rattle.std.proofs.Common.{◌≡◌, sym, refl, ◌<◌, ◌++◌, [], ◌∷◌, ℕ, List, length, Ok, Err}
use Rattle.std.specs.Prelude.{nat_lt}
use Rattle.std.proofs.lemmas.Bool.{ltb-true}
use Rattle.petri_atom.specs.Expression.{Tree}
use Rattle.plant_model.specs.Plant.{TransferDefinition, WireDefinition}
use Rattle.plant_model.specs.declared.limits.TheConstants.{MAX_GUARDS, MAX_TRANSFERS}
use Rattle.plant_model.specs.declared.wire.Export.{Export}
use Rattle.plant_words.specs.declared.line_fault.LineFault.{LineFault}
use Rattle.plant_words.specs.declared.line_fault.LineFault.TheVariants.{Limit}
use Rattle.plant_words.specs.Reading.{check}
use Rattle.plant_words.proofs.Exits.{fails, passes}
use Rattle.plant_words.proofs.Steps.{passed}
use Rattle.connector_lines.specs.Rows.{Named, whole_expression, transfer_in, guard_added, transfer_added}

-- there was room where the test of it was passed
pub had_room : (count limit : ℕ) (u : Unit {0}) → Ok u ≡ check (nat_lt count limit) Limit → count < limit
had_room count limit u is = ltb-true count limit (passed (nat_lt count limit) Limit u (sym is))

-- a guard clause without room, one that is at fault, and one that is added
pub no_guard_more : (named : Named) (words : List (List ℕ)) (w : WireDefinition) (fault : LineFault) →
    check (nat_lt (length w.guards) MAX_GUARDS) Limit ≡ Err fault → guard_added named words w ≡ Err fault
no_guard_more named words w fault room = fails _ (fails _ room)

pub guard_at_fault : (named : Named) (words : List (List ℕ)) (w : WireDefinition) (fault : LineFault) (u : Unit {0}) →
    check (nat_lt (length w.guards) MAX_GUARDS) Limit ≡ Ok u → whole_expression named words ≡ Err fault → guard_added named words w ≡ Err fault
guard_at_fault named words w fault u room read = fails _ (passes _ room (fails _ read))

pub guard_is_added : (named : Named) (words : List (List ℕ)) (w : WireDefinition) (guard : Tree Export) (u : Unit {0}) →
    check (nat_lt (length w.guards) MAX_GUARDS) Limit ≡ Ok u → whole_expression named words ≡ Ok guard → guard_added named words w ≡ Ok (record w { guards = w.guards ++ guard ∷ [] })
guard_is_added named words w guard u room read =
    passes _ (passes _ room (passes _ read refl)) refl

-- a transfer without room, one that is at fault, and one that is added
pub no_transfer_more : (named : Named) (words : List (List ℕ)) (w : WireDefinition) (fault : LineFault) →
    check (nat_lt (length w.transfers) MAX_TRANSFERS) Limit ≡ Err fault → transfer_added named words w ≡ Err fault
no_transfer_more named words w fault room = fails _ (fails _ room)

pub transfer_at_fault : (named : Named) (words : List (List ℕ)) (w : WireDefinition) (fault : LineFault) (u : Unit {0}) →
    check (nat_lt (length w.transfers) MAX_TRANSFERS) Limit ≡ Ok u → transfer_in named w.transfers words ≡ Err fault → transfer_added named words w ≡ Err fault
transfer_at_fault named words w fault u room read = fails _ (passes _ room (fails _ read))

pub transfer_is_added : (named : Named) (words : List (List ℕ)) (w : WireDefinition) (t : TransferDefinition) (u : Unit {0}) →
    check (nat_lt (length w.transfers) MAX_TRANSFERS) Limit ≡ Ok u → transfer_in named w.transfers words ≡ Ok t → transfer_added named words w ≡ Ok (record w { transfers = w.transfers ++ t ∷ [] })
transfer_is_added named words w t u room read =
    passes _ (passes _ room (passes _ read refl)) refl
