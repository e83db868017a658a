-- What a handle owns: nothing at null, and else a box of the C library's heap with what C holds in it.
use Rattle.std.specs.Prelude.{Option}
use Rattle.std.specs.declared.option.Option.TheVariants.{None, Some}
use base.Fml.{Fml, ftrue, ffalse}
use denote.RattleType.{RattleType}
use denote.RawPtr.{Ptr, block_ptr, null_ptr}
use Rattle.std.specs.Box.Ownership.{box_owns}
use Rattle.std_heap.specs.contracts.GlobalAllocator.TheImpl.{ghosts}
use mir.Syntax.{Ty}
use Rattle.plant_for_c.specs.declared.thing.Thing.{Thing}
use Rattle.plant_for_c.specs.contracts.thing.Thing.{the_row}

-- `Thing`, as the logic has it
abbrev pub Row : RattleType
Row = the_row

-- what lets `Global` free the block at a pointer
abbrev pub token : Ty → Ptr → Fml
token = ghosts.dealloc_token (record { memory = record { seal = tt } })

-- nothing at null, or the box at the pointer with this in it
abbrev pub held_at : Ptr → Option Thing → Fml
held_at null_ptr None = ftrue
held_at null_ptr (Some x) = ffalse
held_at (block_ptr b o) None = ffalse
held_at (block_ptr b o) (Some x) = box_owns token Row (block_ptr b o) x
