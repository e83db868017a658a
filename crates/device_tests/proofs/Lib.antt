mod FiveCells
mod AppendThenMove
mod NewDevice
