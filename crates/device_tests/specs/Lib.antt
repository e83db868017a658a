pub mod AppendThenMove
