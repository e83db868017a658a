-- What a run that was stopped keeps.
use Rattle.recovery.specs.Formatting.{formatted_size}
use Rattle.plant_model.specs.System.{digest_of, plant_of}
use Rattle.crash_explorer.specs.Halting.{HaltedRun}
use Rattle.crash_explorer.specs.Running.{IsEnded, IsMadeUntil, device_in, fired_in}
use Rattle.crash_explorer.specs.Watching.{IsStoppedAt}
use Rattle.crash_explorer.specs.declared.halted.Halted.TheInside.{Inside}

-- the run, without what it came to
abbrev pub halted_by : Inside → HaltedRun
halted_by h = record { system = h.system.now; ring = h.ring; events = h.events.now; stop = h.stop }

-- The device was stopped at that write or sync, and the run came to what one of these events comes to until then.
pub record IsHalted (h : Inside) : Type 0 where
  pub stopped : ∥ IsStoppedAt h.stop h.cut h.ended.disk.disk ∥₁
  pub ended : IsEnded (plant_of h.system.now) (digest_of h.system.now) (formatted_size (plant_of h.system.now) h.ring) h.ended
  pub made : IsMadeUntil (plant_of h.system.now) (digest_of h.system.now) (formatted_size (plant_of h.system.now) h.ring) h.events.now h.ended.stage (fired_in h.ended) h.ended.acked (device_in h.ended)
