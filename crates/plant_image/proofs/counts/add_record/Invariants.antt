use Rattle.std.proofs.Common.{◌≡◌, ◌==◌, ◌<◌, ℕ, drop, find, min}
use Rattle.std.specs.Option.{option_map_or}
use Rattle.plant_model.specs.declared.limits.TheConstants.{MAX_ATOMS}
use Rattle.record_codec.specs.declared.entry.Entry.{Entry}
use Rattle.record_replay.specs.Records.{count_of}
use Rattle.plant_image.proofs.counts.add_record.Given as goal

-- the entries from this one on are counted
abbrev pub invariant-loop-place : goal.invariant-loop-place
invariant-loop-place l = (atom : ℕ) → atom < MAX_ATOMS
    → count_of l.most atom ≡ option_map_or (λ (e : Entry). min e.participation l.number) (find (λ (e : Entry). e.atom == atom) (drop l.place l.entries)) (count_of l.initial.most atom)
